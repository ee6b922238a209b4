-- What each step of the reduction does to a metric tensor, with its basis change and the inverse of that.
--   tensor_of g              the six entries of a metric tensor
--   after_step step t        the metric tensor after a step
--   step_matrix step         the basis change, with the new axes as columns
--   step_inverse step        its inverse
--   multiple_of step         the multiple of an axis that is taken off another, 0 for other steps
-- Each has determinant 1: axes that change places are reversed as well, and axes are reversed two at a time.
use Rattle.std.specs.Prelude.{ℤ, pos, negsuc}
use Rattle.ring.specs.Ring.{Ops, int_ops}
use Rattle.matrix3.specs.declared.matrix.Mat3.{Mat3}
use Rattle.crystal_spec.specs.Matrices.{Matrix}
use Rattle.lattice_spec.specs.Tensor.{Tensor}
use Rattle.crystal.specs.declared.metric.Metric.{Metric}
use Rattle.lattice_reduce.specs.declared.step.Step.{Step}
use Rattle.lattice_reduce.specs.declared.step.Step.TheVariants.{ExchangeFirst, ExchangeLast, KeepFirst, KeepSecond, KeepThird, SecondLessFirst, ThirdLessSecond, ThirdLessFirst, AddToThird}

-- the six entries of a metric tensor
abbrev pub tensor_of : Metric → Tensor ℤ
tensor_of g = record { aa = g.aa; bb = g.bb; cc = g.cc; bc = g.bc; ac = g.ac; ab = g.ab }

-- over the operations of any ring, so that identities can be proved by computation
module _ {R : Type 0} (o : Ops R) where
  open o use {◌⊕◌, ◌⊗◌, opp, int}

  -- a and b change places, and all three axes are reversed
  abbrev pub exchange_first : Tensor R → Tensor R
  exchange_first s = record { aa = s.bb; bb = s.aa; cc = s.cc; bc = s.ac; ac = s.bc; ab = s.ab }

  -- b and c change places, and all three axes are reversed
  abbrev pub exchange_last : Tensor R → Tensor R
  exchange_last s = record { aa = s.aa; bb = s.cc; cc = s.bb; bc = s.bc; ac = s.ab; ab = s.ac }

  -- b and c are reversed
  abbrev pub keep_first : Tensor R → Tensor R
  keep_first s = record { aa = s.aa; bb = s.bb; cc = s.cc; bc = s.bc; ac = opp s.ac; ab = opp s.ab }

  -- a and c are reversed
  abbrev pub keep_second : Tensor R → Tensor R
  keep_second s = record { aa = s.aa; bb = s.bb; cc = s.cc; bc = opp s.bc; ac = s.ac; ab = opp s.ab }

  -- a and b are reversed
  abbrev pub keep_third : Tensor R → Tensor R
  keep_third s = record { aa = s.aa; bb = s.bb; cc = s.cc; bc = opp s.bc; ac = opp s.ac; ab = s.ab }

  -- b - k a in place of b
  abbrev pub second_less_first : R → Tensor R → Tensor R
  second_less_first k s =
      let ab = s.ab ⊕ opp (k ⊗ s.aa) in
      record { aa = s.aa; bb = s.bb ⊕ opp (k ⊗ (s.ab ⊕ ab)); cc = s.cc; bc = s.bc ⊕ opp (k ⊗ s.ac); ac = s.ac; ab = ab }

  -- c - k b in place of c
  abbrev pub third_less_second : R → Tensor R → Tensor R
  third_less_second k s =
      let bc = s.bc ⊕ opp (k ⊗ s.bb) in
      record { aa = s.aa; bb = s.bb; cc = s.cc ⊕ opp (k ⊗ (s.bc ⊕ bc)); bc = bc; ac = s.ac ⊕ opp (k ⊗ s.ab); ab = s.ab }

  -- c - k a in place of c
  abbrev pub third_less_first : R → Tensor R → Tensor R
  third_less_first k s =
      let ac = s.ac ⊕ opp (k ⊗ s.aa) in
      record { aa = s.aa; bb = s.bb; cc = s.cc ⊕ opp (k ⊗ (s.ac ⊕ ac)); bc = s.bc ⊕ opp (k ⊗ s.ab); ac = ac; ab = s.ab }

  -- a + b + c in place of c
  abbrev pub add_to_third : Tensor R → Tensor R
  add_to_third s =
      let bc = s.bb ⊕ s.bc ⊕ s.ab in
      let ac = s.aa ⊕ s.ac ⊕ s.ab in
      record { aa = s.aa; bb = s.bb; cc = s.cc ⊕ (s.bc ⊕ bc) ⊕ (s.ac ⊕ ac); bc = bc; ac = ac; ab = s.ab }

  -- a matrix by its rows
  abbrev rows : R → R → R → R → R → R → R → R → R → Mat3 R
  rows a b c d e f g h i = record { a11 = a; a12 = b; a13 = c; a21 = d; a22 = e; a23 = f; a31 = g; a32 = h; a33 = i }

  abbrev zero' : R
  zero' = int (pos 0)

  abbrev one' : R
  one' = int (pos 1)

  abbrev minus' : R
  minus' = int (negsuc 0)

  -- the basis changes
  abbrev pub exchange_first_matrix : Mat3 R
  exchange_first_matrix = rows zero' minus' zero' minus' zero' zero' zero' zero' minus'

  abbrev pub exchange_last_matrix : Mat3 R
  exchange_last_matrix = rows minus' zero' zero' zero' zero' minus' zero' minus' zero'

  abbrev pub keep_first_matrix : Mat3 R
  keep_first_matrix = rows one' zero' zero' zero' minus' zero' zero' zero' minus'

  abbrev pub keep_second_matrix : Mat3 R
  keep_second_matrix = rows minus' zero' zero' zero' one' zero' zero' zero' minus'

  abbrev pub keep_third_matrix : Mat3 R
  keep_third_matrix = rows minus' zero' zero' zero' minus' zero' zero' zero' one'

  abbrev pub second_less_first_matrix : R → Mat3 R
  second_less_first_matrix k = rows one' (opp k) zero' zero' one' zero' zero' zero' one'

  abbrev pub third_less_second_matrix : R → Mat3 R
  third_less_second_matrix k = rows one' zero' zero' zero' one' (opp k) zero' zero' one'

  abbrev pub third_less_first_matrix : R → Mat3 R
  third_less_first_matrix k = rows one' zero' (opp k) zero' one' zero' zero' zero' one'

  abbrev pub add_to_third_matrix : Mat3 R
  add_to_third_matrix = rows one' zero' one' zero' one' one' zero' zero' one'

  -- their inverses; the first five are their own
  abbrev pub second_less_first_inverse : R → Mat3 R
  second_less_first_inverse k = rows one' k zero' zero' one' zero' zero' zero' one'

  abbrev pub third_less_second_inverse : R → Mat3 R
  third_less_second_inverse k = rows one' zero' zero' zero' one' k zero' zero' one'

  abbrev pub third_less_first_inverse : R → Mat3 R
  third_less_first_inverse k = rows one' zero' k zero' one' zero' zero' zero' one'

  abbrev pub add_to_third_inverse : Mat3 R
  add_to_third_inverse = rows one' zero' minus' zero' one' minus' zero' zero' one'

-- the metric tensor after a step
abbrev pub after_step : Step → Tensor ℤ → Tensor ℤ
after_step ExchangeFirst s = exchange_first int_ops s
after_step ExchangeLast s = exchange_last int_ops s
after_step KeepFirst s = keep_first int_ops s
after_step KeepSecond s = keep_second int_ops s
after_step KeepThird s = keep_third int_ops s
after_step (SecondLessFirst k) s = second_less_first int_ops k s
after_step (ThirdLessSecond k) s = third_less_second int_ops k s
after_step (ThirdLessFirst k) s = third_less_first int_ops k s
after_step AddToThird s = add_to_third int_ops s

-- its basis change
abbrev pub step_matrix : Step → Matrix
step_matrix ExchangeFirst = exchange_first_matrix int_ops
step_matrix ExchangeLast = exchange_last_matrix int_ops
step_matrix KeepFirst = keep_first_matrix int_ops
step_matrix KeepSecond = keep_second_matrix int_ops
step_matrix KeepThird = keep_third_matrix int_ops
step_matrix (SecondLessFirst k) = second_less_first_matrix int_ops k
step_matrix (ThirdLessSecond k) = third_less_second_matrix int_ops k
step_matrix (ThirdLessFirst k) = third_less_first_matrix int_ops k
step_matrix AddToThird = add_to_third_matrix int_ops

-- the inverse of its basis change
abbrev pub step_inverse : Step → Matrix
step_inverse ExchangeFirst = exchange_first_matrix int_ops
step_inverse ExchangeLast = exchange_last_matrix int_ops
step_inverse KeepFirst = keep_first_matrix int_ops
step_inverse KeepSecond = keep_second_matrix int_ops
step_inverse KeepThird = keep_third_matrix int_ops
step_inverse (SecondLessFirst k) = second_less_first_inverse int_ops k
step_inverse (ThirdLessSecond k) = third_less_second_inverse int_ops k
step_inverse (ThirdLessFirst k) = third_less_first_inverse int_ops k
step_inverse AddToThird = add_to_third_inverse int_ops

-- the multiple that is taken off
abbrev pub multiple_of : Step → ℤ
multiple_of ExchangeFirst = pos 0
multiple_of ExchangeLast = pos 0
multiple_of KeepFirst = pos 0
multiple_of KeepSecond = pos 0
multiple_of KeepThird = pos 0
multiple_of (SecondLessFirst k) = k
multiple_of (ThirdLessSecond k) = k
multiple_of (ThirdLessFirst k) = k
multiple_of AddToThird = pos 0
