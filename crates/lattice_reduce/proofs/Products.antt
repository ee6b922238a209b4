-- The products of a basis change with the matrix of a step are integers of the program.
--   base_fits     the basis change times the matrix of the step
--   back_fits     the inverse of that times the inverse basis change
-- Entries of the two basis changes, before and after the step, are at most 10^25. Where the step has an entry k, it stands in
-- a sum p + y, p the product with k: the sum is an entry after the step and y one before it, so p is at most 2 · 10^25. All
-- other entries of a step are -1, 0 and 1.
use Rattle.std.proofs.Common.{◌^◌, ℤ, pos, negsuc, ◌+ℤ◌, ◌*ℤ◌, neg_ℤ, arith}
use Rattle.std.proofs.lemmas.Int.{ints}
use Rattle.ring.specs.Ring.{int_ops}
use Rattle.ring.specs.Size.{AtMost}
use Rattle.ring.proofs.Sizes.{at_most_mul, at_most_add, weaken}
use Rattle.matrix3.specs.Matrices.{product, dot, EachEntry}
use Rattle.matrix3.specs.Fits.{DotFits, ProductFits}
use Rattle.crystal_spec.specs.Matrices.{Matrix}
use Rattle.lattice_reduce.specs.declared.step.Step.{Step}
use Rattle.lattice_reduce.specs.declared.step.Step.TheVariants.{ExchangeFirst, ExchangeLast, KeepFirst, KeepSecond, KeepThird, SecondLessFirst, ThirdLessSecond, ThirdLessFirst, AddToThird}
use Rattle.lattice_reduce.specs.Steps.{step_matrix, step_inverse, second_less_first_matrix, third_less_second_matrix, third_less_first_matrix, second_less_first_inverse, third_less_second_inverse, third_less_first_inverse}

-- the entries of a matrix are small
abbrev pub IsSmall : Matrix → Type 0
IsSmall m = EachEntry (AtMost (10 ^ 25)) m

-- the integers of the program
abbrev pub IsInt : ℤ → Type 0
IsInt z = AtMost (10 ^ 36) z

-- ---- sums of three products

dot_by : {a b c x y z : ℤ} → AtMost (10 ^ 30) (a *ℤ x) → AtMost (10 ^ 30) (b *ℤ y) → AtMost (10 ^ 30) (c *ℤ z) → DotFits int_ops IsInt a b c x y z
dot_by p q r = record {
  first = weaken (10 ^ 36) p tt;
  second = weaken (10 ^ 36) q tt;
  third = weaken (10 ^ 36) r tt;
  two = weaken (10 ^ 36) (at_most_add p q) tt;
  three = weaken (10 ^ 36) (at_most_add (at_most_add p q) r) tt;
}

unit_right : {a x : ℤ} → AtMost (10 ^ 25) a → AtMost 1 x → AtMost (10 ^ 30) (a *ℤ x)
unit_right h k = weaken (10 ^ 30) (at_most_mul h k) tt

unit_left : {a x : ℤ} → AtMost 1 a → AtMost (10 ^ 25) x → AtMost (10 ^ 30) (a *ℤ x)
unit_left h k = weaken (10 ^ 30) (at_most_mul h k) tt

zero_unit : AtMost 1 (pos 0)
zero_unit = record { size = omega arith }

one_unit : AtMost 1 (pos 1)
one_unit = record { size = omega arith }

minus_unit : AtMost 1 (negsuc 0)
minus_unit = record { size = omega arith }

units_right : {a b c x y z : ℤ} → AtMost (10 ^ 25) a → AtMost (10 ^ 25) b → AtMost (10 ^ 25) c → AtMost 1 x → AtMost 1 y → AtMost 1 z → DotFits int_ops IsInt a b c x y z
units_right p q r u v w = dot_by (unit_right p u) (unit_right q v) (unit_right r w)

units_left : {a b c x y z : ℤ} → AtMost 1 a → AtMost 1 b → AtMost 1 c → AtMost (10 ^ 25) x → AtMost (10 ^ 25) y → AtMost (10 ^ 25) z → DotFits int_ops IsInt a b c x y z
units_left u v w p q r = dot_by (unit_left u p) (unit_left v q) (unit_left w r)

-- ---- steps with entries -1, 0 and 1

right_by_units : (m n : Matrix) → IsSmall m → EachEntry (AtMost 1) n → ProductFits int_ops IsInt m n
right_by_units m n s u = record {
  a11 = units_right s.a11 s.a12 s.a13 u.a11 u.a21 u.a31;
  a12 = units_right s.a11 s.a12 s.a13 u.a12 u.a22 u.a32;
  a13 = units_right s.a11 s.a12 s.a13 u.a13 u.a23 u.a33;
  a21 = units_right s.a21 s.a22 s.a23 u.a11 u.a21 u.a31;
  a22 = units_right s.a21 s.a22 s.a23 u.a12 u.a22 u.a32;
  a23 = units_right s.a21 s.a22 s.a23 u.a13 u.a23 u.a33;
  a31 = units_right s.a31 s.a32 s.a33 u.a11 u.a21 u.a31;
  a32 = units_right s.a31 s.a32 s.a33 u.a12 u.a22 u.a32;
  a33 = units_right s.a31 s.a32 s.a33 u.a13 u.a23 u.a33;
}

left_by_units : (m n : Matrix) → EachEntry (AtMost 1) m → IsSmall n → ProductFits int_ops IsInt m n
left_by_units m n u s = record {
  a11 = units_left u.a11 u.a12 u.a13 s.a11 s.a21 s.a31;
  a12 = units_left u.a11 u.a12 u.a13 s.a12 s.a22 s.a32;
  a13 = units_left u.a11 u.a12 u.a13 s.a13 s.a23 s.a33;
  a21 = units_left u.a21 u.a22 u.a23 s.a11 s.a21 s.a31;
  a22 = units_left u.a21 u.a22 u.a23 s.a12 s.a22 s.a32;
  a23 = units_left u.a21 u.a22 u.a23 s.a13 s.a23 s.a33;
  a31 = units_left u.a31 u.a32 u.a33 s.a11 s.a21 s.a31;
  a32 = units_left u.a31 u.a32 u.a33 s.a12 s.a22 s.a32;
  a33 = units_left u.a31 u.a32 u.a33 s.a13 s.a23 s.a33;
}

-- ---- steps that take a multiple off: the one large product, from the sum that it stands in

cancel_first : (p y z : ℤ) → AtMost (10 ^ 25) (p +ℤ y *ℤ pos 1 +ℤ z *ℤ pos 0) → AtMost (10 ^ 25) y → AtMost (10 ^ 30) p
cancel_first p y z h k = record { size = omega (arith, ints, h.size, k.size) }

cancel_first' : (p y z : ℤ) → AtMost (10 ^ 25) (p +ℤ y *ℤ pos 0 +ℤ z *ℤ pos 1) → AtMost (10 ^ 25) z → AtMost (10 ^ 30) p
cancel_first' p y z h k = record { size = omega (arith, ints, h.size, k.size) }

cancel_second : (x p z : ℤ) → AtMost (10 ^ 25) (x *ℤ pos 0 +ℤ p +ℤ z *ℤ pos 1) → AtMost (10 ^ 25) z → AtMost (10 ^ 30) p
cancel_second x p z h k = record { size = omega (arith, ints, h.size, k.size) }

cancel_left_second : (x p z : ℤ) → AtMost (10 ^ 25) (pos 1 *ℤ x +ℤ p +ℤ pos 0 *ℤ z) → AtMost (10 ^ 25) x → AtMost (10 ^ 30) p
cancel_left_second x p z h k = record { size = omega (arith, ints, h.size, k.size) }

cancel_left_third : (x y p : ℤ) → AtMost (10 ^ 25) (pos 0 *ℤ x +ℤ pos 1 *ℤ y +ℤ p) → AtMost (10 ^ 25) y → AtMost (10 ^ 30) p
cancel_left_third x y p h k = record { size = omega (arith, ints, h.size, k.size) }

cancel_left_third' : (x y p : ℤ) → AtMost (10 ^ 25) (pos 1 *ℤ x +ℤ pos 0 *ℤ y +ℤ p) → AtMost (10 ^ 25) x → AtMost (10 ^ 30) p
cancel_left_third' x y p h k = record { size = omega (arith, ints, h.size, k.size) }

-- a row times the column (-k, 1, 0)
column_first : (a b c k : ℤ) → AtMost (10 ^ 25) (dot int_ops a b c (neg_ℤ k) (pos 1) (pos 0)) → AtMost (10 ^ 25) b → AtMost (10 ^ 25) c → DotFits int_ops IsInt a b c (neg_ℤ k) (pos 1) (pos 0)
column_first a b c k h q r = dot_by (cancel_first (a *ℤ neg_ℤ k) b c h q) (unit_right q one_unit) (unit_right r zero_unit)

-- a row times the column (-k, 0, 1)
column_first' : (a b c k : ℤ) → AtMost (10 ^ 25) (dot int_ops a b c (neg_ℤ k) (pos 0) (pos 1)) → AtMost (10 ^ 25) b → AtMost (10 ^ 25) c → DotFits int_ops IsInt a b c (neg_ℤ k) (pos 0) (pos 1)
column_first' a b c k h q r = dot_by (cancel_first' (a *ℤ neg_ℤ k) b c h r) (unit_right q zero_unit) (unit_right r one_unit)

-- a row times the column (0, -k, 1)
column_second : (a b c k : ℤ) → AtMost (10 ^ 25) (dot int_ops a b c (pos 0) (neg_ℤ k) (pos 1)) → AtMost (10 ^ 25) a → AtMost (10 ^ 25) c → DotFits int_ops IsInt a b c (pos 0) (neg_ℤ k) (pos 1)
column_second a b c k h p r = dot_by (unit_right p zero_unit) (cancel_second a (b *ℤ neg_ℤ k) c h r) (unit_right r one_unit)

-- the row (1, k, 0) times a column
row_second : (k x y z : ℤ) → AtMost (10 ^ 25) (dot int_ops (pos 1) k (pos 0) x y z) → AtMost (10 ^ 25) x → AtMost (10 ^ 25) z → DotFits int_ops IsInt (pos 1) k (pos 0) x y z
row_second k x y z h p r = dot_by (unit_left one_unit p) (cancel_left_second x (k *ℤ y) z h p) (unit_left zero_unit r)

-- the row (0, 1, k) times a column
row_third : (k x y z : ℤ) → AtMost (10 ^ 25) (dot int_ops (pos 0) (pos 1) k x y z) → AtMost (10 ^ 25) x → AtMost (10 ^ 25) y → DotFits int_ops IsInt (pos 0) (pos 1) k x y z
row_third k x y z h p q = dot_by (unit_left zero_unit p) (unit_left one_unit q) (cancel_left_third x y (k *ℤ z) h q)

-- the row (1, 0, k) times a column
row_third' : (k x y z : ℤ) → AtMost (10 ^ 25) (dot int_ops (pos 1) (pos 0) k x y z) → AtMost (10 ^ 25) x → AtMost (10 ^ 25) y → DotFits int_ops IsInt (pos 1) (pos 0) k x y z
row_third' k x y z h p q = dot_by (unit_left one_unit p) (unit_left zero_unit q) (cancel_left_third' x y (k *ℤ z) h p)

-- a row times the unit columns, and the unit rows times a column
module _ {a b c : ℤ} (p : AtMost (10 ^ 25) a) (q : AtMost (10 ^ 25) b) (r : AtMost (10 ^ 25) c) where
  first_column : DotFits int_ops IsInt a b c (pos 1) (pos 0) (pos 0)
  first_column = units_right p q r one_unit zero_unit zero_unit

  second_column : DotFits int_ops IsInt a b c (pos 0) (pos 1) (pos 0)
  second_column = units_right p q r zero_unit one_unit zero_unit

  third_column : DotFits int_ops IsInt a b c (pos 0) (pos 0) (pos 1)
  third_column = units_right p q r zero_unit zero_unit one_unit

  first_row : DotFits int_ops IsInt (pos 1) (pos 0) (pos 0) a b c
  first_row = units_left one_unit zero_unit zero_unit p q r

  second_row : DotFits int_ops IsInt (pos 0) (pos 1) (pos 0) a b c
  second_row = units_left zero_unit one_unit zero_unit p q r

  third_row : DotFits int_ops IsInt (pos 0) (pos 0) (pos 1) a b c
  third_row = units_left zero_unit zero_unit one_unit p q r

module _ (m : Matrix) (k : ℤ) (s : IsSmall m) where
  base_second_less_first : IsSmall (product int_ops m (second_less_first_matrix int_ops k)) → ProductFits int_ops IsInt m (second_less_first_matrix int_ops k)
  base_second_less_first q = record {
    a11 = first_column s.a11 s.a12 s.a13;
    a12 = column_first m.a11 m.a12 m.a13 k q.a12 s.a12 s.a13;
    a13 = third_column s.a11 s.a12 s.a13;
    a21 = first_column s.a21 s.a22 s.a23;
    a22 = column_first m.a21 m.a22 m.a23 k q.a22 s.a22 s.a23;
    a23 = third_column s.a21 s.a22 s.a23;
    a31 = first_column s.a31 s.a32 s.a33;
    a32 = column_first m.a31 m.a32 m.a33 k q.a32 s.a32 s.a33;
    a33 = third_column s.a31 s.a32 s.a33;
  }

  base_third_less_second : IsSmall (product int_ops m (third_less_second_matrix int_ops k)) → ProductFits int_ops IsInt m (third_less_second_matrix int_ops k)
  base_third_less_second q = record {
    a11 = first_column s.a11 s.a12 s.a13;
    a12 = second_column s.a11 s.a12 s.a13;
    a13 = column_second m.a11 m.a12 m.a13 k q.a13 s.a11 s.a13;
    a21 = first_column s.a21 s.a22 s.a23;
    a22 = second_column s.a21 s.a22 s.a23;
    a23 = column_second m.a21 m.a22 m.a23 k q.a23 s.a21 s.a23;
    a31 = first_column s.a31 s.a32 s.a33;
    a32 = second_column s.a31 s.a32 s.a33;
    a33 = column_second m.a31 m.a32 m.a33 k q.a33 s.a31 s.a33;
  }

  base_third_less_first : IsSmall (product int_ops m (third_less_first_matrix int_ops k)) → ProductFits int_ops IsInt m (third_less_first_matrix int_ops k)
  base_third_less_first q = record {
    a11 = first_column s.a11 s.a12 s.a13;
    a12 = second_column s.a11 s.a12 s.a13;
    a13 = column_first' m.a11 m.a12 m.a13 k q.a13 s.a12 s.a13;
    a21 = first_column s.a21 s.a22 s.a23;
    a22 = second_column s.a21 s.a22 s.a23;
    a23 = column_first' m.a21 m.a22 m.a23 k q.a23 s.a22 s.a23;
    a31 = first_column s.a31 s.a32 s.a33;
    a32 = second_column s.a31 s.a32 s.a33;
    a33 = column_first' m.a31 m.a32 m.a33 k q.a33 s.a32 s.a33;
  }

  back_second_less_first : IsSmall (product int_ops (second_less_first_inverse int_ops k) m) → ProductFits int_ops IsInt (second_less_first_inverse int_ops k) m
  back_second_less_first q = record {
    a11 = row_second k m.a11 m.a21 m.a31 q.a11 s.a11 s.a31;
    a12 = row_second k m.a12 m.a22 m.a32 q.a12 s.a12 s.a32;
    a13 = row_second k m.a13 m.a23 m.a33 q.a13 s.a13 s.a33;
    a21 = second_row s.a11 s.a21 s.a31;
    a22 = second_row s.a12 s.a22 s.a32;
    a23 = second_row s.a13 s.a23 s.a33;
    a31 = third_row s.a11 s.a21 s.a31;
    a32 = third_row s.a12 s.a22 s.a32;
    a33 = third_row s.a13 s.a23 s.a33;
  }

  back_third_less_second : IsSmall (product int_ops (third_less_second_inverse int_ops k) m) → ProductFits int_ops IsInt (third_less_second_inverse int_ops k) m
  back_third_less_second q = record {
    a11 = first_row s.a11 s.a21 s.a31;
    a12 = first_row s.a12 s.a22 s.a32;
    a13 = first_row s.a13 s.a23 s.a33;
    a21 = row_third k m.a11 m.a21 m.a31 q.a21 s.a11 s.a21;
    a22 = row_third k m.a12 m.a22 m.a32 q.a22 s.a12 s.a22;
    a23 = row_third k m.a13 m.a23 m.a33 q.a23 s.a13 s.a23;
    a31 = third_row s.a11 s.a21 s.a31;
    a32 = third_row s.a12 s.a22 s.a32;
    a33 = third_row s.a13 s.a23 s.a33;
  }

  back_third_less_first : IsSmall (product int_ops (third_less_first_inverse int_ops k) m) → ProductFits int_ops IsInt (third_less_first_inverse int_ops k) m
  back_third_less_first q = record {
    a11 = row_third' k m.a11 m.a21 m.a31 q.a11 s.a11 s.a21;
    a12 = row_third' k m.a12 m.a22 m.a32 q.a12 s.a12 s.a22;
    a13 = row_third' k m.a13 m.a23 m.a33 q.a13 s.a13 s.a23;
    a21 = second_row s.a11 s.a21 s.a31;
    a22 = second_row s.a12 s.a22 s.a32;
    a23 = second_row s.a13 s.a23 s.a33;
    a31 = third_row s.a11 s.a21 s.a31;
    a32 = third_row s.a12 s.a22 s.a32;
    a33 = third_row s.a13 s.a23 s.a33;
  }

-- ---- all steps

exchange_first_units : EachEntry (AtMost 1) (step_matrix ExchangeFirst)
exchange_first_units = record { a11 = zero_unit; a12 = minus_unit; a13 = zero_unit; a21 = minus_unit; a22 = zero_unit; a23 = zero_unit; a31 = zero_unit; a32 = zero_unit; a33 = minus_unit }

exchange_last_units : EachEntry (AtMost 1) (step_matrix ExchangeLast)
exchange_last_units = record { a11 = minus_unit; a12 = zero_unit; a13 = zero_unit; a21 = zero_unit; a22 = zero_unit; a23 = minus_unit; a31 = zero_unit; a32 = minus_unit; a33 = zero_unit }

diagonal_units : (a b c : ℤ) → AtMost 1 a → AtMost 1 b → AtMost 1 c → EachEntry (AtMost 1) (record { a11 = a; a12 = pos 0; a13 = pos 0; a21 = pos 0; a22 = b; a23 = pos 0; a31 = pos 0; a32 = pos 0; a33 = c })
diagonal_units a b c p q r = record { a11 = p; a12 = zero_unit; a13 = zero_unit; a21 = zero_unit; a22 = q; a23 = zero_unit; a31 = zero_unit; a32 = zero_unit; a33 = r }

sum_units : (a b : ℤ) → AtMost 1 a → AtMost 1 b → EachEntry (AtMost 1) (record { a11 = pos 1; a12 = pos 0; a13 = a; a21 = pos 0; a22 = pos 1; a23 = b; a31 = pos 0; a32 = pos 0; a33 = pos 1 })
sum_units a b p q = record { a11 = one_unit; a12 = zero_unit; a13 = p; a21 = zero_unit; a22 = one_unit; a23 = q; a31 = zero_unit; a32 = zero_unit; a33 = one_unit }

-- the basis change times the matrix of a step
pub base_fits : (step : Step) (m : Matrix) → IsSmall m → IsSmall (product int_ops m (step_matrix step)) → ProductFits int_ops IsInt m (step_matrix step)
base_fits ExchangeFirst m s q = right_by_units m (step_matrix ExchangeFirst) s exchange_first_units
base_fits ExchangeLast m s q = right_by_units m (step_matrix ExchangeLast) s exchange_last_units
base_fits KeepFirst m s q = right_by_units m (step_matrix KeepFirst) s (diagonal_units (pos 1) (negsuc 0) (negsuc 0) one_unit minus_unit minus_unit)
base_fits KeepSecond m s q = right_by_units m (step_matrix KeepSecond) s (diagonal_units (negsuc 0) (pos 1) (negsuc 0) minus_unit one_unit minus_unit)
base_fits KeepThird m s q = right_by_units m (step_matrix KeepThird) s (diagonal_units (negsuc 0) (negsuc 0) (pos 1) minus_unit minus_unit one_unit)
base_fits (SecondLessFirst k) m s q = base_second_less_first m k s q
base_fits (ThirdLessSecond k) m s q = base_third_less_second m k s q
base_fits (ThirdLessFirst k) m s q = base_third_less_first m k s q
base_fits AddToThird m s q = right_by_units m (step_matrix AddToThird) s (sum_units (pos 1) (pos 1) one_unit one_unit)

-- the inverse of a step times the inverse basis change
pub back_fits : (step : Step) (m : Matrix) → IsSmall m → IsSmall (product int_ops (step_inverse step) m) → ProductFits int_ops IsInt (step_inverse step) m
back_fits ExchangeFirst m s q = left_by_units (step_inverse ExchangeFirst) m exchange_first_units s
back_fits ExchangeLast m s q = left_by_units (step_inverse ExchangeLast) m exchange_last_units s
back_fits KeepFirst m s q = left_by_units (step_inverse KeepFirst) m (diagonal_units (pos 1) (negsuc 0) (negsuc 0) one_unit minus_unit minus_unit) s
back_fits KeepSecond m s q = left_by_units (step_inverse KeepSecond) m (diagonal_units (negsuc 0) (pos 1) (negsuc 0) minus_unit one_unit minus_unit) s
back_fits KeepThird m s q = left_by_units (step_inverse KeepThird) m (diagonal_units (negsuc 0) (negsuc 0) (pos 1) minus_unit minus_unit one_unit) s
back_fits (SecondLessFirst k) m s q = back_second_less_first m k s q
back_fits (ThirdLessSecond k) m s q = back_third_less_second m k s q
back_fits (ThirdLessFirst k) m s q = back_third_less_first m k s q
back_fits AddToThird m s q = left_by_units (step_inverse AddToThird) m (sum_units (negsuc 0) (negsuc 0) minus_unit minus_unit) s
