-- What is known of the variables of the reduction, and that one more step keeps it and lowers the measure.
--   IsReducing g s p q    from the metric tensor g, the basis change p with the inverse q has led to s
--   reducing_start        at the start
--   reducing_next         after one more step
--   next_lower            which has a lower measure
--   reducing_entries      entries of s are no larger than those of g; and how large those of p and q are
use Rattle.std.proofs.Common.{◌≡◌, ℕ, suc, ◌+◌, ◌*◌, ◌^◌, ◌<◌, T, ltb, ltb→lt, [], ◌∷◌, ◌++◌, ℤ, pos, ◌+ℤ◌, ◌≤ℤ◌, ◌<ℤ◌, refl, sym, subst, arith}
use Rattle.std.proofs.lemmas.Int.{ints}
use Rattle.ring.specs.Ring.{int_ops, var, con, quoted}
use Rattle.ring.specs.Size.{AtMost}
use Rattle.ring.proofs.IntRing.{int_laws}
use Rattle.ring.proofs.Sizes.{weaken}
use Rattle.matrix3.specs.Matrices.{product, determinant, scalar, EachEntry}
use Rattle.matrix3.specs.Fits.{ProductFits}
use Rattle.matrix3.proofs.MatrixLaws.{by_ring_matrix}
use Rattle.crystal_spec.specs.Matrices.{Matrix, identity}
use Rattle.crystal_spec.specs.Crystals.{IsPositive}
use Rattle.crystal_spec.proofs.Identities.{by_integers}
use Rattle.lattice_spec.specs.Tensor.{Tensor, tensor_matrix}
use Rattle.lattice_spec.specs.Niggli.{IsNiggli}
use Rattle.lattice_spec.proofs.Steps.{tensor_of_variables, tensor_entries, congruent, IsBasisChange, change_start, change_more}
use Rattle.lattice_spec.proofs.Definite.{aa_positive, bb_positive, cc_positive}
use Rattle.lattice_spec.proofs.Ranges.{DiagonalAtMost, tensor_at_most, change_at_most, inverse_at_most, changed_definite}
use Rattle.matrix3.specs.Bounds.{EntriesAtMost}
use Rattle.lattice_reduce.specs.declared.step.Step.{Step}
use Rattle.lattice_reduce.specs.declared.step.Step.TheVariants.{ExchangeFirst, ExchangeLast, KeepFirst, KeepSecond, KeepThird, SecondLessFirst, ThirdLessSecond, ThirdLessFirst, AddToThird}
use Rattle.lattice_reduce.specs.Steps.{after_step, step_matrix, step_inverse, exchange_first, exchange_last, keep_first, keep_second, keep_third, second_less_first, third_less_second, third_less_first, add_to_third, exchange_first_matrix, exchange_last_matrix, keep_first_matrix, keep_second_matrix, keep_third_matrix, second_less_first_matrix, third_less_second_matrix, third_less_first_matrix, add_to_third_matrix, second_less_first_inverse, third_less_second_inverse, third_less_first_inverse}
use Rattle.lattice_reduce.specs.Parts.{HasPositiveDiagonal}
use Rattle.lattice_reduce.specs.Progress.{trace, Falls, trace_falls, weight_falls, form_rises, sizes_rise, mixed_falls, IsGoodStep}
use Rattle.lattice_reduce.proofs.Measure.{measure, bounded, falls-measure}
use Rattle.lattice_reduce.proofs.Products as products

-- ---- each step is a basis change of determinant 1

change_of_step : (s : Tensor ℤ) (step : Step) → IsBasisChange (tensor_matrix s) (tensor_matrix (after_step step s)) (step_matrix step) (step_inverse step)
change_of_step s ExchangeFirst = record {
  metric = by_ring_matrix int_ops int_laws (tensor_entries s) (congruent quoted (exchange_first_matrix quoted) (tensor_matrix tensor_of_variables)) (tensor_matrix (exchange_first quoted tensor_of_variables)) refl;
  unit_determinant = refl;
  inverse = refl;
  inverse_left = refl;
}
change_of_step s ExchangeLast = record {
  metric = by_ring_matrix int_ops int_laws (tensor_entries s) (congruent quoted (exchange_last_matrix quoted) (tensor_matrix tensor_of_variables)) (tensor_matrix (exchange_last quoted tensor_of_variables)) refl;
  unit_determinant = refl;
  inverse = refl;
  inverse_left = refl;
}
change_of_step s KeepFirst = record {
  metric = by_ring_matrix int_ops int_laws (tensor_entries s) (congruent quoted (keep_first_matrix quoted) (tensor_matrix tensor_of_variables)) (tensor_matrix (keep_first quoted tensor_of_variables)) refl;
  unit_determinant = refl;
  inverse = refl;
  inverse_left = refl;
}
change_of_step s KeepSecond = record {
  metric = by_ring_matrix int_ops int_laws (tensor_entries s) (congruent quoted (keep_second_matrix quoted) (tensor_matrix tensor_of_variables)) (tensor_matrix (keep_second quoted tensor_of_variables)) refl;
  unit_determinant = refl;
  inverse = refl;
  inverse_left = refl;
}
change_of_step s KeepThird = record {
  metric = by_ring_matrix int_ops int_laws (tensor_entries s) (congruent quoted (keep_third_matrix quoted) (tensor_matrix tensor_of_variables)) (tensor_matrix (keep_third quoted tensor_of_variables)) refl;
  unit_determinant = refl;
  inverse = refl;
  inverse_left = refl;
}
change_of_step s (SecondLessFirst k) = record {
  metric = by_ring_matrix int_ops int_laws (tensor_entries s ++ k ∷ []) (congruent quoted (second_less_first_matrix quoted (var 6)) (tensor_matrix tensor_of_variables)) (tensor_matrix (second_less_first quoted (var 6) tensor_of_variables)) refl;
  unit_determinant = by_integers (k ∷ []) (determinant quoted (second_less_first_matrix quoted (var 0))) (con (pos 1)) refl;
  inverse = by_ring_matrix int_ops int_laws (k ∷ []) (product quoted (second_less_first_matrix quoted (var 0)) (second_less_first_inverse quoted (var 0))) (scalar quoted (con (pos 1))) refl;
  inverse_left = by_ring_matrix int_ops int_laws (k ∷ []) (product quoted (second_less_first_inverse quoted (var 0)) (second_less_first_matrix quoted (var 0))) (scalar quoted (con (pos 1))) refl;
}
change_of_step s (ThirdLessSecond k) = record {
  metric = by_ring_matrix int_ops int_laws (tensor_entries s ++ k ∷ []) (congruent quoted (third_less_second_matrix quoted (var 6)) (tensor_matrix tensor_of_variables)) (tensor_matrix (third_less_second quoted (var 6) tensor_of_variables)) refl;
  unit_determinant = by_integers (k ∷ []) (determinant quoted (third_less_second_matrix quoted (var 0))) (con (pos 1)) refl;
  inverse = by_ring_matrix int_ops int_laws (k ∷ []) (product quoted (third_less_second_matrix quoted (var 0)) (third_less_second_inverse quoted (var 0))) (scalar quoted (con (pos 1))) refl;
  inverse_left = by_ring_matrix int_ops int_laws (k ∷ []) (product quoted (third_less_second_inverse quoted (var 0)) (third_less_second_matrix quoted (var 0))) (scalar quoted (con (pos 1))) refl;
}
change_of_step s (ThirdLessFirst k) = record {
  metric = by_ring_matrix int_ops int_laws (tensor_entries s ++ k ∷ []) (congruent quoted (third_less_first_matrix quoted (var 6)) (tensor_matrix tensor_of_variables)) (tensor_matrix (third_less_first quoted (var 6) tensor_of_variables)) refl;
  unit_determinant = by_integers (k ∷ []) (determinant quoted (third_less_first_matrix quoted (var 0))) (con (pos 1)) refl;
  inverse = by_ring_matrix int_ops int_laws (k ∷ []) (product quoted (third_less_first_matrix quoted (var 0)) (third_less_first_inverse quoted (var 0))) (scalar quoted (con (pos 1))) refl;
  inverse_left = by_ring_matrix int_ops int_laws (k ∷ []) (product quoted (third_less_first_inverse quoted (var 0)) (third_less_first_matrix quoted (var 0))) (scalar quoted (con (pos 1))) refl;
}
change_of_step s AddToThird = record {
  metric = by_ring_matrix int_ops int_laws (tensor_entries s) (congruent quoted (add_to_third_matrix quoted) (tensor_matrix tensor_of_variables)) (tensor_matrix (add_to_third quoted tensor_of_variables)) refl;
  unit_determinant = refl;
  inverse = refl;
  inverse_left = refl;
}

-- ---- no step makes the longest axis longer

same : (a b : ℤ) → a ≡ b → a ≤ℤ b
same a b e = omega (arith, ints, e)

less_le : (a b : ℤ) → a <ℤ b → a ≤ℤ b
less_le a b h = omega (arith, ints)

falls_trace : (s t : Tensor ℤ) → Falls s t → trace t ≤ℤ trace s
falls_trace s t (trace_falls h) = less_le (trace t) (trace s) h
falls_trace s t (weight_falls e h) = same (trace t) (trace s) e
falls_trace s t (form_rises e f h) = same (trace t) (trace s) e
falls_trace s t (sizes_rise e f g h) = same (trace t) (trace s) e
falls_trace s t (mixed_falls e f g h k) = same (trace t) (trace s) e

second_most : (a b b' c : ℤ) (n : ℕ) → (a +ℤ b' +ℤ c) ≤ℤ (a +ℤ b +ℤ c) → b ≤ℤ pos n → b' ≤ℤ pos n
second_most a b b' c n h k = omega (arith, ints, h, k)

third_most : (a b c c' : ℤ) (n : ℕ) → (a +ℤ b +ℤ c') ≤ℤ (a +ℤ b +ℤ c) → c ≤ℤ pos n → c' ≤ℤ pos n
third_most a b c c' n h k = omega (arith, ints, h, k)

-- at most one squared length changes, or two change places
diagonal_after : (n : ℕ) (s : Tensor ℤ) (step : Step) → trace (after_step step s) ≤ℤ trace s → DiagonalAtMost n s → DiagonalAtMost n (after_step step s)
diagonal_after n s ExchangeFirst h d = record { aa = d.bb; bb = d.aa; cc = d.cc }
diagonal_after n s ExchangeLast h d = record { aa = d.aa; bb = d.cc; cc = d.bb }
diagonal_after n s KeepFirst h d = record { aa = d.aa; bb = d.bb; cc = d.cc }
diagonal_after n s KeepSecond h d = record { aa = d.aa; bb = d.bb; cc = d.cc }
diagonal_after n s KeepThird h d = record { aa = d.aa; bb = d.bb; cc = d.cc }
diagonal_after n s (SecondLessFirst k) h d = record { aa = d.aa; bb = second_most s.aa s.bb (second_less_first int_ops k s).bb s.cc n h d.bb; cc = d.cc }
diagonal_after n s (ThirdLessSecond k) h d = record { aa = d.aa; bb = d.bb; cc = third_most s.aa s.bb s.cc (third_less_second int_ops k s).cc n h d.cc }
diagonal_after n s (ThirdLessFirst k) h d = record { aa = d.aa; bb = d.bb; cc = third_most s.aa s.bb s.cc (third_less_first int_ops k s).cc n h d.cc }
diagonal_after n s AddToThird h d = record { aa = d.aa; bb = d.bb; cc = third_most s.aa s.bb s.cc (add_to_third int_ops s).cc n h d.cc }

-- ---- the variables of the loop

-- the basis change p with the inverse q has led from g to s: no longer, and by no step where g is reduced
pub record IsReducing (g s : Tensor ℤ) (p q : Matrix) : Type 0 where
  pub changed : IsBasisChange (tensor_matrix g) (tensor_matrix s) p q
  pub trace_most : trace s ≤ℤ trace g
  pub diagonal : (n : ℕ) → DiagonalAtMost n g → DiagonalAtMost n s
  pub kept : IsNiggli (tensor_matrix g) → (s ≡ g) × (p ≡ identity)

-- at the start
pub reducing_start : (g : Tensor ℤ) (p q : Matrix) → p ≡ identity → q ≡ identity → IsReducing g g p q
reducing_start g p q e f = record {
  changed = subst (λ (x : Matrix). IsBasisChange (tensor_matrix g) (tensor_matrix g) x q) (sym e) (subst (λ (x : Matrix). IsBasisChange (tensor_matrix g) (tensor_matrix g) identity x) (sym f) (change_start (tensor_matrix g)));
  trace_most = same (trace g) (trace g) refl;
  diagonal = λ n d. d;
  kept = λ n. (refl, e);
}

at_most_trans : (a b c : ℤ) → a ≤ℤ b → b ≤ℤ c → a ≤ℤ c
at_most_trans a b c h k = omega (arith, ints)

reducing_more : (g s : Tensor ℤ) (p q : Matrix) (step : Step) → IsReducing g s p q → IsGoodStep s step → IsReducing g (after_step step s) (product int_ops p (step_matrix step)) (product int_ops (step_inverse step) q)
reducing_more g s p q step r h =
    let lower = falls_trace s (after_step step s) h.falls in
    record {
      changed = change_more (tensor_matrix g) (tensor_matrix s) (tensor_matrix (after_step step s)) p q (step_matrix step) (step_inverse step) r.changed (change_of_step s step);
      trace_most = at_most_trans (trace (after_step step s)) (trace s) (trace g) lower r.trace_most;
      diagonal = λ n d. diagonal_after n s step lower (r.diagonal n d);
      kept = λ n. absurd (h.needed (subst (λ (x : Tensor ℤ). IsNiggli (tensor_matrix x)) (sym (r.kept n).0) n));
    }

-- after one more step
pub reducing_next : (g s s' : Tensor ℤ) (p q p' q' : Matrix) (step : Step) → IsReducing g s p q → IsGoodStep s step → s' ≡ after_step step s → p' ≡ product int_ops p (step_matrix step) → q' ≡ product int_ops (step_inverse step) q → IsReducing g s' p' q'
reducing_next g s s' p q p' q' step r h e f k =
    subst (λ (x : Tensor ℤ). IsReducing g x p' q') (sym e)
    (subst (λ (x : Matrix). IsReducing g (after_step step s) x q') (sym f)
    (subst (λ (x : Matrix). IsReducing g (after_step step s) (product int_ops p (step_matrix step)) x) (sym k) (reducing_more g s p q step r h)))

-- ---- how large they are

most_of : (a : ℤ) (n : ℕ) → AtMost n a → a ≤ℤ pos n
most_of a n h = omega (arith, ints, h.size)

diagonal_of : (g : Tensor ℤ) (n : ℕ) → EntriesAtMost n (tensor_matrix g) → DiagonalAtMost n g
diagonal_of g n h = record { aa = most_of g.aa n h.a11; bb = most_of g.bb n h.a22; cc = most_of g.cc n h.a33 }

entries_of : (n : ℕ) (m : Matrix) → EachEntry (AtMost n) m → EntriesAtMost n m
entries_of n m h = record { a11 = h.a11; a12 = h.a12; a13 = h.a13; a21 = h.a21; a22 = h.a22; a23 = h.a23; a31 = h.a31; a32 = h.a32; a33 = h.a33 }

-- entries of the metric tensor are no larger than those at the start
pub reducing_entries : (g s : Tensor ℤ) (p q : Matrix) (n : ℕ) → IsPositive (tensor_matrix g) → IsReducing g s p q → EntriesAtMost n (tensor_matrix g) → EntriesAtMost n (tensor_matrix s)
reducing_entries g s p q n h r small =
    entries_of n (tensor_matrix s) (tensor_at_most s n (changed_definite g s p q h r.changed) (r.diagonal n (diagonal_of g n small)))

-- and those of the next one
pub next_entries : (g s : Tensor ℤ) (p q : Matrix) (step : Step) (n : ℕ) → IsPositive (tensor_matrix g) → IsReducing g s p q → IsGoodStep s step → EntriesAtMost n (tensor_matrix g) → EntriesAtMost n (tensor_matrix (after_step step s))
next_entries g s p q step n h r k small = reducing_entries g (after_step step s) (product int_ops p (step_matrix step)) (product int_ops (step_inverse step) q) n h (reducing_more g s p q step r k) small

-- squared lengths stay positive
pub reducing_diagonal : (g s : Tensor ℤ) (p q : Matrix) → IsPositive (tensor_matrix g) → IsReducing g s p q → HasPositiveDiagonal s
reducing_diagonal g s p q h r =
    let d = changed_definite g s p q h r.changed in
    record { aa = aa_positive s d; bb = bb_positive s d; cc = cc_positive s d }

at_numerals : (m n r : ℕ) → T (ltb (m * n) ((r + 1) * (r + 1))) → m * n < suc r * suc r
at_numerals m n r h = omega (arith, ltb→lt (m * n) ((r + 1) * (r + 1)) h)

base_each : (g s : Tensor ℤ) (p q : Matrix) → IsPositive (tensor_matrix g) → EntriesAtMost (10 ^ 16) (tensor_matrix g) → IsReducing g s p q → EachEntry (AtMost (10 ^ 24)) p
base_each g s p q h small r =
    let d = diagonal_of g (10 ^ 16) small in
    change_at_most g s p q (10 ^ 16) (10 ^ 16) (10 ^ 24) h r.changed d (r.diagonal (10 ^ 16) d) (at_numerals (10 ^ 16 * 10 ^ 16) (10 ^ 16) (10 ^ 24) tt)

back_each : (g s : Tensor ℤ) (p q : Matrix) → IsPositive (tensor_matrix g) → EntriesAtMost (10 ^ 16) (tensor_matrix g) → IsReducing g s p q → EachEntry (AtMost (10 ^ 24)) q
back_each g s p q h small r =
    let d = diagonal_of g (10 ^ 16) small in
    inverse_at_most g s p q (10 ^ 16) (10 ^ 16) (10 ^ 24) h r.changed d (r.diagonal (10 ^ 16) d) (at_numerals (10 ^ 16 * 10 ^ 16) (10 ^ 16) (10 ^ 24) tt)

-- entries of the basis change
pub base_entries : (g s : Tensor ℤ) (p q : Matrix) → IsPositive (tensor_matrix g) → EntriesAtMost (10 ^ 16) (tensor_matrix g) → IsReducing g s p q → EntriesAtMost (10 ^ 24) p
base_entries g s p q h small r = entries_of (10 ^ 24) p (base_each g s p q h small r)

-- and of its inverse
pub back_entries : (g s : Tensor ℤ) (p q : Matrix) → IsPositive (tensor_matrix g) → EntriesAtMost (10 ^ 16) (tensor_matrix g) → IsReducing g s p q → EntriesAtMost (10 ^ 24) q
back_entries g s p q h small r = entries_of (10 ^ 24) q (back_each g s p q h small r)

wider : (m : Matrix) → EachEntry (AtMost (10 ^ 24)) m → products.IsSmall m
wider m h = record {
  a11 = weaken (10 ^ 25) h.a11 tt;
  a12 = weaken (10 ^ 25) h.a12 tt;
  a13 = weaken (10 ^ 25) h.a13 tt;
  a21 = weaken (10 ^ 25) h.a21 tt;
  a22 = weaken (10 ^ 25) h.a22 tt;
  a23 = weaken (10 ^ 25) h.a23 tt;
  a31 = weaken (10 ^ 25) h.a31 tt;
  a32 = weaken (10 ^ 25) h.a32 tt;
  a33 = weaken (10 ^ 25) h.a33 tt;
}

-- the basis change times the matrix of the step is one of integers of the program
pub base_fits : (g s : Tensor ℤ) (p q : Matrix) (step : Step) (m : Matrix) → IsPositive (tensor_matrix g) → EntriesAtMost (10 ^ 16) (tensor_matrix g) → IsReducing g s p q → IsGoodStep s step → m ≡ step_matrix step → ProductFits int_ops (AtMost (10 ^ 36)) p m
base_fits g s p q step m h small r k e =
    subst (λ (x : Matrix). ProductFits int_ops (AtMost (10 ^ 36)) p x) (sym e)
    (products.base_fits step p (wider p (base_each g s p q h small r))
    (wider (product int_ops p (step_matrix step)) (base_each g (after_step step s) (product int_ops p (step_matrix step)) (product int_ops (step_inverse step) q) h small (reducing_more g s p q step r k))))

-- and so is the inverse of the step times the inverse
pub back_fits : (g s : Tensor ℤ) (p q : Matrix) (step : Step) (m : Matrix) → IsPositive (tensor_matrix g) → EntriesAtMost (10 ^ 16) (tensor_matrix g) → IsReducing g s p q → IsGoodStep s step → m ≡ step_inverse step → ProductFits int_ops (AtMost (10 ^ 36)) m q
back_fits g s p q step m h small r k e =
    subst (λ (x : Matrix). ProductFits int_ops (AtMost (10 ^ 36)) x q) (sym e)
    (products.back_fits step q (wider q (back_each g s p q h small r))
    (wider (product int_ops (step_inverse step) q) (back_each g (after_step step s) (product int_ops p (step_matrix step)) (product int_ops (step_inverse step) q) h small (reducing_more g s p q step r k))))

-- ---- the measure

trace_of : (a b c : ℤ) → a ≤ℤ pos (10 ^ 16) → b ≤ℤ pos (10 ^ 16) → c ≤ℤ pos (10 ^ 16) → (a +ℤ b +ℤ c) ≤ℤ pos (10 ^ 17)
trace_of a b c h k l = omega (arith, ints, h, k, l)

trace_small : (g s : Tensor ℤ) (p q : Matrix) → EntriesAtMost (10 ^ 16) (tensor_matrix g) → IsReducing g s p q → trace s ≤ℤ pos (10 ^ 17)
trace_small g s p q small r =
    let d = r.diagonal (10 ^ 16) (diagonal_of g (10 ^ 16) small) in
    trace_of s.aa s.bb s.cc d.aa d.bb d.cc

-- one more step lowers the measure
pub next_lower : (g s s' : Tensor ℤ) (p q : Matrix) (step : Step) → IsPositive (tensor_matrix g) → EntriesAtMost (10 ^ 16) (tensor_matrix g) → IsReducing g s p q → IsGoodStep s step → s' ≡ after_step step s → measure s' < measure s
next_lower g s s' p q step h small r k e =
    let t = after_step step s in
    let p' = product int_ops p (step_matrix step) in
    let q' = product int_ops (step_inverse step) q in
    let next = reducing_more g s p q step r k in
    subst (λ (x : Tensor ℤ). measure x < measure s) (sym e)
    (falls-measure s t (bounded s (changed_definite g s p q h r.changed) (trace_small g s p q small r)) (bounded t (changed_definite g t p' q' h next.changed) (trace_small g t p' q' small next)) k.falls)
