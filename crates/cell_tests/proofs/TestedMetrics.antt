-- The metric tensors of the tests are tested by computation.
use Rattle.std.proofs.Common.{◌≡◌, ◌^◌, true, T, sym, subst, ℤ, pos, ◌≤ℤ◌, arith}
use Rattle.std.proofs.lemmas.Int.{ints}
use Rattle.ring.specs.Size.{AtMost}
use Rattle.lattice_spec.specs.Niggli.{twice, NiggliConditions}
use Rattle.lattice_spec.proofs.AtNumerals.{niggli_test, conditions_by_test}
use Rattle.lattice_spec.proofs.Limits.{limits}
use Rattle.crystal.specs.Views.{metric_of}
use Rattle.matrix3.specs.Bounds.{EntriesAtMost}

-- the test is passed, so the conditions hold
pub tested : (aa bb cc bc ac ab : ℤ) → niggli_test aa bb cc (twice bc) (twice ac) (twice ab) ≡ true → NiggliConditions aa bb cc (twice bc) (twice ac) (twice ab)
tested aa bb cc bc ac ab e = conditions_by_test aa bb cc (twice bc) (twice ac) (twice ab) (subst T (sym e) tt)

-- entries are no larger than C
module _ (aa bb cc bc ac ab : ℤ) (n : NiggliConditions aa bb cc (twice bc) (twice ac) (twice ab)) (small : cc ≤ℤ pos (10 ^ 16)) where
  pub entries_small : EntriesAtMost (10 ^ 16) (metric_of (record { aa = aa; bb = bb; cc = cc; bc = bc; ac = ac; ab = ab }))
  entries_small =
      let m = n.main in
      let l = limits m in
      let a : AtMost (10 ^ 16) aa = record { size = omega (arith, ints, m.a_positive, m.a_to_b, m.b_to_c, small) } in
      let b : AtMost (10 ^ 16) bb = record { size = omega (arith, ints, m.a_positive, m.a_to_b, m.b_to_c, small) } in
      let c : AtMost (10 ^ 16) cc = record { size = omega (arith, ints, m.a_positive, m.a_to_b, m.b_to_c, small) } in
      let x : AtMost (10 ^ 16) bc = record { size = omega (arith, ints, l.x_high, l.x_low, m.b_to_c, small) } in
      let y : AtMost (10 ^ 16) ac = record { size = omega (arith, ints, l.y_high, l.y_low, m.a_to_b, m.b_to_c, small) } in
      let z : AtMost (10 ^ 16) ab = record { size = omega (arith, ints, l.z_high, l.z_low, m.a_to_b, m.b_to_c, small) } in
      record { a11 = a; a12 = z; a13 = y; a21 = z; a22 = b; a23 = x; a31 = y; a32 = x; a33 = c }
