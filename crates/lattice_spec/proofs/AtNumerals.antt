-- The Niggli conditions by computation: at numerals a metric tensor t that meets them has the proof `niggli_by_test t tt`.
use Rattle.std.proofs.Common.{◌≡◌, ◌⊎◌, inl, inr, Bool, true, false, ◌&&◌, ◌||◌, not, T, int_eq, ℤ, pos, ◌+ℤ◌, ◌≤ℤ◌, ◌<ℤ◌, refl, arith}
use Rattle.std.specs.Int.Signed.{le_z, lt_z, le_z_yes, lt_z_yes}
use Rattle.std.proofs.lemmas.Bool.Decides.{Decides-int_eq}
use Rattle.std.proofs.lemmas.Int.{ints}
use Rattle.lattice_spec.specs.Tensor.{Tensor, tensor_matrix}
use Rattle.lattice_spec.specs.Niggli.{size, twice, IsAcute, IsObtuse, MainConditions, NiggliConditions, IsNiggli}

-- ---- tests of a number, and their parts

both : (p q : Bool) → T (p && q) → T p × T q
both true q t = (tt, t)
both false q t = absurd t

either : (p q : Bool) → T (p || q) → T p ⊎ T q
either true q t = inl tt
either false q t = inr t

given : (p q : Bool) → T (not p || q) → p ≡ true → T q
given true q t e = t
given false q t e = absurd (cc e)

true_of : (p : Bool) → T p → p ≡ true
true_of true t = refl
true_of false t = absurd t

-- where the first two numbers are equal, the third is at most the fourth
abbrev equal_then_le : ℤ → ℤ → ℤ → ℤ → Bool
equal_then_le a b x y = not (int_eq a b) || le_z x y

-- where they are equal, the third is 0
abbrev equal_then_0 : ℤ → ℤ → ℤ → Bool
equal_then_0 a b z = not (int_eq a b) || int_eq z (pos 0)

then_le : {a b x y : ℤ} → T (equal_then_le a b x y) → a ≡ b → x ≤ℤ y
then_le {a} {b} {x} {y} t e = le_z_yes (given (int_eq a b) _ t ((Decides-int_eq a b).1 e))

then_0 : {a b z : ℤ} → T (equal_then_0 a b z) → a ≡ b → z ≡ pos 0
then_0 {a} {b} {z} t e = (Decides-int_eq z (pos 0)).0 (true_of _ (given (int_eq a b) _ t ((Decides-int_eq a b).1 e)))

-- ---- the conditions

module _ (a b c x y z : ℤ) where
  abbrev lengths_test : Bool
  lengths_test = lt_z (pos 0) a && (le_z a b && (le_z b c && (le_z (size x) b && (le_z (size y) a && le_z (size z) a))))

  abbrev acute_test : Bool
  acute_test =
      lt_z (pos 0) x && (lt_z (pos 0) y && (lt_z (pos 0) z && (equal_then_le a b x y && (equal_then_le b c y z && (equal_then_le x b z (twice y) && (equal_then_le y a z (twice x) && equal_then_le z a y (twice x)))))))

  abbrev obtuse_test : Bool
  obtuse_test =
      le_z x (pos 0) && (le_z y (pos 0) && (le_z z (pos 0) && (le_z (size x +ℤ size y +ℤ size z) (a +ℤ b) && (equal_then_le a b (size x) (size y) && (equal_then_le b c (size y) (size z) && (equal_then_0 (size x) b z && (equal_then_0 (size y) a z && (equal_then_0 (size z) a y && equal_then_le (size x +ℤ size y +ℤ size z) (a +ℤ b) (twice a) (twice (size y) +ℤ size z)))))))))

  -- all conditions of one of the two forms
  abbrev pub niggli_test : Bool
  niggli_test = lengths_test && (acute_test || obtuse_test)

-- no number is positive and at most 0
not_both : {n : ℤ} → pos 0 <ℤ n → n ≤ℤ pos 0 → ⊥
not_both h k = omega (arith, ints, h, k)

-- the conditions hold where the test says so
pub conditions_by_test : (a b c x y z : ℤ) → T (niggli_test a b c x y z) → NiggliConditions a b c x y z
conditions_by_test a b c x y z t =
    let t0 = both (lengths_test a b c x y z) _ t in
    let l1 = both (lt_z (pos 0) a) _ t0.0 in
    let l2 = both (le_z a b) _ l1.1 in
    let l3 = both (le_z b c) _ l2.1 in
    let l4 = both (le_z (size x) b) _ l3.1 in
    let l5 = both (le_z (size y) a) _ l4.1 in
    by (λ f. record { a_positive = lt_z_yes l1.0; a_to_b = le_z_yes l2.0; b_to_c = le_z_yes l3.0; x_to_b = le_z_yes l4.0; y_to_a = le_z_yes l5.0; z_to_a = le_z_yes l5.1; form = f }) (either (acute_test a b c x y z) _ t0.1)
  where
    by : (IsAcute x y z ⊎ (IsObtuse x y z × ((size x +ℤ size y +ℤ size z) ≤ℤ (a +ℤ b))) → MainConditions a b c x y z) → T (acute_test a b c x y z) ⊎ T (obtuse_test a b c x y z) → NiggliConditions a b c x y z
    by main (inl s) =
        let s1 = both (lt_z (pos 0) x) _ s in
        let s2 = both (lt_z (pos 0) y) _ s1.1 in
        let s3 = both (lt_z (pos 0) z) _ s2.1 in
        let s4 = both (equal_then_le a b x y) _ s3.1 in
        let s5 = both (equal_then_le b c y z) _ s4.1 in
        let s6 = both (equal_then_le x b z (twice y)) _ s5.1 in
        let s7 = both (equal_then_le y a z (twice x)) _ s6.1 in
        record {
          main = main (inl (record { x_positive = lt_z_yes s1.0; y_positive = lt_z_yes s2.0; z_positive = lt_z_yes s3.0 }));
          acute = λ p. record { a_is_b = then_le s4.0; b_is_c = then_le s5.0; x_is_b = then_le s6.0; y_is_a = then_le s7.0; z_is_a = then_le s7.1 };
          obtuse = λ p. absurd (not_both (lt_z_yes s1.0) p.x_at_most_0);
        }
    by main (inr s) =
        let s1 = both (le_z x (pos 0)) _ s in
        let s2 = both (le_z y (pos 0)) _ s1.1 in
        let s3 = both (le_z z (pos 0)) _ s2.1 in
        let s4 = both (le_z (size x +ℤ size y +ℤ size z) (a +ℤ b)) _ s3.1 in
        let s5 = both (equal_then_le a b (size x) (size y)) _ s4.1 in
        let s6 = both (equal_then_le b c (size y) (size z)) _ s5.1 in
        let s7 = both (equal_then_0 (size x) b z) _ s6.1 in
        let s8 = both (equal_then_0 (size y) a z) _ s7.1 in
        let s9 = both (equal_then_0 (size z) a y) _ s8.1 in
        record {
          main = main (inr (record { x_at_most_0 = le_z_yes s1.0; y_at_most_0 = le_z_yes s2.0; z_at_most_0 = le_z_yes s3.0 }, le_z_yes s4.0));
          acute = λ p. absurd (not_both p.x_positive (le_z_yes s1.0));
          obtuse = λ p. record { a_is_b = then_le s5.0; b_is_c = then_le s6.0; x_is_b = then_0 s7.0; y_is_a = then_0 s8.0; z_is_a = then_0 s9.0; sum_is_most = then_le s9.1 };
        }

-- so a metric tensor of numerals is that of a Niggli-reduced cell
pub niggli_by_test : (t : Tensor ℤ) → T (niggli_test t.aa t.bb t.cc (twice t.bc) (twice t.ac) (twice t.ab)) → IsNiggli (tensor_matrix t)
niggli_by_test t = conditions_by_test t.aa t.bb t.cc (twice t.bc) (twice t.ac) (twice t.ab)
