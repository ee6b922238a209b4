-- A triangular basis, from the three least numbers and any members that have them.
--
-- Take s1 off x as often as it goes, and the second column off (x, y) as often as s2 goes into y: what is left is a member
-- within the bounds. No search for the right member is needed.
use Rattle.std.proofs.Common.{◌≡◌, ℕ, ℤ, pos, negsuc, ◌+ℤ◌, ◌*ℤ◌, neg_ℤ, ◌≤ℤ◌, ◌<ℤ◌, [], ◌∷◌, refl, ap, subst, ◌∙◌, arith}
use Rattle.std.proofs.lemmas.Int.{ints}
use Rattle.ring.specs.Ring.{var, con, ◌:+◌, ◌:*◌}
use Rattle.crystal_spec.specs.Matrices.{Triple, Matrix, multiple}
use Rattle.basis_spec.specs.StepBases.{IsLattice, IsLeastPositive, IsStepBasis}
use Rattle.positions.specs.Positions.{triple}
use Rattle.crystal_spec.proofs.Entrywise.{triple_same}
use Rattle.basis_spec.proofs.StepBases.{divided, no_rest, taken_away, nothing_off, multiple_in}
use Rattle.crystal_spec.proofs.Identities.{by_integers}

least_of_rest : (s x a r q : ℤ) → pos 0 ≤ℤ x → x <ℤ s → pos 0 ≤ℤ a → a +ℤ negsuc 0 *ℤ x ≡ r +ℤ s *ℤ q → r ≡ pos 0 → x ≤ℤ a
least_of_rest s x a r q h k l e z = by (s *ℤ q) refl (ap (λ v. v +ℤ s *ℤ q) z)
  where
    negative : (s a x : ℤ) (q : ℕ) → pos 0 ≤ℤ x → x <ℤ s → pos 0 ≤ℤ a → a +ℤ negsuc 0 *ℤ x ≡ s *ℤ negsuc q → x ≤ℤ a
    negative (pos s) a x q h k l e = absurd (omega (arith, ints))
    negative (negsuc s) a x q h k l e = absurd (omega (arith, ints))

    above : (s a x : ℤ) (q : ℕ) → pos 0 ≤ℤ x → x <ℤ s → a +ℤ negsuc 0 *ℤ x ≡ s *ℤ pos q → x ≤ℤ a
    above (pos s) a x q h k e = omega (arith, ints)
    above (negsuc s) a x q h k e = absurd (omega (arith, ints))

    simple : (v : ℤ) → pos 0 +ℤ v ≡ v
    simple v = by_integers (v ∷ []) (con (pos 0) :+ var 0) (var 0) refl

    cases : (q : ℤ) → a +ℤ negsuc 0 *ℤ x ≡ s *ℤ q → x ≤ℤ a
    cases (pos q) f = above s a x q h k f
    cases (negsuc q) f = negative s a x q h k l f

    by : (v : ℤ) → s *ℤ q ≡ v → r +ℤ s *ℤ q ≡ pos 0 +ℤ s *ℤ q → x ≤ℤ a
    by v f g = cases q (e ∙ g ∙ simple (s *ℤ q))

-- the upper triangular matrix of these entries, column by column
abbrev pub triangular : ℤ → ℤ → ℤ → ℤ → ℤ → ℤ → Matrix
triangular s1 x2 s2 x3 y3 s3 = record { a11 = s1; a12 = x2; a13 = x3; a21 = pos 0; a22 = s2; a23 = y3; a31 = pos 0; a32 = pos 0; a33 = s3 }

nothing_left : (a : ℤ) → a +ℤ negsuc 0 *ℤ a ≡ pos 0
nothing_left a = by_integers (a ∷ []) (var 0 :+ con (negsuc 0) :* var 0) (con (pos 0)) refl

module _ (n : ℕ) (in_it : Triple → Type 0) (l : IsLattice n in_it) (s1 s2 s3 : ℤ) (first : IsLeastPositive (λ s. in_it (triple s (pos 0) (pos 0))) s1) (second : IsLeastPositive (λ s. (x : ℤ) × in_it (triple x s (pos 0))) s2) (third : IsLeastPositive (λ s. (x : ℤ) × ((y : ℤ) × in_it (triple x y s))) s3) where
  -- a member with x within s1 beside the same y and z
  pub x_within : (x y z : ℤ) → in_it (triple x y z) → (a : ℤ) × (in_it (triple a y z) × ((pos 0 ≤ℤ a) × (a <ℤ s1)))
  x_within x y z h =
      let d = divided x s1 first.positive in
      let m = l.sums (triple x y z) (multiple (neg_ℤ d.quotient) (triple s1 (pos 0) (pos 0))) h (multiple_in n in_it l (neg_ℤ d.quotient) (triple s1 (pos 0) (pos 0)) first.it_holds) in
      (d.rest, (subst in_it (triple_same (taken_away x s1 d.quotient d.rest d.is) (nothing_off y d.quotient) (nothing_off z d.quotient)) m, (d.from_zero, d.below)))

  -- a member with y within s2 beside the same z
  pub y_within : (x2 : ℤ) → in_it (triple x2 s2 (pos 0)) → (x y z : ℤ) → in_it (triple x y z) → (a : ℤ) × ((c : ℤ) × (in_it (triple a c z) × ((pos 0 ≤ℤ c) × (c <ℤ s2))))
  y_within x2 w x y z h =
      let d = divided y s2 second.positive in
      let m = l.sums (triple x y z) (multiple (neg_ℤ d.quotient) (triple x2 s2 (pos 0))) h (multiple_in n in_it l (neg_ℤ d.quotient) (triple x2 s2 (pos 0)) w) in
      (x +ℤ neg_ℤ d.quotient *ℤ x2, (d.rest, (subst in_it (triple_same refl (taken_away y s2 d.quotient d.rest d.is) (nothing_off z d.quotient)) m, (d.from_zero, d.below))))

  -- the x2 of a member (x2, s2, 0) that is below s1 is the least
  x_least : (x2 x : ℤ) → in_it (triple x2 s2 (pos 0)) → (pos 0 ≤ℤ x2) × (x2 <ℤ s1) → pos 0 ≤ℤ x → in_it (triple x s2 (pos 0)) → x2 ≤ℤ x
  unfolding x_within
  x_least x2 x w bounds h k =
      let m : in_it (triple (x +ℤ negsuc 0 *ℤ x2) (pos 0) (pos 0)) = subst in_it (triple_same refl (nothing_left s2) refl) (l.sums (triple x s2 (pos 0)) (multiple (negsuc 0) (triple x2 s2 (pos 0))) k (l.opposites (triple x2 s2 (pos 0)) w)) in
      let d = divided (x +ℤ negsuc 0 *ℤ x2) s1 first.positive in
      let e = x_within (x +ℤ negsuc 0 *ℤ x2) (pos 0) (pos 0) m in
      let zero_rest = no_rest s1 d.rest d.from_zero d.below (λ p. first.least d.rest p e.1.0) in
      least_of_rest s1 x2 x d.rest d.quotient bounds.0 bounds.1 h d.is zero_rest

  -- members with the least numbers that are within the bounds are the columns of the triangular basis
  pub is_step_basis : (x2 x3 y3 : ℤ) → in_it (triple x2 s2 (pos 0)) → (pos 0 ≤ℤ x2) × (x2 <ℤ s1) → in_it (triple x3 y3 s3) → (pos 0 ≤ℤ y3) × (y3 <ℤ s2) → (pos 0 ≤ℤ x3) × (x3 <ℤ s1) → IsStepBasis in_it (triangular s1 x2 s2 x3 y3 s3)
  is_step_basis x2 x3 y3 w bounds v y_bounds x_bounds = record {
    zeros = (refl, refl, refl);
    first = first;
    second = second;
    second_in = w;
    second_from = bounds.0;
    second_least = λ x h k. x_least x2 x w bounds h k;
    third = third;
    third_in = v;
    third_y = y_bounds;
    third_x = x_bounds;
  }

  -- so there is a triangular basis
  pub step_basis : (b : Matrix) × IsStepBasis in_it b
  step_basis =
      let w = x_within second.it_holds.0 s2 (pos 0) second.it_holds.1 in
      let u = y_within w.0 w.1.0 third.it_holds.0 third.it_holds.1.0 s3 third.it_holds.1.1 in
      let v = x_within u.0 u.1.0 s3 u.1.1.0 in
      (triangular s1 w.0 s2 v.0 u.1.0 s3, is_step_basis w.0 v.0 u.1.0 w.1.0 w.1.1 v.1.0 u.1.1.1 v.1.1)
