-- The definitions at two atoms of one species that the inversion exchanges, at 1/4 0 0 and 3/4 0 0 with n = 4, and at a third
-- one of another species at the origin, which it leaves.
use Rattle.std.proofs.Common.{◌≡◌, ◌≤◌, ◌⊎◌, ◌+ℤ◌, ◌*ℤ◌, ℕ, zero, suc, List, [], ◌∷◌, refl, sym, ap, subst, inl, inr, arith}
use Rattle.std.specs.Prelude.{ℤ, pos, negsuc, slice_get, Some}
use Rattle.std.proofs.lemmas.Int.{ints}
use Rattle.lists.specs.Increasing.{IsMember}
use Rattle.crystal_spec.specs.declared.Sign.TheVariants.{Same}
use Rattle.crystal_spec.specs.Matrices.{Triple, identity, image}
use Rattle.crystal_spec.specs.Moments.{axial_vectors}
use Rattle.crystal_spec.specs.Crystals.{Atom, Structure}
use Rattle.crystal_spec.specs.Operations.{Operation}
use Rattle.site_orbits.specs.Orbits.{Carries, IsAlike, IsFixedBy, ListsSite, IsInOrbit, CountsOrbit, IsFirstAlike}

abbrev at : ℤ → ℤ → ℤ → Triple
at x y z = record { x = x; y = y; z = z }

-- x, y, z to -x, -y, -z
abbrev inversion : Operation
inversion = record { matrix = record { a11 = negsuc 0; a12 = pos 0; a13 = pos 0; a21 = pos 0; a22 = negsuc 0; a23 = pos 0; a31 = pos 0; a32 = pos 0; a33 = negsuc 0 }; translation = at (pos 0) (pos 0) (pos 0); sign = Same }

abbrev nothing : Operation
nothing = record { matrix = identity; translation = at (pos 0) (pos 0) (pos 0); sign = Same }

abbrev both : List Operation
both = inversion ∷ nothing ∷ []

abbrev one_quarter : Triple
one_quarter = at (pos 1) (pos 0) (pos 0)

abbrev three_quarters : Triple
three_quarters = at (pos 3) (pos 0) (pos 0)

abbrev atom : ℕ → Triple → Atom
atom species p = record { species = species; position = p; moment = at (pos 0) (pos 0) (pos 0) }

abbrev origin_atom : Atom
origin_atom = atom 0 (at (pos 0) (pos 0) (pos 0))

abbrev crystal : Structure
crystal = record { names = (65 ∷ []) ∷ (66 ∷ []) ∷ []; scale = pos 1; metric = identity; n = 4; k = 1; kind = axial_vectors; atoms = origin_atom ∷ atom 1 one_quarter ∷ atom 1 three_quarters ∷ [] }

-- the inversion carries the one to the other, a whole cell away
exchanged : Carries 4 inversion one_quarter three_quarters
exchanged = record { cells = at (negsuc 0) (pos 0) (pos 0); is = refl }

alike : IsAlike 4 both one_quarter three_quarters
alike = record { operation = inversion; of_list = inl refl; carries = exchanged }

alike_itself : IsAlike 4 both three_quarters three_quarters
alike_itself = record { operation = nothing; of_list = inr (inl refl); carries = record { cells = at (pos 0) (pos 0) (pos 0); is = refl } }

-- p is at no whole number of cells from where the operations carry it
minus_one_is_no_one : (c : ℤ) → negsuc 0 ≡ pos 1 +ℤ pos 4 *ℤ c → ⊥
minus_one_is_no_one c e = omega (arith, ints, e)

odd_is_no_zero : (z c : ℤ) → (z ≡ negsuc 0) ⊎ ((z ≡ pos 1) ⊎ ((z ≡ negsuc 2) ⊎ (z ≡ pos 3))) → z ≡ pos 0 +ℤ pos 4 *ℤ c → ⊥
odd_is_no_zero z c (inl f) e = omega (arith, ints, e, f)
odd_is_no_zero z c (inr (inl f)) e = omega (arith, ints, e, f)
odd_is_no_zero z c (inr (inr (inl f))) e = omega (arith, ints, e, f)
odd_is_no_zero z c (inr (inr (inr f))) e = omega (arith, ints, e, f)

not_left : Carries 4 inversion one_quarter one_quarter → ⊥
not_left d = minus_one_is_no_one d.cells.x (ap (λ (v : Triple). v.x) d.is)

-- neither atom is alike to the one at the origin
quarter_is_not_origin : IsAlike 4 both one_quarter (at (pos 0) (pos 0) (pos 0)) → ⊥
quarter_is_not_origin a = by a.operation a.of_list a.carries
  where
    by : (o : Operation) → IsMember o both → Carries 4 o one_quarter (at (pos 0) (pos 0) (pos 0)) → ⊥
    by o (inl e) d = let f : Carries 4 inversion one_quarter (at (pos 0) (pos 0) (pos 0)) = subst (λ (x : Operation). Carries 4 x one_quarter (at (pos 0) (pos 0) (pos 0))) e d in odd_is_no_zero (negsuc 0) f.cells.x (inl refl) (ap (λ (v : Triple). v.x) f.is)
    by o (inr (inl e)) d = let f : Carries 4 nothing one_quarter (at (pos 0) (pos 0) (pos 0)) = subst (λ (x : Operation). Carries 4 x one_quarter (at (pos 0) (pos 0) (pos 0))) e d in odd_is_no_zero (pos 1) f.cells.x (inr (inl refl)) (ap (λ (v : Triple). v.x) f.is)
    by o (inr (inr m)) d = absurd m

three_quarters_is_not_origin : IsAlike 4 both three_quarters (at (pos 0) (pos 0) (pos 0)) → ⊥
three_quarters_is_not_origin a = by a.operation a.of_list a.carries
  where
    by : (o : Operation) → IsMember o both → Carries 4 o three_quarters (at (pos 0) (pos 0) (pos 0)) → ⊥
    by o (inl e) d = let f : Carries 4 inversion three_quarters (at (pos 0) (pos 0) (pos 0)) = subst (λ (x : Operation). Carries 4 x three_quarters (at (pos 0) (pos 0) (pos 0))) e d in odd_is_no_zero (negsuc 2) f.cells.x (inr (inr (inl refl))) (ap (λ (v : Triple). v.x) f.is)
    by o (inr (inl e)) d = let f : Carries 4 nothing three_quarters (at (pos 0) (pos 0) (pos 0)) = subst (λ (x : Operation). Carries 4 x three_quarters (at (pos 0) (pos 0) (pos 0))) e d in odd_is_no_zero (pos 3) f.cells.x (inr (inr (inr refl))) (ap (λ (v : Triple). v.x) f.is)
    by o (inr (inr m)) d = absurd m

-- the identity alone leaves 1/4 0 0
atom_of_quarter : ListsSite 4 both one_quarter (nothing ∷ [])
atom_of_quarter = record { increasing = (tt, tt); exact = λ o. (to o, from o) }
  where
    to : (o : Operation) → IsMember o (nothing ∷ []) → IsFixedBy 4 both one_quarter o
    to o (inl e) = (inr (inl e), subst (λ (x : Operation). Carries 4 x one_quarter one_quarter) (sym e) (record { cells = at (pos 0) (pos 0) (pos 0); is = refl }))
    to o (inr m) = absurd m

    from : (o : Operation) → IsFixedBy 4 both one_quarter o → IsMember o (nothing ∷ [])
    from o (inl e, d) = absurd (not_left (subst (λ (x : Operation). Carries 4 x one_quarter one_quarter) e d))
    from o (inr (inl e), d) = inl e
    from o (inr (inr m), d) = absurd m

-- its orbit has the two atoms
orbit_of_two : CountsOrbit crystal both one_quarter 2
orbit_of_two = record { atoms = atom 1 one_quarter ∷ atom 1 three_quarters ∷ []; once = (apart, (λ m. absurd m, tt)); exact = λ a. (to a, from a); is = refl }
  where
    apart : IsMember (atom 1 one_quarter) (atom 1 three_quarters ∷ []) → ⊥
    apart (inl e) = let f : pos 1 ≡ pos 3 = ap (λ (x : Atom). x.position.x) e in cc f
    apart (inr m) = absurd m

    to : (a : Atom) → IsMember a (atom 1 one_quarter ∷ atom 1 three_quarters ∷ []) → IsInOrbit crystal both one_quarter a
    to a (inl e) = (inr (inl e), subst (λ (x : Atom). IsAlike 4 both one_quarter x.position) (sym e) (record { operation = nothing; of_list = inr (inl refl); carries = record { cells = at (pos 0) (pos 0) (pos 0); is = refl } }))
    to a (inr (inl e)) = (inr (inr (inl e)), subst (λ (x : Atom). IsAlike 4 both one_quarter x.position) (sym e) alike)
    to a (inr (inr m)) = absurd m

    from : (a : Atom) → IsInOrbit crystal both one_quarter a → IsMember a (atom 1 one_quarter ∷ atom 1 three_quarters ∷ [])
    from a (inl e, l) = absurd (quarter_is_not_origin (subst (λ (x : Atom). IsAlike 4 both one_quarter x.position) e l))
    from a (inr (inl e), l) = inl e
    from a (inr (inr (inl e)), l) = inr (inl e)
    from a (inr (inr (inr m)), l) = absurd m

-- and the first atom that is alike to the last is the second of the three, number 1 from 0
first_of_two : IsFirstAlike crystal identity both three_quarters 1
first_of_two = record { atom = atom 1 one_quarter; is_atom = refl; alike = record { operation = inversion; of_list = inl refl; carries = record { cells = at (negsuc 0) (pos 0) (pos 0); is = refl } }; least = least }
  where
    least : (j : ℕ) (a : Atom) → slice_get crystal.atoms j ≡ Some a → IsAlike 4 both three_quarters (image identity a.position) → 1 ≤ j
    least zero a e l = let f : origin_atom ≡ a = cc e in absurd (three_quarters_is_not_origin (subst (λ (x : Atom). IsAlike 4 both three_quarters (image identity x.position)) (sym f) l))
    least (suc j) a e l = omega arith
