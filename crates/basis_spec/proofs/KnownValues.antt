-- The primitive cell of a body-centred cube, worked by hand.
use Rattle.std.proofs.lemmas.Int.{ints}
use Rattle.std.proofs.Common.{subst, length, ◌<◌, ◌+ℤ◌, ◌*ℤ◌, ◌≤ℤ◌, ◌<ℤ◌, List, inl, inr, ap, sym, ◌∙◌, arith, ◌≡◌, ℤ, pos, negsuc, [], ◌∷◌, refl}
use Rattle.lists.specs.Increasing.{IsMember}
use Rattle.crystal_spec.specs.Matrices.{Triple, sum_of, Matrix, product, determinant, adjugate, identity}
use Rattle.basis_spec.specs.Metrics.{matrix_multiple}
use Rattle.crystal_spec.specs.Moments.{axial_vectors, turn_matrix}
use Rattle.crystal_spec.specs.Crystals.{Atom, Structure}
use Rattle.crystal_spec.specs.Operations.{IsWithinCell, Operation}
use Rattle.crystal_spec.specs.Cells.{HasOneAtomEach, IsCell}
use Rattle.basis_spec.specs.Translations.{pure_translation}
use Rattle.basis_spec.specs.StepBases.{IsStepBasis, IsSteps, IsClosed, InLattice}
use Rattle.basis_spec.proofs.StepLists.{least_first, least_second, least_third}
use Rattle.basis_spec.specs.Bases.{cell_in_basis}
use Rattle.positions.specs.Positions.{origin, modulo, triple}

rows : ℤ → ℤ → ℤ → ℤ → ℤ → ℤ → ℤ → ℤ → ℤ → Matrix
rows a b c d e f g h i = record { a11 = a; a12 = b; a13 = c; a21 = d; a22 = e; a23 = f; a31 = g; a32 = h; a33 = i }

-- a body-centred cube: n = 2, one moment along c at the corner and one in the middle
centred : Structure
centred = record {
  names = (70 ∷ 101 ∷ []) ∷ [];
  scale = pos 1;
  metric = rows (pos 1) (pos 0) (pos 0) (pos 0) (pos 1) (pos 0) (pos 0) (pos 0) (pos 1);
  n = 2;
  k = 1;
  kind = axial_vectors;
  atoms = record { species = 0; position = triple (pos 0) (pos 0) (pos 0); moment = triple (pos 0) (pos 0) (pos 1) } ∷ record { species = 0; position = triple (pos 1) (pos 1) (pos 1); moment = triple (pos 0) (pos 0) (pos 1) } ∷ [];
}

basis : Matrix
basis = rows (pos 2) (pos 0) (pos 1) (pos 0) (pos 2) (pos 1) (pos 0) (pos 0) (pos 1)

back : Matrix
back = rows (pos 1) (pos 0) (negsuc 0) (pos 0) (pos 1) (negsuc 0) (pos 0) (pos 0) (pos 2)

back-basis : product back basis ≡ matrix_multiple (pos 2) identity
unfolding back basis rows
back-basis = refl

determinant_back : determinant back ≡ pos 2
unfolding back rows
determinant_back = refl

fore_is : adjugate back ≡ rows (pos 2) (pos 0) (pos 1) (pos 0) (pos 2) (pos 1) (pos 0) (pos 0) (pos 1)
unfolding back rows
fore_is = refl

-- one atom is left, its moment along the third step
primitive_cell : cell_in_basis centred back ≡ record {
  names = (70 ∷ 101 ∷ []) ∷ [];
  scale = pos 4;
  metric = rows (pos 4) (pos 0) (pos 2) (pos 0) (pos 4) (pos 2) (pos 2) (pos 2) (pos 3);
  n = 2;
  k = 1;
  kind = axial_vectors;
  atoms = record { species = 0; position = triple (pos 0) (pos 0) (pos 0); moment = triple (negsuc 0) (negsuc 0) (pos 2) } ∷ [];
}
unfolding cell_in_basis turn_matrix centred back rows modulo
primitive_cell = refl

-- it is a cell: two positions that differ by a half do not differ by whole cells
half_apart : (k : ℤ) → pos 0 ≡ pos 1 +ℤ pos 2 *ℤ k → ⊥
half_apart k e = omega (arith, ints, e)

other_half : (k : ℤ) → pos 1 ≡ pos 0 +ℤ pos 2 *ℤ k → ⊥
other_half k e = omega (arith, ints, e)

one_each : HasOneAtomEach centred
unfolding centred
one_each a b (inl e) (inl f) d = e ∙ sym f
one_each a b (inl e) (inr (inl f)) d = absurd (half_apart d.cells.x (sym (ap (λ (x : Atom). x.position.x) e) ∙ ap (λ (v : Triple). v.x) d.is ∙ ap (λ (x : Atom). x.position.x +ℤ pos 2 *ℤ d.cells.x) f))
one_each a b (inl e) (inr (inr m)) d = absurd m
one_each a b (inr (inl e)) (inl f) d = absurd (other_half d.cells.x (sym (ap (λ (x : Atom). x.position.x) e) ∙ ap (λ (v : Triple). v.x) d.is ∙ ap (λ (x : Atom). x.position.x +ℤ pos 2 *ℤ d.cells.x) f))
one_each a b (inr (inl e)) (inr (inl f)) d = e ∙ sym f
one_each a b (inr (inl e)) (inr (inr m)) d = absurd m
one_each a b (inr (inr m)) k d = absurd m

some : pos 0 <ℤ pos 2
some = omega (arith, ints)

zero_within : (pos 0 ≤ℤ pos 0) × (pos 0 <ℤ pos 2)
zero_within = (omega (arith, ints), omega (arith, ints))

one_within : (pos 0 ≤ℤ pos 1) × (pos 1 <ℤ pos 2)
one_within = (omega (arith, ints), omega (arith, ints))

centred_is_cell : IsCell centred
unfolding centred rows
centred_is_cell = record {
  symmetric = refl;
  positive = record { first = omega (arith, ints); second = omega (arith, ints); third = omega (arith, ints) };
  some_cells = some;
  first = corner;
  of_cell = inl refl;
  named = named;
  within = within;
  one_atom_each = one_each;
}
  where
    corner : Atom
    corner = record { species = 0; position = triple (pos 0) (pos 0) (pos 0); moment = triple (pos 0) (pos 0) (pos 1) }

    named : (a : Atom) → IsMember a centred.atoms → a.species < length centred.names
    named a (inl e) = subst (λ (x : Atom). x.species < 1) (sym e) (omega arith)
    named a (inr (inl e)) = subst (λ (x : Atom). x.species < 1) (sym e) (omega arith)
    named a (inr (inr m)) = absurd m

    within : (a : Atom) → IsMember a centred.atoms → IsWithinCell 2 a.position
    within a (inl e) = subst (λ (x : Atom). IsWithinCell 2 x.position) (sym e) (record { x = zero_within; y = zero_within; z = zero_within })
    within a (inr (inl e)) = subst (λ (x : Atom). IsWithinCell 2 x.position) (sym e) (record { x = one_within; y = one_within; z = one_within })
    within a (inr (inr m)) = absurd m

-- ---- the lattice of its two pure translations

-- (0, 0, 0) and the centring translation
centring : List Operation
centring = pure_translation origin ∷ pure_translation (triple (pos 1) (pos 1) (pos 1)) ∷ []

-- they are closed under sums modulo 2
closed : IsClosed 2 centring
unfolding centring modulo
closed = record { zero_in = inl refl; sums = sums }
  where
    part : (t u : Triple) → pure_translation t ≡ pure_translation u → t ≡ u
    part t u e = ap (λ (o : Operation). o.translation) e

    sum_modulo : {t u v w : Triple} → t ≡ v → u ≡ w → pure_translation (modulo 2 (sum_of t u)) ≡ pure_translation (modulo 2 (sum_of v w))
    sum_modulo e f = λ i. pure_translation (modulo 2 (sum_of (e i) (f i)))

    sums : (t u : Triple) → IsMember (pure_translation t) centring → IsMember (pure_translation u) centring → IsMember (pure_translation (modulo 2 (sum_of t u))) centring
    sums t u (inl e) (inl f) = inl (sum_modulo (part t origin e) (part u origin f))
    sums t u (inl e) (inr (inl f)) = inr (inl (sum_modulo (part t origin e) (part u (triple (pos 1) (pos 1) (pos 1)) f)))
    sums t u (inl e) (inr (inr m)) = absurd m
    sums t u (inr (inl e)) (inl f) = inr (inl (sum_modulo (part t (triple (pos 1) (pos 1) (pos 1)) e) (part u origin f)))
    sums t u (inr (inl e)) (inr (inl f)) = inl (sum_modulo (part t (triple (pos 1) (pos 1) (pos 1)) e) (part u (triple (pos 1) (pos 1) (pos 1)) f))
    sums t u (inr (inl e)) (inr (inr m)) = absurd m
    sums t u (inr (inr m)) k = absurd m

zero_not_above : (x : ℤ) → pos 0 <ℤ x → x ≡ pos 0 → ⊥
zero_not_above x h e = omega (arith, ints)

zero_not_one : pos 0 ≡ pos 1 → ⊥
zero_not_one e = omega (arith, ints)

-- its triangular basis is (2, 0, 0), (0, 2, 0), (1, 1, 1)
is_basis : IsStepBasis (InLattice 2 centring) basis
unfolding centring InLattice modulo basis rows
is_basis = record {
  zeros = (refl, refl, refl);
  first = least_first 2 centring some closed (pos 2) (omega (arith, ints)) (inl refl) (omega (arith, ints)) x_least;
  second = least_second 2 centring some closed (pos 2) (pos 0) (omega (arith, ints)) (inl refl) (omega (arith, ints)) y_least;
  second_in = inl refl;
  second_from = omega (arith, ints);
  second_least = λ x h k. h;
  third = least_third 2 centring some closed (pos 1) (pos 1) (pos 1) (omega (arith, ints)) (inr (inl refl)) (omega (arith, ints)) (λ x y z h k. above z h);
  third_in = inr (inl refl);
  third_y = (omega (arith, ints), omega (arith, ints));
  third_x = (omega (arith, ints), omega (arith, ints));
}
  where
    above : (z : ℤ) → pos 0 <ℤ z → pos 1 ≤ℤ z
    above z h = omega (arith, ints)

    x_least : (x : ℤ) → pos 0 <ℤ x → IsMember (pure_translation (triple x (pos 0) (pos 0))) centring → pos 2 ≤ℤ x
    x_least x h (inl e) = absurd (zero_not_above x h (ap (λ (o : Operation). o.translation.x) e))
    x_least x h (inr (inl e)) = absurd (zero_not_one (ap (λ (o : Operation). o.translation.y) e))
    x_least x h (inr (inr m)) = absurd m

    y_least : (x y : ℤ) → pos 0 <ℤ y → IsMember (pure_translation (triple x y (pos 0))) centring → pos 2 ≤ℤ y
    y_least x y h (inl e) = absurd (zero_not_above y h (ap (λ (o : Operation). o.translation.y) e))
    y_least x y h (inr (inl e)) = absurd (zero_not_one (ap (λ (o : Operation). o.translation.z) e))
    y_least x y h (inr (inr m)) = absurd m

-- the index is 2
steps : IsSteps 2 (InLattice 2 centring) 2 back (adjugate back)
unfolding basis back rows
steps = record { basis = basis; is_basis = is_basis; index_is = refl; back_is = refl; fore_is = refl }
