-- The atoms of the cell in another basis are within it, no two at one position; and inverse changes of basis.
use Rattle.std.proofs.lemmas.List.{length-map}
use Rattle.lists.specs.Increasing.{IsMember, IsDistinct}
use Rattle.lists.proofs.Members.{mapped_from}
use Rattle.crystal_spec.proofs.Images.{IsApart}
use Rattle.basis_spec.proofs.PrimitiveCell.{differs_at, differs_itself}
use Rattle.std.proofs.Common.{suc, length, ◌≤◌, ◌≡◌, ℕ, Bool, true, false, ℤ, pos, ◌<ℤ◌, List, [], ◌∷◌, map, refl, sym, ap, subst, ◌∙◌, inl, inr, arith}
use Rattle.std.proofs.lemmas.Int.{ints}
use Rattle.crystal_spec.specs.Matrices.{Triple, Matrix, product, image, determinant, adjugate, multiple, identity}
use Rattle.basis_spec.specs.Metrics.{matrix_multiple}
use Rattle.crystal_spec.specs.Crystals.{Atom, Structure}
use Rattle.crystal_spec.specs.Operations.{IsWithinCell}
use Rattle.crystal_spec.specs.Cells.{HasOneAtomEach, IsCell}
use Rattle.basis_spec.specs.Bases.{IsBack, is_same_position, without_position, first_at_each_position, in_basis, cell_in_basis}
use Rattle.basis_spec.proofs.MatrixLaws.{image-product, image-identity, image-multiple, image-matrix_multiple, same_images}
use Rattle.basis_spec.proofs.Cancelling.{image_cancel}
use Rattle.positions.proofs.Residues.{modulo_within}
use Rattle.basis_spec.proofs.FirstAtoms.{same_position_decides, member_of_without, member_of_firsts}
use Rattle.basis_spec.proofs.PureTranslations.{translations_same}
use Rattle.crystal_spec.proofs.Isometries.{image-adjugate}

not_there : (p : Triple) (b : Atom) (atoms : List Atom) → IsMember b (without_position p atoms) → p ≡ b.position → ⊥
not_there p b [] m e = m
not_there p b (x ∷ atoms) m e = by (is_same_position p x.position) refl m (λ k. not_there p b atoms k e)
  where
    by : (w : Bool) → is_same_position p x.position ≡ w → IsMember b (elim w [ true ↦ without_position p atoms | false ↦ x ∷ without_position p atoms ]) → (IsMember b (without_position p atoms) → ⊥) → ⊥
    by true f k rec = rec k
    by false f (inl g) rec = cc (sym f ∙ (same_position_decides p x.position).1 (e ∙ ap (λ (s : Atom). s.position) g))
    by false f (inr k) rec = rec k

one_at_each : (a b : Atom) (atoms : List Atom) → IsMember a (first_at_each_position atoms) → IsMember b (first_at_each_position atoms) → a.position ≡ b.position → a ≡ b
one_at_each a b [] m k e = absurd m
one_at_each a b (x ∷ atoms) (inl f) (inl g) e = f ∙ sym g
one_at_each a b (x ∷ atoms) (inl f) (inr k) e = absurd (not_there x.position b (first_at_each_position atoms) k (ap (λ (s : Atom). s.position) (sym f) ∙ e))
one_at_each a b (x ∷ atoms) (inr m) (inl g) e = absurd (not_there x.position a (first_at_each_position atoms) m (ap (λ (s : Atom). s.position) (sym g) ∙ sym e))
one_at_each a b (x ∷ atoms) (inr m) (inr k) e = one_at_each a b atoms (member_of_without x.position a (first_at_each_position atoms) m) (member_of_without x.position b (first_at_each_position atoms) k) e

without_distinct : (p : Triple) (atoms : List Atom) → IsDistinct atoms → IsDistinct (without_position p atoms)
without_distinct p [] d = tt
without_distinct p (x ∷ atoms) d = by (is_same_position p x.position) (without_distinct p atoms d.1)
  where
    by : (w : Bool) → IsDistinct (without_position p atoms) → IsDistinct (elim w [ true ↦ without_position p atoms | false ↦ x ∷ without_position p atoms ])
    by true h = h
    by false h = ((λ m. d.0 (member_of_without p x atoms m)), h)

-- no atom is there twice
pub firsts_distinct : (atoms : List Atom) → IsDistinct (first_at_each_position atoms)
firsts_distinct [] = tt
firsts_distinct (a ∷ atoms) = ((λ m. not_there a.position a (first_at_each_position atoms) m refl), without_distinct a.position (first_at_each_position atoms) (firsts_distinct atoms))

without_length : (p : Triple) (atoms : List Atom) → length (without_position p atoms) ≤ length atoms
without_length p [] = omega arith
without_length p (x ∷ atoms) = by (is_same_position p x.position) (without_length p atoms)
  where
    by : (w : Bool) → length (without_position p atoms) ≤ length atoms → length {A = Atom} (elim w [ true ↦ without_position p atoms | false ↦ x ∷ without_position p atoms ]) ≤ suc (length atoms)
    by true h = omega (arith, h)
    by false h = omega (arith, h)

-- the list is no longer than the one it is made of
pub firsts_length : (atoms : List Atom) → length (first_at_each_position atoms) ≤ length atoms
firsts_length [] = omega arith
firsts_length (a ∷ atoms) =
    let h = without_length a.position (first_at_each_position atoms) in
    let k = firsts_length atoms in
    omega (arith, h, k)

-- so the cell in another basis has no more atoms than the cell
pub fewer_atoms : (c : Structure) (r : Matrix) → length (cell_in_basis c r).atoms ≤ length c.atoms
unfolding cell_in_basis
fewer_atoms c r =
    let h = firsts_length (map (in_basis c.n c.kind r) c.atoms) in
    let e = length-map c.atoms (in_basis c.n c.kind r) in
    omega (arith, h, e)

-- the atoms of a cell without repeats are within it and apart
pub apart_of_cell : (c : Structure) → IsCell c → IsDistinct c.atoms → IsApart c
apart_of_cell c cell d = record { within = cell.within; told = λ a b m k e. cell.one_atom_each a b m k (differs_at refl e (differs_itself c.n a.position)); distinct = d }

-- each position is within the cell
pub position_within : (c : Structure) (r : Matrix) → pos 0 <ℤ pos c.n → (a : Atom) → IsMember a (first_at_each_position (map (in_basis c.n c.kind r) c.atoms)) → IsWithinCell c.n a.position
position_within c r some a m =
    let f = mapped_from (in_basis c.n c.kind r) a c.atoms (member_of_firsts a (map (in_basis c.n c.kind r) c.atoms) m) in
    subst (IsWithinCell c.n) (sym (ap (λ (s : Atom). s.position) f.is)) (modulo_within c.n (image r f.item.position) some)

-- no two atoms of the cell in another basis are at one position
pub cell_in_basis_one_atom_each : (c : Structure) (r : Matrix) → pos 0 <ℤ pos c.n → HasOneAtomEach (cell_in_basis c r)
unfolding cell_in_basis
cell_in_basis_one_atom_each c r some a b m k d = one_at_each a b (map (in_basis c.n c.kind r) c.atoms) m k (translations_same c.n a.position b.position (position_within c r some a m) (position_within c r some b k) d)

-- n · fore is index · steps
pub fore_steps : (n : ℕ) (in_it : Triple → Type 0) (r : Matrix) (b : IsBack n in_it r) → matrix_multiple (pos n) (adjugate r) ≡ matrix_multiple (determinant r) b.steps
fore_steps n in_it r b = same_images (matrix_multiple (pos n) (adjugate r)) (matrix_multiple (determinant r) b.steps) (λ v.
    image-matrix_multiple (pos n) (adjugate r) v ∙ sym (image-multiple (adjugate r) (pos n) v) ∙ ap (image (adjugate r)) (sym (sym (image-product r b.steps v) ∙ ap (λ a. image a v) b.whole ∙ image-matrix_multiple (pos n) identity v ∙ ap (multiple (pos n)) (image-identity v)))
    ∙ image-adjugate r (image b.steps v) ∙ sym (image-matrix_multiple (determinant r) b.steps v))

one_above : (h : ℤ) → h ≡ pos 1 → pos 0 <ℤ h
one_above h e = subst (λ (z : ℤ). pos 0 <ℤ z) (sym e) (omega (arith, ints))

-- an inverse on one side is one on the other
pub inverse_turned : (base q : Matrix) → determinant base ≡ pos 1 → product base q ≡ identity → product q base ≡ identity
inverse_turned base q one e = same_images (product q base) identity (λ v.
    image-product q base v ∙ image_cancel base (image q (image base v)) v (one_above (determinant base) one) (sym (image-product base q (image base v)) ∙ ap (λ a. image a (image base v)) e ∙ image-identity (image base v)) ∙ sym (image-identity v))
