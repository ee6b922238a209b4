-- A basis of the translations of a crystal gives its primitive cell.
--
-- The triangular basis of the pure translations is one of all translations, and the matrix that takes coordinates to it is
-- told by its product with the basis. A change of basis by a matrix of determinant 1, as the reduction of a cell is,
-- leaves the lattice. So the cell in the reduced basis is the same crystal and is primitive, and the determinant of the
-- whole change of basis is the number of pure translations.
use Rattle.std.proofs.Common.{◌≡◌, ℕ, ◌<◌, ℤ, pos, ◌*ℤ◌, ◌≤ℤ◌, List, [], ◌∷◌, map, length, refl, sym, ap, subst, ◌∙◌}
use Rattle.std.specs.Prelude.{◌↔◌}
use Rattle.std.proofs.lemmas.List.{length-map}
use Rattle.ring.specs.Ring.{var, con, ◌:*◌}
use Rattle.lists.specs.Increasing.{IsMember}
use Rattle.lists.proofs.Members.{mapped_from, mapped_member}
use Rattle.crystal_spec.specs.Matrices.{Triple, Matrix, product, image, determinant, adjugate, identity}
use Rattle.crystal_spec.specs.Crystals.{Atom, Structure}
use Rattle.crystal_spec.specs.Operations.{Operation}
use Rattle.crystal_spec.specs.Cells.{IsCell}
use Rattle.crystal_spec.proofs.Identities.{by_integers}
use Rattle.crystal_spec.proofs.Images.{occupied_itself}
use Rattle.crystal_spec.proofs.Isometries.{determinant-product}
use Rattle.positions.specs.Positions.{triple}
use Rattle.basis_spec.specs.Metrics.{matrix_multiple}
use Rattle.basis_spec.specs.Translations.{IsTranslation, ListsPureTranslations}
use Rattle.basis_spec.specs.Bases.{IsBack, IsPrimitiveIn, cell_in_basis, first_at_each_position, in_basis}
use Rattle.basis_spec.specs.StepBases.{IsStepBasis, IsSteps, InLattice}
use Rattle.basis_spec.proofs.MatrixLaws.{product_assoc, image-product, image-identity, same_images}
use Rattle.basis_spec.proofs.OperationBases.{at_least_one}
use Rattle.basis_spec.proofs.FirstAtoms.{member_of_firsts, stands_for}
use Rattle.basis_spec.proofs.StepBases.{back, back_whole, basis_above}
use Rattle.basis_spec.proofs.StepEntries.{back_once, index_is_determinant}
use Rattle.basis_spec.proofs.StepIndex.{translations_lattice, step_back, back_then, determinant_then}
use Rattle.basis_spec.proofs.Candidates.{natural_above, same_natural}
use Rattle.basis_spec.proofs.StepCount.{count_is_index}
use Rattle.basis_spec.proofs.PrimitiveCell.{same_crystal, no_translation_left, primitive_from}
use Rattle.basis_spec.proofs.PrimitiveAtoms.{inverse_turned, cell_in_basis_one_atom_each, position_within}
use Rattle.basis_spec.proofs.Positive.{positive_adjugate, symmetric_metric_in}
use Rattle.basis_spec.proofs.TranslationLists.{translations_of, translations_once, translations_exact, lattice_is}

-- ---- the triangular basis of the list is that of all translations

-- a triangular basis of one lattice is that of any other with the same members
pub step_basis_of : (P Q : Triple → Type 0) → ((t : Triple) → P t ↔ Q t) → (b : Matrix) → IsStepBasis P b → IsStepBasis Q b
step_basis_of P Q same b s = record {
  zeros = s.zeros;
  first = record {
    positive = s.first.positive;
    it_holds = (same (triple b.a11 (pos 0) (pos 0))).0 s.first.it_holds;
    least = λ t p h. s.first.least t p ((same (triple t (pos 0) (pos 0))).1 h);
  };
  second = record {
    positive = s.second.positive;
    it_holds = (s.second.it_holds.0, (same (triple s.second.it_holds.0 b.a22 (pos 0))).0 s.second.it_holds.1);
    least = λ t p h. s.second.least t p (h.0, (same (triple h.0 t (pos 0))).1 h.1);
  };
  second_in = (same (triple b.a12 b.a22 (pos 0))).0 s.second_in;
  second_from = s.second_from;
  second_least = λ x p h. s.second_least x p ((same (triple x b.a22 (pos 0))).1 h);
  third = record {
    positive = s.third.positive;
    it_holds = (s.third.it_holds.0, (s.third.it_holds.1.0, (same (triple s.third.it_holds.0 s.third.it_holds.1.0 b.a33)).0 s.third.it_holds.1.1));
    least = λ t p h. s.third.least t p (h.0, (h.1.0, (same (triple h.0 h.1.0 t)).1 h.1.1));
  };
  third_in = (same (triple b.a13 b.a23 b.a33)).0 s.third_in;
  third_y = s.third_y;
  third_x = s.third_x;
}

-- ---- the primitive cell

-- What holds of a change of basis Q to a primitive cell: the cell in that basis is the same crystal and primitive, Q takes
-- coordinates to a basis of the lattice of the pure translations os, and its determinant is the index, their number.
pub record IsPrimitiveBasis (c : Structure) (os : List Operation) (index : ℕ) (r : Matrix) : Type 0 where
  pub primitive : IsPrimitiveIn c r
  pub is_back : IsBack c.n (InLattice c.n os) r
  pub index_is : pos index ≡ determinant r
  pub count : length os ≡ index

-- the inverse of a matrix of determinant 1 has determinant 1
determinant_inverse : (base q : Matrix) → determinant q ≡ pos 1 → product base q ≡ identity → determinant base ≡ pos 1
determinant_inverse base q one e =
    by_integers (determinant base ∷ []) (var 0) (var 0 :* con (pos 1)) refl ∙ ap (λ (d : ℤ). determinant base *ℤ d) (sym one) ∙ sym (determinant-product base q) ∙ ap determinant e

-- A crystal, the list of its pure translations and the matrices of their triangular basis, and after it a change of basis q
-- of determinant 1, with the inverse base: together they are a change of basis to a primitive cell.
pub primitive_kept : (c : Structure) → IsCell c → (os : List Operation) → ListsPureTranslations c os → (index : ℕ) (back fore : Matrix) → IsSteps c.n (InLattice c.n os) index back fore →
    (base q : Matrix) → determinant q ≡ pos 1 → product base q ≡ identity → IsPrimitiveBasis c os index (product q back)
primitive_kept c cell os a index found fore steps base q one e =
    let b = steps.basis in
    let l = translations_lattice c in
    let s = step_basis_of (InLattice c.n os) (IsTranslation c) (lattice_is c os a cell.some_cells) b steps.is_basis in
    let is : back c.n (IsTranslation c) l b s ≡ found = back_once (pos c.n) b (back c.n (IsTranslation c) l b s) found (basis_above c.n (IsTranslation c) l b s) (back_whole c.n (IsTranslation c) l b s) steps.back_is in
    let k : IsBack c.n (IsTranslation c) (product q found) =
    back_then c.n (IsTranslation c) q base found one (inverse_turned base q (determinant_inverse base q one e) e) e (subst (IsBack c.n (IsTranslation c)) is (step_back c.n (IsTranslation c) l b s cell.some_cells)) in
    let first = cell.first in
    let same = same_crystal c (product q found) cell.some_cells k cell.one_atom_each in
    let index_is : pos index ≡ determinant found = index_is_determinant c.n index (IsTranslation c) l b s steps.index_is ∙ ap determinant is in
    let counted : pos (length (translations_of os)) ≡ determinant found =
    count_is_index c.n (IsTranslation c) l b s (natural_above c.n cell.some_cells) (translations_of os) (translations_once c os a) (translations_exact c os a) ∙ ap determinant is in
    record {
      primitive = record {
        same = same;
        primitive = primitive_from (cell_in_basis c (product q found)) (no_translation_left c (cell_in_basis c (product q found)) (product q found) same k first.species first.position first.moment (occupied_itself c first cell.of_cell));
      };
      is_back = record {
        determinant_positive = k.determinant_positive;
        steps = k.steps;
        whole = k.whole;
        exact = λ t. ((λ h. (k.exact t).0 ((lattice_is c os a cell.some_cells t).0 h)), (λ h. (lattice_is c os a cell.some_cells t).1 ((k.exact t).1 h)));
      };
      index_is = index_is ∙ sym (determinant_then q found one);
      count = sym (length-map os (λ o. o.translation)) ∙ same_natural (length (translations_of os)) index (counted ∙ sym index_is);
    }

-- where fore · back is the index, so it is after that change of basis
pub fore_then : (index : ℤ) (fore back base q : Matrix) → product fore back ≡ matrix_multiple index identity → product base q ≡ identity → product (product fore base) (product q back) ≡ matrix_multiple index identity
fore_then index fore back base q f e =
    product_assoc fore base (product q back) ∙ ap (product fore) (sym (product_assoc base q back) ∙ ap (λ (m : Matrix). product m back) e ∙ identity-product back) ∙ f
  where
    identity-product : (m : Matrix) → product identity m ≡ m
    identity-product m = same_images (product identity m) m (λ v. image-product identity m v ∙ image-identity (image m v))

-- ---- the cell in another basis is a cell

-- its atoms are of named species
named_in_basis : (c : Structure) (r : Matrix) → IsCell c → (a : Atom) → IsMember a (first_at_each_position (map (in_basis c.n c.kind r) c.atoms)) → a.species < length c.names
named_in_basis c r cell a m =
    let f = mapped_from (in_basis c.n c.kind r) a c.atoms (member_of_firsts a (map (in_basis c.n c.kind r) c.atoms) m) in
    subst (λ (s : ℕ). s < length c.names) (sym (ap (λ (x : Atom). x.species) f.is)) (cell.named f.item f.of_list)

-- the metric tensor is symmetric and positive, and no two atoms are at one position
pub cell_in_basis_is_cell : (c : Structure) (r : Matrix) → IsCell c → pos 1 ≤ℤ determinant r → IsCell (cell_in_basis c r)
unfolding cell_in_basis
cell_in_basis_is_cell c r cell up =
    let f = stands_for (in_basis c.n c.kind r cell.first) (map (in_basis c.n c.kind r) c.atoms) (mapped_member (in_basis c.n c.kind r) cell.first c.atoms cell.of_cell) in
    record {
      symmetric = symmetric_metric_in (adjugate r) c.metric cell.symmetric;
      positive = positive_adjugate r c.metric cell.symmetric cell.positive (at_least_one (determinant r) up);
      some_cells = cell.some_cells;
      first = f.atom;
      of_cell = f.of_list;
      named = named_in_basis c r cell;
      within = position_within c r cell.some_cells;
      one_atom_each = cell_in_basis_one_atom_each c r cell.some_cells;
    }
