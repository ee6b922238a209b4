-- The cell in a basis of all translations is the same crystal, and primitive.
--
-- Let Q take coordinates to a basis of the translations of a crystal. Two atoms that Q brings to one position, but for
-- whole cells, differ by a translation; so the one is where the other is brought, and since one atom is at a position they
-- have one species and one moment. So it does not matter which of them is kept: the atoms in the other basis are exactly
-- the images. A translation u there is Q t, where t is a translation here; so u is whole cells.
use Rattle.std.proofs.Common.{◌≡◌, ℕ, pos, negsuc, ◌<ℤ◌, map, refl, sym, ap, subst, ◌∙◌}
use Rattle.lists.specs.Increasing.{IsMember}
use Rattle.lists.proofs.Members.{mapped_from, mapped_member}
use Rattle.crystal_spec.specs.Matrices.{Triple, Matrix, image, determinant, multiple, sum_of, identity}
use Rattle.positions.specs.Positions.{origin, modulo}
use Rattle.crystal_spec.specs.Moments.{turn_matrix}
use Rattle.crystal_spec.specs.Crystals.{Atom, Structure, Occupied}
use Rattle.crystal_spec.specs.Cells.{DiffersByCells, HasOneAtomEach}
use Rattle.basis_spec.specs.Translations.{IsTranslation, IsPrimitive, HasOnlyWholeCells}
use Rattle.basis_spec.specs.Bases.{ComesFrom, SameCrystal, IsBack}
use Rattle.basis_spec.specs.Bases.{in_basis, cell_in_basis}
use Rattle.basis_spec.proofs.MatrixLaws.{image-identity, image-multiple, image-sum_of, image-product, image-matrix_multiple, multiple_swap, multiple-origin, multiple-sum_of, sum_of-origin, sum_assoc, sum_comm, add_subtract, subtract_add, add_difference, metric_in-metric_in_adjugate}
use Rattle.basis_spec.proofs.Cancelling.{sum_cancel, image_cancel}
use Rattle.basis_spec.proofs.Translations.{atom_away, occupied_as, is_translation, moves, moves_back}
use Rattle.positions.proofs.Residues.{modulo_away, modulo_within, cells_within}
use Rattle.basis_spec.proofs.FirstAtoms.{member_of_firsts, stands_for}
use Rattle.basis_spec.proofs.OperationBases.{at_least_one, cells_translation, translation_here}
use Rattle.crystal_spec.proofs.Images.{occupied_itself}
use Rattle.crystal_spec.proofs.Moments.{turn-positive}

-- ---- positions that differ by whole cells
-- where p differs from q by whole cells, q does so from p
pub differs_sym : {n : ℕ} {p q : Triple} → DiffersByCells n p q → DiffersByCells n q p
differs_sym {n} {p} {q} d = record {
  cells = multiple (negsuc 0) d.cells;
  is = sym (ap (sum_of p) (multiple_swap (pos n) (negsuc 0) d.cells) ∙ ap (λ v. sum_of v (multiple (negsuc 0) (multiple (pos n) d.cells))) d.is ∙ add_subtract q (multiple (pos n) d.cells));
}

-- two differences by whole cells, one after the other, are one
pub differs_trans : {n : ℕ} {p q u : Triple} → DiffersByCells n p q → DiffersByCells n q u → DiffersByCells n p u
differs_trans {n} {p} {q} {u} d e = record {
  cells = sum_of e.cells d.cells;
  is = d.is ∙ ap (λ v. sum_of v (multiple (pos n) d.cells)) e.is ∙ sum_assoc u (multiple (pos n) e.cells) (multiple (pos n) d.cells) ∙ ap (sum_of u) (sym (multiple-sum_of (pos n) e.cells d.cells));
}

-- a difference by whole cells at equal positions
pub differs_at : {n : ℕ} {p p' q q' : Triple} → p ≡ p' → q ≡ q' → DiffersByCells n p q → DiffersByCells n p' q'
differs_at {n} {p} {p'} {q} {q'} e f d = record { cells = d.cells; is = sym e ∙ d.is ∙ ap (λ v. sum_of v (multiple (pos n) d.cells)) f }

-- the images of positions that differ by whole cells do too
pub differs_applied : (r : Matrix) {n : ℕ} {p q : Triple} → DiffersByCells n p q → DiffersByCells n (image r p) (image r q)
differs_applied r {n} {p} {q} d = record { cells = image r d.cells; is = ap (image r) d.is ∙ image-sum_of r q (multiple (pos n) d.cells) ∙ ap (sum_of (image r q)) (image-multiple r (pos n) d.cells) }

-- a position differs from itself by none
pub differs_itself : (n : ℕ) (p : Triple) → DiffersByCells n p p
differs_itself n p = record { cells = origin; is = sym (ap (sum_of p) (multiple-origin (pos n)) ∙ sum_of-origin p) }

-- ---- the cell in another basis
module _ (c : Structure) (r : Matrix) (some_cells : pos 0 <ℤ pos c.n) (b : IsBack c.n (IsTranslation c) r) where
  -- an atom of the primitive cell, and one of the cell that gives it
  record Given (moved : Atom) : Type 0 where
    atom : Atom
    of_cell : IsMember atom c.atoms
    species : moved.species ≡ atom.species
    moment : moved.moment ≡ image (turn_matrix c.kind r) atom.moment
    position : DiffersByCells c.n moved.position (image r atom.position)

  given : (atom : Atom) → IsMember atom (cell_in_basis c r).atoms → Given atom
  unfolding cell_in_basis
  given atom h =
      let f = mapped_from (in_basis c.n c.kind r) atom c.atoms (member_of_firsts atom (map (in_basis c.n c.kind r) c.atoms) h) in
      record {
        atom = f.item;
        of_cell = f.of_list;
        species = ap (λ (a : Atom). a.species) f.is;
        moment = ap (λ (a : Atom). a.moment) f.is;
        position = differs_at (sym (ap (λ (a : Atom). a.position) f.is)) refl (differs_sym (modulo_away c.n (image r f.item.position) some_cells));
      }

  -- the atom of the primitive cell at a's position
  record Taken (a : Atom) : Type 0 where
    atom : Atom
    of_primitive : IsMember atom (cell_in_basis c r).atoms
    position : DiffersByCells c.n (image r a.position) atom.position

  taken : (a : Atom) → IsMember a c.atoms → Taken a
  unfolding cell_in_basis
  taken a h =
      let f = stands_for (in_basis c.n c.kind r a) (map (in_basis c.n c.kind r) c.atoms) (mapped_member (in_basis c.n c.kind r) a c.atoms h) in
      record { atom = f.atom; of_primitive = f.of_list; position = differs_at refl (sym f.same_position) (modulo_away c.n (image r a.position) some_cells) }

  n_is : (cell_in_basis c r).n ≡ c.n
  unfolding cell_in_basis
  n_is = refl

  -- whole cells in the other basis are translations of the crystal
  step_of : (e : Triple) → image r (image b.steps e) ≡ multiple (pos c.n) e
  step_of e = sym (image-product r b.steps e) ∙ ap (λ a. image a e) b.whole ∙ image-matrix_multiple (pos c.n) identity e ∙ ap (multiple (pos c.n)) (image-identity e)

  step_translation : (e : Triple) → IsTranslation c (image b.steps e)
  step_translation e = (b.exact (image b.steps e)).1 (record { cells = e; is = step_of e })

  onto : (s : ℕ) (q l : Triple) → Occupied (cell_in_basis c r) s q l → ComesFrom c r s q l
  onto s q l o =
      let g = given o.atom o.of_cell in
      let d : DiffersByCells c.n q (image r g.atom.position) = differs_trans (subst (λ (n : ℕ). DiffersByCells n q o.atom.position) n_is (atom_away o)) g.position in
      record {
        old_position = sum_of g.atom.position (image b.steps d.cells);
        old_moment = g.atom.moment;
        position_is = image-sum_of r g.atom.position (image b.steps d.cells) ∙ ap (sum_of (image r g.atom.position)) (step_of d.cells) ∙ sym d.is;
        moment_is = sym g.moment ∙ o.same_moment;
        occupied = subst (λ (t : ℕ). Occupied c t (sum_of g.atom.position (image b.steps d.cells)) g.atom.moment) (sym g.species ∙ o.same_species)
            (moves c (image b.steps d.cells) (step_translation d.cells) g.atom.species g.atom.position g.atom.moment (occupied_itself c g.atom g.of_cell));
      }

  r_above : pos 0 <ℤ determinant r
  r_above = at_least_one (determinant r) b.determinant_positive

  there_back : (s : ℕ) (p m : Triple) → Occupied (cell_in_basis c r) s (image r p) (image (turn_matrix c.kind r) m) → Occupied c s p m
  there_back s p m o =
      let f = onto s (image r p) (image (turn_matrix c.kind r) m) o in
      occupied_as c s (image_cancel r f.old_position p r_above f.position_is) (image_cancel (turn_matrix c.kind r) f.old_moment m (turn-positive c.kind r r_above) f.moment_is) f.occupied

  -- two atoms at one position there have one species and one moment
  alike : HasOneAtomEach c → (a a' : Atom) → IsMember a c.atoms → IsMember a' c.atoms → DiffersByCells c.n (image r a'.position) (image r a.position) → (a'.species ≡ a.species) × (a'.moment ≡ a.moment)
  alike one a a' h h' d =
      let t = sum_of a'.position (multiple (negsuc 0) a.position) in
      let whole : image r t ≡ multiple (pos c.n) d.cells =
      sum_cancel (image r t) (multiple (pos c.n) d.cells) (image r a.position) (sym (image-sum_of r t a.position) ∙ ap (image r) (subtract_add a'.position a.position) ∙ d.is ∙ sum_comm (image r a.position) (multiple (pos c.n) d.cells)) in
      let o = moves c t ((b.exact t).1 (record { cells = d.cells; is = whole })) a.species a.position a.moment (occupied_itself c a h) in
      let same = one a' o.atom h' o.of_cell (differs_at (add_difference a'.position a.position) refl (atom_away o)) in
      (ap (λ (x : Atom). x.species) same ∙ o.same_species, ap (λ (x : Atom). x.moment) same ∙ o.same_moment)

  there : HasOneAtomEach c → (s : ℕ) (p m : Triple) → Occupied c s p m → Occupied (cell_in_basis c r) s (image r p) (image (turn_matrix c.kind r) m)
  there one s p m o =
      let f = taken o.atom o.of_cell in
      let g = given f.atom f.of_primitive in
      let same = alike one o.atom g.atom o.of_cell g.of_cell (differs_sym (differs_trans f.position g.position)) in
      let away = subst (λ (n : ℕ). DiffersByCells n (image r p) f.atom.position) (sym n_is) (differs_trans (differs_applied r (atom_away o)) f.position) in
      record {
        atom = f.atom;
        of_cell = f.of_primitive;
        same_species = g.species ∙ same.0 ∙ o.same_species;
        same_moment = g.moment ∙ ap (image (turn_matrix c.kind r)) (same.1 ∙ o.same_moment);
        cells = away.cells;
        same_position = away.is;
      }

  -- so the cell in a basis of all translations is the same crystal
  pub same_crystal : HasOneAtomEach c → SameCrystal c (cell_in_basis c r) r
  unfolding cell_in_basis
  same_crystal one = record {
    determinant_positive = b.determinant_positive;
    names = refl;
    n = refl;
    k = refl;
    kind = refl;
    scale = refl;
    metric = metric_in-metric_in_adjugate r c.metric;
    crystal = λ s p m. (there one s p m, there_back s p m);
    onto = onto;
  }

-- in a basis of all translations none is left but whole cells
pub no_translation_left : (c c' : Structure) (r : Matrix) → SameCrystal c c' r → IsBack c.n (IsTranslation c) r → (s : ℕ) (p m : Triple) → Occupied c s p m → HasOnlyWholeCells c'
no_translation_left c c' r same b s p m o u is =
    let there = moves c' u is s (image r p) (image (turn_matrix c.kind r) m) ((same.crystal s p m).0 o) in
    let f = same.onto s (sum_of (image r p) u) (image (turn_matrix c.kind r) m) there in
    let t = sum_of f.old_position (multiple (negsuc 0) p) in
    let e : image r t ≡ u = sum_cancel (image r t) u (image r p) (sym (image-sum_of r t p) ∙ ap (image r) (subtract_add f.old_position p) ∙ f.position_is ∙ sum_comm (image r p) u) in
    let d = (b.exact t).0 (translation_here c c' r same t (subst (IsTranslation c') (sym e) is)) in
    record { cells = d.cells; is = sym e ∙ d.is ∙ ap (λ k. multiple (pos k) d.cells) (sym same.n) }

-- ---- the pure translations within one cell say as much as all translations
-- the sum of two translations is one
pub translation_sum : (c : Structure) (t u : Triple) → IsTranslation c t → IsTranslation c u → IsTranslation c (sum_of t u)
translation_sum c t u h k = is_translation c (sum_of t u)
    (λ s p m o. occupied_as c s (sum_assoc p t u) refl (moves c u k s (sum_of p t) m (moves c t h s p m o)))
    (λ s p m o. moves_back c t h s p m (moves_back c u k s (sum_of p t) m (occupied_as c s (sym (sum_assoc p t u)) refl o)))

-- a translation modulo n is a translation
pub residue_translation : (c : Structure) (t : Triple) → pos 0 <ℤ pos c.n → IsTranslation c t → IsTranslation c (modulo c.n t)
residue_translation c t h is =
    let d = differs_sym (modulo_away c.n t h) in
    subst (IsTranslation c) (sym d.is) (translation_sum c t (multiple (pos c.n) d.cells) is (cells_translation c d.cells))

-- a primitive cell has no translation but whole cells
pub cells_alone : (c : Structure) → pos 0 <ℤ pos c.n → IsPrimitive c → HasOnlyWholeCells c
cells_alone c h none t is =
    let z = none (modulo c.n t) (record { translation = modulo_within c.n t h; keeps = residue_translation c t h is }) in
    let d = modulo_away c.n t h in
    record { cells = d.cells; is = d.is ∙ ap (λ v. sum_of v (multiple (pos c.n) d.cells)) z ∙ sum_comm origin (multiple (pos c.n) d.cells) ∙ sum_of-origin (multiple (pos c.n) d.cells) }

-- a cell with no translation but whole cells is primitive
pub primitive_from : (c : Structure) → HasOnlyWholeCells c → IsPrimitive c
primitive_from c alone t p = cells_within c.n t p.translation (alone t p.keeps)
