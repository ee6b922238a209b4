-- What is known where the primitive cell is filled at the position of an atom of a cell.
use Rattle.std.proofs.Common.{◌≡◌, refl, sym, ap, subst, ◌∙◌, ℕ, zero, suc, ◌<◌, ◌≤◌, [], ◌∷◌, List, length, arith}
use Rattle.std.specs.Prelude.{slice_get, Option, Some, IfSome}
use Rattle.crystal_spec.specs.declared.MomentKind.{MomentKind}
use Rattle.crystal_spec.specs.Matrices.{Triple, Matrix, image}
use Rattle.crystal_spec.specs.Crystals.{Atom, Structure}
use Rattle.crystal_spec.specs.Operations.{Operation, ListsAll}
use Rattle.crystal_spec.specs.Cells.{IsCell, DiffersByCells}
use Rattle.lattice_spec.specs.Niggli.{IsNiggli}
use Rattle.crystal.specs.Cells.{IsCellWithinLimits}
use Rattle.crystal.proofs.CellLemmas.{is_cell}
use Rattle.positions.specs.Positions.{modulo}
use Rattle.basis_spec.specs.Bases.{cell_in_basis, IsPrimitiveIn, SameCrystal}
use Rattle.basis_spec.proofs.PrimitiveCell.{differs_sym}
use Rattle.positions.proofs.Residues.{modulo_away}
use Rattle.op_group.specs.Groups.{IsGroupModulo}
use Rattle.op_group.specs.Lists.{OperationList, HasEntriesAtMost}
use Rattle.op_group.proofs.GroupLaws.{group_of_all}
use Rattle.site_orbits.specs.Orbits.{ListsSite}
use Rattle.site_orbits.specs.Entries.{AtomOrbit, HaveOrbits}
use Rattle.site_orbits.proofs.Small.{small_of_all}
use Rattle.moment_space.specs.Projectors.{IsAllowed}
use Rattle.moment_space.specs.Filled.{IsSiteAt, IsFilled, IsFilledAt, HasOneMomentAt, AllowsOwnMoment, IsKeptBy}
use Rattle.moment_space.specs.Replacements.{HasUnitDeterminants, HasReplaced}
use Rattle.moment_space.proofs.Ranges.{member_unit}
use Rattle.moment_space.proofs.Replacing.{replaced_as}
use Rattle.moment_space.proofs.Sites.{site_group, site_few, carried_alike, own_moment}
use Rattle.moment_space.proofs.Filling.{is_filled, is_kept}

record Element {X : Type 0} (xs : List X) (i : ℕ) : Type 0 where
  element : X
  at : slice_get xs i ≡ Some element

element_at : {X : Type 0} (xs : List X) (i : ℕ) → i < length xs → Element xs i
element_at [] i h = absurd (omega (arith, h))
element_at (x ∷ xs) zero h = record { element = x; at = refl }
element_at (x ∷ xs) (suc i) h = let r = element_at xs i (omega (arith, h)) in record { element = r.element; at = r.at }

-- c and its primitive cell b, which is held as a cell of the code; Q takes coordinates of c to those in b; the operations of b,
-- and the site-symmetry group of the atom number i of c
module _ (c b : Structure) (r : Matrix) (os site : List Operation) (i : ℕ) (held : Structure) (is_held : held ≡ b) (held_form : IsCellWithinLimits held) (niggli : IsNiggli b.metric) (primitive : IsPrimitiveIn c r) (same_cell : cell_in_basis c r ≡ b) (all : ListsAll b os) (is_site : IsSiteAt c r b os i site) where
  form : IsCellWithinLimits b
  form = subst (λ (s : Structure). IsCellWithinLimits s) is_held held_form

  cell : IsCell b
  cell = is_cell b form

  same : SameCrystal c b r
  same = subst (λ (s : Structure). SameCrystal c s r) same_cell primitive.same

  group : IsGroupModulo b.n os
  group = group_of_all b form.positive form.n_at_least os all

  pub small_list : HasEntriesAtMost 1 os
  small_list = small_of_all b os niggli cell.symmetric all

  pub unit_list : HasUnitDeterminants os
  unit_list = member_unit b.n os group

  pub own_allowed : AllowsOwnMoment c r i site
  own_allowed a at = own_moment c b r os site same cell.one_atom_each all i a at (is_site a at)

  pub one_there : HasOneMomentAt c r b os i site
  one_there a at m allowed = carried_alike b.n os (image r a.position) site (is_site a at) group c.kind m allowed

  module _ (below : i < length c.atoms) where
    atom : Atom
    atom = (element_at c.atoms i below).element

    lists : ListsSite b.n os (image r atom.position) site
    unfolding atom
    lists = is_site (element_at c.atoms i below).element (element_at c.atoms i below).at

    pub group_site : IsGroupModulo b.n site
    group_site = site_group b.n os (image r atom.position) site lists group

    pub few_site : length site ≤ 40000
    few_site = site_few b.n os (image r atom.position) site lists group.within_cell small_list

    pub small_site : HasEntriesAtMost 1 site
    small_site o k = small_list o ((lists.exact o).0 k).0

  module _ (m : Triple) (allowed : IsAllowed c.kind site m) (x : Atom) (at : slice_get c.atoms i ≡ Some x) (p : Triple) (place : p ≡ modulo c.n (image r x.position)) (f : Structure) (replaced : HasReplaced b.kind b.n os p m b.atoms b f) where
    allowed_there : IsAllowed b.kind site m
    allowed_there = subst (λ (k : MomentKind). IsAllowed k site m) (sym same.kind) allowed

    away : DiffersByCells b.n p (image r x.position)
    away =
        let is : modulo b.n (image r x.position) ≡ p = ap (λ (n : ℕ). modulo n (image r x.position)) same.n ∙ sym place in
        subst (λ (q : Triple). DiffersByCells b.n q (image r x.position)) is (differs_sym (modulo_away b.n (image r x.position) cell.some_cells))

    there : HasReplaced b.kind b.n os (image r x.position) m b.atoms b f
    there = record { atoms = replaced_as b.kind b.n os p (image r x.position) m away b.atoms f.atoms replaced.atoms; rest = replaced.rest }

    pub filled_there : IsFilledAt c r b os i m f
    filled_there a at_a =
        let one : x ≡ a = some_one x a (sym at ∙ at_a) in
        subst (λ (y : Atom). IsFilled b os (image r y.position) m f) one
        (is_filled b os all group (image r x.position) m site (is_site x at) allowed_there f there)
      where
        some_one : (x a : Atom) → Some x ≡ Some a → x ≡ a
        some_one x a e = cc e

    pub kept_there : IsCellWithinLimits f → IsKeptBy os f
    kept_there made = is_kept b os all group (image r x.position) m site (is_site x at) allowed_there f there made

-- ---- the site of an atom among the orbits of a cell
module _ (c b : Structure) (r : Matrix) (os : List Operation) (orbits : List AtomOrbit) (have : HaveOrbits c r b os orbits) (i : ℕ) (below : i < length orbits) (site : OperationList) (told : IfSome (slice_get orbits i) (λ (o : AtomOrbit). site ≡ o.site)) where
  orbit : AtomOrbit
  orbit = (element_at orbits i below).element

  orbit_at : slice_get orbits i ≡ Some orbit
  unfolding orbit
  orbit_at = (element_at orbits i below).at

  same_site : site ≡ orbit.site
  same_site = subst (λ (w : Option AtomOrbit). IfSome w (λ (o : AtomOrbit). site ≡ o.site)) orbit_at told

  pub site_at_orbit : IsSiteAt c r b os i site.operations
  site_at_orbit a at = subst (λ (l : OperationList). ListsSite b.n os (image r a.position) l.operations) (sym same_site) (have i orbit orbit_at a at).site

  pub n_at_orbit : i < length c.atoms → site.n ≡ b.n
  n_at_orbit room = let e = element_at c.atoms i room in ap (λ (l : OperationList). l.n) same_site ∙ (have i orbit orbit_at e.element e.at).same_n
