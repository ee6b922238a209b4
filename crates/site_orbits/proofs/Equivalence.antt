-- Being alike is an equivalence where the operations are a group, and atoms that are alike are of one species.
use Rattle.std.proofs.Common.{◌≡◌, refl, sym, ap, ◌∙◌, ℕ, List}
use Rattle.crystal_spec.specs.Matrices.{Triple, Matrix, image}
use Rattle.crystal_spec.specs.Moments.{turn_matrix}
use Rattle.crystal_spec.specs.Crystals.{Atom, Structure, position_after}
use Rattle.crystal_spec.specs.Operations.{Operation, ListsAll}
use Rattle.crystal_spec.specs.Cells.{DiffersByCells, HasOneAtomEach}
use Rattle.crystal_spec.proofs.Images.{occupied_itself}
use Rattle.positions.specs.Positions.{origin}
use Rattle.basis_spec.specs.Bases.{SameCrystal}
use Rattle.basis_spec.proofs.MatrixLaws.{sum_of-origin}
use Rattle.basis_spec.proofs.PrimitiveCell.{differs_sym, differs_trans, differs_at, differs_itself}
use Rattle.basis_spec.proofs.Translations.{position_translated}
use Rattle.op_group.specs.Composition.{identity_operation, IsComposed}
use Rattle.op_group.specs.Groups.{IsGroupModulo}
use Rattle.op_group.proofs.Composing.{composed_position}
use Rattle.site_orbits.specs.Orbits.{Carries, IsAlike, IsEquivalence, HasOneSpecies}
use Rattle.site_orbits.proofs.CarriedPositions.{moved_differs}

-- one operation after the other carries p to where the next carries what the first carries p to
pub carries_composed : {n : ℕ} (a b r : Operation) (p : Triple) {q u : Triple} → IsComposed n a b r → Carries n a p q → Carries n b q u → Carries n r p u
carries_composed {n} a b r p {q} {u} h f g =
    differs_trans (differs_sym (record { cells = h.translation.cells; is = composed_position n a b r h p })) (differs_trans (moved_differs b f) g)

-- the identity carries each position to itself
pub identity_carries : (n : ℕ) (p : Triple) → Carries n identity_operation p p
identity_carries n p = differs_at (sym (position_translated origin p ∙ sum_of-origin p)) refl (differs_itself n p)

-- where b undoes a, it carries positions back
pub carries_back : {n : ℕ} (a b : Operation) {p q : Triple} → IsComposed n a b identity_operation → Carries n a p q → Carries n b q p
carries_back {n} a b {p} {q} h f =
    differs_trans (moved_differs b (differs_sym f))
    (differs_trans (record { cells = h.translation.cells; is = composed_position n a b identity_operation h p }) (identity_carries n p))

pub equivalence_of_group : (n : ℕ) (os : List Operation) → IsGroupModulo n os → IsEquivalence (IsAlike n os)
equivalence_of_group n os g = record {
  reflexive = λ p. record { operation = identity_operation; of_list = g.identity; carries = identity_carries n p };
  symmetric = λ p q h. let r = g.inverses h.operation h.of_list in record { operation = r.0; of_list = r.1.0; carries = carries_back h.operation r.0 r.1.1.after h.carries };
  transitive = λ p q u h k. let r = g.composed h.operation k.operation h.of_list k.of_list in record { operation = r.0; of_list = r.1.0; carries = carries_composed h.operation k.operation r.0 p r.1.1 h.carries k.carries };
}

-- where an atom is carried to, there is an atom of its species; and there is one atom at a position
pub one_species : (c b : Structure) (r : Matrix) (os : List Operation) → SameCrystal c b r → HasOneAtomEach b → ListsAll b os → HasOneSpecies c r (IsAlike b.n os)
one_species c b r os same one all x y mx my h =
    let o = h.operation in
    let from = (same.crystal x.species x.position x.moment).0 (occupied_itself c x mx) in
    let to = (((all.exact o).0 h.of_list).keeps.crystal x.species (image r x.position) (image (turn_matrix c.kind r) x.moment)).0 from in
    let at = (same.crystal y.species y.position y.moment).0 (occupied_itself c y my) in
    let there : DiffersByCells b.n (position_after o.matrix o.translation (image r x.position)) to.atom.position = record { cells = to.cells; is = to.same_position } in
    let here : DiffersByCells b.n (image r y.position) at.atom.position = record { cells = at.cells; is = at.same_position } in
    let is : to.atom ≡ at.atom = one to.atom at.atom to.of_cell at.of_cell (differs_trans (differs_sym there) (differs_trans h.carries here)) in
    sym to.same_species ∙ ap (λ (a : Atom). a.species) is ∙ at.same_species
