use Rattle.std.proofs.Common.{ℕ, ◌⊎◌, ◌∙◌, ap, subst, sym}
use Rattle.std.specs.Prelude.{◌↔◌, Bool}
use Rattle.lists.specs.Increasing.{IsMember}
use Rattle.crystal_spec.specs.Matrices.{image, difference}
use Rattle.crystal.specs.Views.{atom_of}
use Rattle.positions.specs.Positions.{triple_of, modulo}
use Rattle.positions.proofs.Residues.{is_modulo}
use Rattle.crystal.specs.Cells.{IsCellWithinLimits}
use Rattle.mag_ops.specs.Candidates.{IsOnto}
use Rattle.mag_ops.proofs.KeptMaps.{onto_more, onto_more_same}
use Rattle.mag_ops.proofs.full.add_kept_onto.Goals as goal

pub add_kept-requires-clause-places_n : goal.add_kept-requires-clause-places_n
add_kept-requires-clause-places_n g c =
    let from = atom_of c.args.from.now in
    let onto = atom_of c.args.onto.now in
    let form = subst IsCellWithinLimits c.cell.ensures c.invariant.ensures.form in
    let p = difference onto.position (image c.args.action.now.matrix from.position) in
    (is_modulo c.args.places.now.n p (triple_of c.translation_onto-shift.result) form.n_at_least (c.translation_onto-shift.ensures ∙ ap (λ (n : ℕ). modulo n p) c.requires.acts.modulus)).within

pub add_kept-requires-2-clause-places_n : goal.add_kept-requires-2-clause-places_n
add_kept-requires-2-clause-places_n g c =
    let from = atom_of c.args.from.now in
    let onto = atom_of c.args.onto.now in
    let form = subst IsCellWithinLimits c.cell.ensures c.invariant.ensures.form in
    let p = difference onto.position (image c.args.action.now.matrix from.position) in
    (is_modulo c.args.places.now.n p (triple_of c.translation_onto-shift.result) form.n_at_least (c.translation_onto-shift.ensures ∙ ap (λ (n : ℕ). modulo n p) c.requires.acts.modulus)).within

pub returns-then-not-time-clause-members : goal.returns-then-not-time-clause-members
returns-then-not-time-clause-members g c o =
    let from = atom_of c.args.from.now in
    let onto = atom_of c.args.onto.now in
    let form = subst IsCellWithinLimits c.cell.ensures c.invariant.ensures.form in
    let p = difference onto.position (image c.args.action.now.matrix from.position) in
    let folds = is_modulo c.args.places.now.n p (triple_of c.translation_onto-shift.result) form.n_at_least (c.translation_onto-shift.ensures ∙ ap (λ (n : ℕ). modulo n p) c.requires.acts.modulus) in
    subst (λ (t : Bool). IsMember o c.add_kept.new.found.operations ↔ (IsOnto c.args.places.now t c.args.action.now.matrix from onto o ⊎ IsMember o c.args.found.now.operations)) (sym c.if-not-time.true) (
    onto_more_same c.args.places.now c.args.action.now.matrix (triple_of c.translation_onto-shift.result) from onto o _ _ folds (c.in_ok-add_kept.ensures.members o))

pub returns-clause-members : goal.returns-clause-members
returns-clause-members g c o =
    let from = atom_of c.args.from.now in
    let onto = atom_of c.args.onto.now in
    let form = subst IsCellWithinLimits c.cell.ensures c.invariant.ensures.form in
    let p = difference onto.position (image c.args.action.now.matrix from.position) in
    let folds = is_modulo c.args.places.now.n p (triple_of c.translation_onto-shift.result) form.n_at_least (c.translation_onto-shift.ensures ∙ ap (λ (n : ℕ). modulo n p) c.requires.acts.modulus) in
    subst (λ (t : Bool). IsMember o c.add_kept-2.new.found.operations ↔ (IsOnto c.args.places.now t c.args.action.now.matrix from onto o ⊎ IsMember o c.args.found.now.operations)) (sym c.if-not-time.false) (
    onto_more c.args.places.now c.args.action.now.matrix (triple_of c.translation_onto-shift.result) from onto o _ _ _ folds (c.in_ok-add_kept.ensures.members o) (c.in_ok-add_kept-2.ensures.members o))
