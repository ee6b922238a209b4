use Rattle.std.proofs.Common.{◌≡◌, true, false, eqb-true, length, subst, sym, ap, ◌∙◌}
use Rattle.std.specs.Prelude.{IsTrue, ◌↔◌}
use Rattle.crystal_spec.specs.declared.MomentKind.{MomentKind}
use Rattle.crystal_spec.specs.Matrices.{Matrix}
use Rattle.crystal_spec.specs.Moments.{moment_matrix}
use Rattle.crystal_spec.specs.Crystals.{Structure}
use Rattle.crystal_spec.specs.Operations.{sign_factor}
use Rattle.crystal.specs.Cells.{IsCellWithinLimits}
use Rattle.crystal.specs.Views.{atom_of}
use Rattle.matrix3.specs.Bounds.{EntriesAtMost}
use Rattle.crystal.proofs.CellLemmas.{atom_member}
use Rattle.crystal_compare.specs.Search.{MapsOnto, HasAtomImage, HaveAtomImages}
use Rattle.crystal_compare.proofs.Imaging.{moment_matrix_small}
use Rattle.crystal_compare.proofs.Sizes.{steps_small}
use Rattle.crystal_compare.proofs.Reaching.{onto_exactly, equally_many, images_of_onto, atom_image_member}
use Rattle.crystal_compare.proofs.images.is_onto.Goals as goal
use Rattle.crystal_compare.proofs.images.is_onto.Goals.{then-count, else-count}

pub has_image-requires-clause-atom : goal.has_image-requires-clause-atom
has_image-requires-clause-atom c =
    let one = c.args.one.now in
    atom_member (length one.names) one.n one.kind one.atoms (atom_of c.args.from.now) c.count.ensures.form.atoms c.requires.of_cell

pub has_image-requires-clause-translation : goal.has_image-requires-clause-translation
has_image-requires-clause-translation c =
    let one = c.count.ensures.form in
    let other = subst IsCellWithinLimits c.cell.ensures c.invariant.ensures.form in
    steps_small c.args.one.now.n c.args.other.now.n c.args.map.now.shift one.n_at_most other.n_at_most c.requires.within

pub has_image-requires-clause-moments : goal.has_image-requires-clause-moments
has_image-requires-clause-moments c = subst (EntriesAtMost 1) (sym c.moment_matrix-moments.ensures.value) (moment_matrix_small c.kind.result c.args.map.now.w c.args.map.now.sign c.requires.small c.requires.unimodular)

pub have_images-requires-clause-translation : goal.have_images-requires-clause-translation
have_images-requires-clause-translation c =
    let one = c.count.ensures.form in
    let other = subst IsCellWithinLimits c.cell.ensures c.invariant.ensures.form in
    steps_small c.args.one.now.n c.args.other.now.n c.args.map.now.shift one.n_at_most other.n_at_most c.requires.within

pub have_images-requires-clause-moments : goal.have_images-requires-clause-moments
have_images-requires-clause-moments c = subst (EntriesAtMost 1) (sym c.moment_matrix-moments.ensures.value) (moment_matrix_small c.kind.result c.args.map.now.w c.args.map.now.sign c.requires.small c.requires.unimodular)

pub returns-then-has_image : goal.returns-then-has_image
returns-then-has_image c =
    let one = c.args.one.now in
    let s = c.args.other.now in
    let m = c.args.map.now in
    let same : c.count.result ≡ c.count-2.result = elim c.if-count.branch [
      | then-count w ↦ w.if-count.true
      | else-count w ↦ eqb-true _ _ (sym w.value-is ∙ c.if-has_image.true)
    ] in
    let equally : length one.atoms ≡ length s.atoms = sym c.count.ensures.value ∙ same ∙ c.count-2.ensures.value ∙ ap (λ (t : Structure). length t.atoms) c.cell-2.ensures in
    let moments = c.moment_matrix-moments.ensures.value ∙ ap (λ (kind : MomentKind). moment_matrix kind m.w (sign_factor m.sign)) c.kind.ensures in
    let images = subst (λ (l : Matrix). IsTrue c.have_images.result ↔ HaveAtomImages one s m.w m.shift l one.atoms) moments c.have_images.ensures in
    onto_exactly one s m.w m.shift m.sign c.count.ensures.form (subst IsCellWithinLimits c.cell.ensures c.invariant.ensures.form) c.requires.unimodular ((λ t. (equally, images.0 t)), (λ k. images.1 k.1))

-- a map onto has equally many atoms, and an image of each, so of this one
pub returns-else-has_image : goal.returns-else-has_image
returns-else-has_image c =
    let one = c.args.one.now in
    let s = c.args.other.now in
    let m = c.args.map.now in
    let a = atom_of c.args.from.now in
    let other = subst IsCellWithinLimits c.cell.ensures c.invariant.ensures.form in
    let moments = c.moment_matrix-moments.ensures.value ∙ ap (λ (kind : MomentKind). moment_matrix kind m.w (sign_factor m.sign)) c.kind.ensures in
    let none : MapsOnto one s m.w m.shift m.sign → ⊥ = elim c.if-count.branch [
      | then-count w ↦ λ k.
          let image = atom_image_member one s m.w m.shift (moment_matrix one.kind m.w (sign_factor m.sign)) one.atoms a (images_of_onto one s m.w m.shift m.sign c.count.ensures.form other c.requires.unimodular k) c.requires.of_cell in
          let e : false ≡ true = sym c.if-has_image.false ∙ w.value-is ∙ w.has_image.ensures.1 (subst (λ (l : Matrix). HasAtomImage one s m.w m.shift l a) (sym moments) image) in
          cc e
      | else-count w ↦ λ k. w.if-count.false (c.count.ensures.value ∙ equally_many one s m.w m.shift m.sign c.count.ensures.form other c.requires.unimodular k ∙ sym (c.count-2.ensures.value ∙ ap (λ (t : Structure). length t.atoms) c.cell-2.ensures))
    ] in
    ((λ t. absurd (cc t)), (λ k. absurd (none k)))
