use Rattle.std.proofs.Common.{◌≡◌, ℕ, List, [], ◌∷◌, subst, sym, ap, ◌∙◌}
use Rattle.std.specs.Prelude.{ℤ, pos, ◌*ℤ◌, ◌≤ℤ◌, ◌^◌, Some}
use Rattle.lists.proofs.Members.{member_at}
use Rattle.crystal_spec.specs.Matrices.{image}
use Rattle.crystal_spec.specs.declared.MomentKind.{MomentKind}
use Rattle.crystal_spec.specs.Moments.{IsOfKind}
use Rattle.crystal_spec.specs.Crystals.{Atom, Structure}
use Rattle.crystal_spec.specs.Operations.{IsWithinCell}
use Rattle.crystal_spec.proofs.Moments.{turn-of_kind}
use Rattle.crystal.specs.Views.{atom_of, metric_of}
use Rattle.basis_spec.specs.Bases.{in_basis}
use Rattle.positions.proofs.Residues.{modulo_within}
use Rattle.prim_cell.proofs.Ranges.{scale_within}
use Rattle.prim_cell.proofs.Making.{started_is}
use Rattle.prim_cell.proofs.rebased.first_in_basis.Goals as goal

pub atom_in_basis-first-requires-clause-moment : goal.atom_in_basis-first-requires-clause-moment
atom_in_basis-first-requires-clause-moment c = c.requires.moments (atom_of c.atom.result.now) (member_at c.args.cell.now.atoms 0 (atom_of c.atom.result.now) c.atom.ensures.value)

pub build-requires-clause-scale_at_least : goal.build-requires-clause-scale_at_least
build-requires-clause-scale_at_least c =
    let s = c.args.cell.now in
    let scale = c.mul-scale.ensures ∙ (λ i. c.mul.ensures i *ℤ c.scale.ensures i) ∙ (λ i. (c.from.ensures i *ℤ c.from-2.ensures i) *ℤ s.scale) in
    subst (λ (z : ℤ). pos 1 ≤ℤ z) (sym scale) (scale_within c.args.index s.scale c.requires.at_least c.requires.at_most c.invariant.ensures.form.scale_at_least c.requires.scale).0

pub build-requires-clause-scale_at_most : goal.build-requires-clause-scale_at_most
build-requires-clause-scale_at_most c =
    let s = c.args.cell.now in
    let scale = c.mul-scale.ensures ∙ (λ i. c.mul.ensures i *ℤ c.scale.ensures i) ∙ (λ i. (c.from.ensures i *ℤ c.from-2.ensures i) *ℤ s.scale) in
    subst (λ (z : ℤ). z ≤ℤ pos (10 ^ 16)) (sym scale) (scale_within c.args.index s.scale c.requires.at_least c.requires.at_most c.invariant.ensures.form.scale_at_least c.requires.scale).1

pub build-requires-clause-place : goal.build-requires-clause-place
build-requires-clause-place c =
    let s = c.args.cell.now in
    let a = atom_of c.atom.result.now in
    subst (λ (m : ℕ). IsWithinCell m (atom_of c.atom_in_basis-first.result).position) (sym c.n-2.ensures)
    (subst (λ (x : Atom). IsWithinCell s.n x.position) (sym (c.atom_in_basis-first.ensures.value ∙ (λ i. in_basis ((c.new-basis.ensures.modulus ∙ c.n.ensures) i) (c.kind-kind.ensures i) (c.new-basis.ensures.matrix i) a))) (modulo_within s.n (image c.args.r.now a.position) c.invariant.ensures.cell.some_cells))

pub build-requires-clause-of_kind : goal.build-requires-clause-of_kind
build-requires-clause-of_kind c =
    let k = c.kind-kind.result in
    let a = atom_of c.atom.result.now in
    let of_kind = subst (λ (kind : MomentKind). IsOfKind kind a.moment) (sym c.kind-kind.ensures) c.atom.ensures.form.of_kind in
    subst (λ (x : Atom). IsOfKind k x.moment) (sym c.atom_in_basis-first.ensures.value) (turn-of_kind k c.new-basis.result.matrix a.moment of_kind)

pub returns : goal.returns
returns c =
    let s = c.args.cell.now in
    let a = atom_of c.atom.result.now in
    let value = c.atom_in_basis-first.ensures.value ∙ (λ i. in_basis ((c.new-basis.ensures.modulus ∙ c.n.ensures) i) (c.kind-kind.ensures i) (c.new-basis.ensures.matrix i) a) in
    let scale = c.mul-scale.ensures ∙ (λ i. c.mul.ensures i *ℤ c.scale.ensures i) ∙ (λ i. (c.from.ensures i *ℤ c.from-2.ensures i) *ℤ s.scale) ∙ (λ i. (c.requires.index i *ℤ c.requires.index i) *ℤ s.scale) in
    let name = c.name.ensures ∙ ap (λ (n : List ℕ). Some n) (sym c.copied-name.ensures) in
    let built : ◌≡◌ {A = Structure} c.in_ok-made.made (record { names = c.copied-name.result ∷ []; scale = c.mul-scale.result; metric = metric_of c.args.metric; n = c.n-2.result; k = c.k.result; kind = c.kind-kind.result; atoms = atom_of c.atom_in_basis-first.result ∷ [] }) = c.in_ok-made.ensures in
    built
    ∙ started_is s c.args.r.now c.copied-name.result a (atom_of c.atom_in_basis-first.result) c.mul-scale.result (metric_of c.args.metric) c.n-2.result c.k.result c.kind-kind.result name c.atom.ensures.value scale c.requires.metric c.n-2.ensures c.k.ensures c.kind-kind.ensures value
