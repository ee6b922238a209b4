use Rattle.std.proofs.Common.{◌≡◌, [], ◌∷◌, ℕ, List, ap, sym, subst, ◌∙◌}
use Rattle.std.specs.Prelude.{◌^◌, Some}
use Rattle.crystal_spec.specs.declared.MomentKind.{MomentKind}
use Rattle.crystal_spec.specs.Matrices.{Matrix}
use Rattle.crystal_spec.specs.Moments.{IsOfKind}
use Rattle.crystal_spec.specs.Crystals.{Structure, IsPositive}
use Rattle.crystal_spec.specs.Operations.{IsWithinCell}
use Rattle.matrix3.specs.Bounds.{EntriesAtMost}
use Rattle.crystal.specs.Views.{atom_of, metric_of}
use Rattle.positions.specs.Positions.{triple_of}
use Rattle.moment_space.proofs.Replacing.{started_is}
use Rattle.moment_space.proofs.filled.started.Goals as goal

pub build-requires-clause-positive : goal.build-requires-clause-positive
build-requires-clause-positive c = subst (λ (g : Matrix). IsPositive g) (sym c.metric.ensures) c.invariant.ensures.form.positive

pub build-requires-clause-entries : goal.build-requires-clause-entries
build-requires-clause-entries c = subst (λ (g : Matrix). EntriesAtMost (10 ^ 16) g) (sym c.metric.ensures) c.invariant.ensures.form.entries

pub build-requires-clause-place : goal.build-requires-clause-place
build-requires-clause-place c = subst (λ (n : ℕ). IsWithinCell n (triple_of c.args.first.place)) (sym c.n.ensures) c.requires.atom.within

pub build-requires-clause-of_kind : goal.build-requires-clause-of_kind
build-requires-clause-of_kind c = subst (λ (k : MomentKind). IsOfKind k c.args.first.moment) (sym c.kind.ensures) c.requires.atom.of_kind

pub returns : goal.returns
returns c =
    let name = c.name.ensures ∙ ap (λ (n : List ℕ). Some n) (sym c.copied-name.ensures) in
    let built : ◌≡◌ {A = Structure} c.in_ok-made.made (record { names = c.copied-name.result ∷ []; scale = c.scale.result; metric = metric_of c.metric.result.now; n = c.n.result; k = c.k.result; kind = c.kind.result; atoms = atom_of c.args.first ∷ [] }) = c.in_ok-made.ensures in
    built ∙ started_is c.args.cell.now c.copied-name.result (atom_of c.args.first) c.scale.result (metric_of c.metric.result.now) c.n.result c.k.result c.kind.result name c.scale.ensures c.metric.ensures c.n.ensures c.k.ensures c.kind.ensures
