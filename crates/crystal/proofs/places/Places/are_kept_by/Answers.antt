use Rattle.std.proofs.Common.{◌≡◌, ap, subst, ◌∙◌, sym}
use Rattle.std.specs.Prelude.{IsTrue, ◌↔◌}
use Rattle.crystal_spec.specs.declared.MomentKind.{MomentKind}
use Rattle.crystal_spec.specs.Matrices.{Matrix}
use Rattle.crystal_spec.specs.Moments.{moment_matrix}
use Rattle.crystal_spec.specs.Crystals.{Structure, Keeps, KeepsMetric}
use Rattle.crystal_spec.specs.Operations.{sign_factor}
use Rattle.crystal_spec.proofs.Isometries.{sign_squared}
use Rattle.positions.specs.Positions.{triple_of}
use Rattle.crystal.specs.Images.{HaveImages}
use Rattle.crystal.proofs.ImageLemmas.{keeps_exactly}
use Rattle.crystal.proofs.places.Places.are_kept_by.Goals as goal

pub returns : goal.returns
returns c =
    let cell = c.self.inside.cell in
    let w = c.args.action.now.matrix in
    let t = triple_of c.args.shift in
    let sign = sign_factor c.args.sign in
    let kept = subst (λ (s : Structure). KeepsMetric s.metric w) (sym c.self.view_is) c.requires.isometry in
    let kind = c.requires.kind ∙ ap (λ (s : Structure). s.kind) (sym c.self.view_is) in
    let moments : c.moments.result.now ≡ moment_matrix cell.kind w sign = c.moments.ensures.value ∙ ap (λ (k : MomentKind). moment_matrix k w sign) kind in
    let images = subst (λ (l : Matrix). IsTrue c.have_images.result ↔ HaveImages cell w t l cell.atoms) moments c.have_images.ensures in
    record {
      exact = subst (λ (s : Structure). IsTrue c.have_images.result ↔ Keeps s w t sign) c.self.view_is (keeps_exactly cell w t sign c.invariant.ensures.form (sign_squared c.args.sign) kept images);
    }
