use Rattle.std.proofs.Common.{◌^◌, ℤ, pos, ◌*ℤ◌, ◌<ℤ◌, subst, sym, ap, ◌∙◌, lit≤}
use Rattle.ring.specs.Size.{AtMost}
use Rattle.matrix3.proofs.FitsBySize.{grown}
use Rattle.standard_cell.proofs.FrameSizes.{step_small}
use Rattle.standard_cell.proofs.CopyLemmas.{step_above}
use Rattle.standard_cell.proofs.frame.step.Goals as goal

pub mul-requires : goal.mul-requires
mul-requires c =
    subst (λ (z : ℤ). AtMost (10 ^ 36) (z *ℤ c.args.frame.now.parts)) (sym c.from.ensures) (grown (lit≤ tt) (step_small c.args.frame.now c.requires))

pub returns : goal.returns
returns c =
    let f = c.args.frame.now in
    let is = c.mul.ensures ∙ ap (λ (z : ℤ). z *ℤ f.parts) c.from.ensures in
    record {
      value = is;
      positive = subst (λ (z : ℤ). pos 0 <ℤ z) (sym is) (step_above f c.requires);
      size = subst (AtMost (10 ^ 18)) (sym is) (step_small f c.requires);
    }
