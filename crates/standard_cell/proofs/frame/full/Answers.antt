use Rattle.std.proofs.Common.{◌≡◌, ◌^◌, ◌*◌, ℤ, pos, ◌*ℤ◌, ◌<ℤ◌, subst, sym, ap₂, ◌∙◌, lit≤}
use Rattle.ring.specs.Size.{AtMost}
use Rattle.matrix3.proofs.FitsBySize.{grown}
use Rattle.standard_cell.specs.Frames.{full_of}
use Rattle.standard_cell.proofs.FrameSizes.{full_small}
use Rattle.standard_cell.proofs.CopyLemmas.{full_above}
use Rattle.standard_cell.proofs.frame.full.Goals as goal

pub mul-requires : goal.mul-requires
mul-requires c =
    subst (AtMost (10 ^ 36)) (sym (ap₂ (λ (a b : ℤ). a *ℤ b) c.from.ensures c.step.ensures.value)) (grown (lit≤ tt) (full_small c.args.frame.now c.requires))

pub returns : goal.returns
returns c =
    let f = c.args.frame.now in
    let is : c.mul.result ≡ full_of f = c.mul.ensures ∙ ap₂ (λ (a b : ℤ). a *ℤ b) c.from.ensures c.step.ensures.value in
    record {
      value = is;
      positive = subst (λ (z : ℤ). pos 0 <ℤ z) (sym is) (full_above f c.requires);
      size = subst (AtMost (2 * 10 ^ 21)) (sym is) (full_small f c.requires);
    }
