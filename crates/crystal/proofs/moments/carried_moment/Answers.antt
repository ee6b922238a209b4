use Rattle.std.proofs.Common.{sym, ap, ◌∙◌}
use Rattle.crystal_spec.specs.Matrices.{image}
use Rattle.crystal.proofs.Ranges.{image-zero}
use Rattle.matrix3.proofs.FitsBySize.{image_fits}
use Rattle.crystal.proofs.moments.carried_moment.Goals as goal

pub apply-requires-clause-fits : goal.apply-requires-clause-fits
apply-requires-clause-fits c = image_fits _ _ c.requires.map c.requires.moment tt

-- a moment that is zero stays so
pub returns-then-is_zero : goal.returns-then-is_zero
returns-then-is_zero c = c.is_zero.ensures c.if-is_zero.true ∙ sym (image-zero c.args.moments.now) ∙ ap (image c.args.moments.now) (sym (c.is_zero.ensures c.if-is_zero.true))
