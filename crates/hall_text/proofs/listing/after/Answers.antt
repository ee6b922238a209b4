use Rattle.std.proofs.Common.{refl, ap}
use Rattle.crystal_spec.specs.Operations.{Operation}
use Rattle.hall_text.proofs.Splitting.{operation_same}
use Rattle.hall_text.proofs.listing.after.Goals as goal

pub returns : goal.returns
returns c = operation_same refl (ap (λ (o : Operation). o.translation) c.sum-whole.ensures) (ap (λ (o : Operation). o.sign) c.sum-whole.ensures)
