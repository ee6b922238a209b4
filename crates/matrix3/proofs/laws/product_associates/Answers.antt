use Rattle.matrix3.proofs.MatrixLaws.{product_assoc_on}
use Rattle.matrix3.proofs.laws.product_associates.Goals as goal

pub returns : goal.returns
returns g c = λ m. product_assoc_on (g.T.Exact.ring m) (g.T.Exact.IsProper m) (g.met.T.Exact.laws m)
