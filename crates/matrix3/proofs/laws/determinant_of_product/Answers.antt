use Rattle.matrix3.proofs.MatrixLaws.{determinant-product_on}
use Rattle.matrix3.proofs.laws.determinant_of_product.Goals as goal

pub returns : goal.returns
returns g c = λ m. determinant-product_on (g.T.Exact.ring m) (g.T.Exact.IsProper m) (g.met.T.Exact.laws m)
