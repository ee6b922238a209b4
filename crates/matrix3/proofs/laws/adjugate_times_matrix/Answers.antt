use Rattle.matrix3.proofs.MatrixLaws.{product-adjugate_on, product-adjugate_right_on}
use Rattle.matrix3.proofs.laws.adjugate_times_matrix.Goals as goal

pub returns : goal.returns
returns g c = λ m. λ a p. (product-adjugate_on (g.T.Exact.ring m) (g.T.Exact.IsProper m) (g.met.T.Exact.laws m) a p, product-adjugate_right_on (g.T.Exact.ring m) (g.T.Exact.IsProper m) (g.met.T.Exact.laws m) a p)
