use Rattle.crystal.proofs.Equality.{equal_matrices}
use Rattle.hall_text.proofs.matrices.is_same_matrix.Goals as goal

pub returns : goal.returns
returns c = equal_matrices c.args.a.now c.args.b.now c.eq.result c.eq.ensures
