use Rattle.std.proofs.Common.{sym, subst, ap}
use Rattle.ring.specs.Size.{AtMost}
use Rattle.matrix3.specs.Matrices.{EachEntry}
use Rattle.matrix3.proofs.FitsBySize.{adjugate_fits, adjugate_size}
use Rattle.crystal_spec.specs.Matrices.{Matrix}
use Rattle.positions.specs.Positions.{triple}
use Rattle.group_match.proofs.column.last_column.Goals as goal

pub adjugate-adjugate-requires-clause-fits : goal.adjugate-adjugate-requires-clause-fits
adjugate-adjugate-requires-clause-fits c = adjugate_fits c.args.p.now c.requires tt

pub returns-clause-value : goal.returns-clause-value
returns-clause-value c = ap (λ (m : Matrix). triple m.a13 m.a23 m.a33) c.adjugate-adjugate.ensures.value

pub returns-clause-size : goal.returns-clause-size
returns-clause-size c =
    let e = subst (EachEntry (AtMost 2)) (sym c.adjugate-adjugate.ensures.value) (adjugate_size c.args.p.now c.requires) in
    record { x = e.a13; y = e.a23; z = e.a33 }
