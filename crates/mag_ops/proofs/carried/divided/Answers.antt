use Rattle.std.proofs.Common.{◌≡◌, pos, ap}
use Rattle.crystal_spec.specs.Matrices.{Triple, multiple}
use Rattle.mag_ops.proofs.CarriedBack.{none_of, quotient_is, not_zero}
use Rattle.mag_ops.proofs.carried.divided.Goals as goal

pub returns-in_err-div_exact-clause-absent : goal.returns-in_err-div_exact-clause-absent
returns-in_err-div_exact-clause-absent c =
    let index = c.from-index.ensures in
    none_of {P = (v : Triple) → ¬ (c.args.column.now ≡ multiple (pos c.args.index) v)} _ (λ v e. absurd (cc (c.in_err-div_exact.ensures.exact.1 (not_zero _ c.args.index index c.requires, (v.x, quotient_is _ v.x _ c.args.index index (ap (λ (t : Triple). t.x) e))))))

pub returns-in_err-div_exact-2-clause-absent : goal.returns-in_err-div_exact-2-clause-absent
returns-in_err-div_exact-2-clause-absent c =
    let index = c.from-index.ensures in
    none_of {P = (v : Triple) → ¬ (c.args.column.now ≡ multiple (pos c.args.index) v)} _ (λ v e. absurd (cc (c.in_err-div_exact-2.ensures.exact.1 (not_zero _ c.args.index index c.requires, (v.y, quotient_is _ v.y _ c.args.index index (ap (λ (t : Triple). t.y) e))))))

pub returns-in_err-div_exact-3-clause-absent : goal.returns-in_err-div_exact-3-clause-absent
returns-in_err-div_exact-3-clause-absent c =
    let index = c.from-index.ensures in
    none_of {P = (v : Triple) → ¬ (c.args.column.now ≡ multiple (pos c.args.index) v)} _ (λ v e. absurd (cc (c.in_err-div_exact-3.ensures.exact.1 (not_zero _ c.args.index index c.requires, (v.z, quotient_is _ v.z _ c.args.index index (ap (λ (t : Triple). t.z) e))))))
