use Rattle.std.proofs.Common.{◌≡◌, rules}
use Rattle.std.proofs.lemmas.Int.{quot-rem}
use Rattle.std.specs.Prelude.{int_div, int_rem}
use Rattle.lattice_reduce.proofs.number.divide.Goals as goal

pub returns-clause-whole : goal.returns-clause-whole
returns-clause-whole c =
    let q : c.unwrap.result ≡ int_div c.args.x c.args.a = search rules in
    let r : c.unwrap-2.result ≡ int_rem c.args.x c.args.a = search rules in
    rw (q, r) (quot-rem c.args.x c.args.a)
