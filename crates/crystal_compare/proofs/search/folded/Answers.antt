use Rattle.std.proofs.Common.{◌≡◌, rules}
use Rattle.std.specs.Int.{int_rem_euclid}
use Rattle.crystal_compare.proofs.Folded.{is_folded}
use Rattle.crystal_compare.proofs.search.folded.Goals as goal

pub returns : goal.returns
returns c =
    let is : c.unwrap.result ≡ int_rem_euclid c.args.z c.args.n = search rules in
    is_folded c.args.z c.args.n c.unwrap.result c.requires is
