use Rattle.std.proofs.Common.{ℕ, subst}
use Rattle.op_group.specs.Groups.{IsGroupModulo}
use Rattle.match_spec.proofs.KnownOrigins.{origins_suffice, origins_known}
use Rattle.group_match.proofs.search.match_row.Goals as goal

pub returns-clause-origins : goal.returns-clause-origins
returns-clause-origins c =
    let h = c.args.symbol.now.operations in
    origins_suffice h c.args.found.now.n c.args.found.now.operations (subst (λ (k : ℕ). IsGroupModulo k h) c.requires.twelfths c.requires.symbol_group) c.requires.found_group c.requires.primitive

pub returns-clause-places : goal.returns-clause-places
returns-clause-places c = origins_known c.args.symbol.now.operations c.args.found.now.n c.args.found.now.operations c.requires.found_group
