use Rattle.std.proofs.Common.{sym, ◌∙◌}
use Rattle.group_match.proofs.Same.{entries_same, same_entries_of}
use Rattle.group_match.proofs.member.is_same.Goals as goal

pub returns : goal.returns
returns c = ((λ t. entries_same c.args.a.now c.args.b.now (sym c.eq.ensures ∙ t)), (λ e. c.eq.ensures ∙ same_entries_of c.args.a.now c.args.b.now e))
