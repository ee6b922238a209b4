use Rattle.std.proofs.Common.{sym, ◌∙◌}
use Rattle.match_text.proofs.RowLemmas.{has_match-here, has_match-drop}
use Rattle.match_text.proofs.matches.has_match.Goals as goal

pub returns-then-is_some : goal.returns-then-is_some
returns-then-is_some c = sym (has_match-here c.args.maps.now c.loop-i.i c.at.result c.at.ensures (sym c.is_some.ensures ∙ c.if-is_some.true)) ∙ c.loop-i.invariant

pub loop-i-preserved : goal.loop-i-preserved
loop-i-preserved c = has_match-drop c.args.maps.now c.loop-i.i c.at.result c.at.ensures (sym c.is_some.ensures ∙ c.if-is_some.false) ∙ c.loop-i.invariant
