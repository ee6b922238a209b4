use Rattle.std.proofs.Common.{sym, ap, ◌∙◌}
use Rattle.report_basis.specs.declared.Kept.TheVariants.{Back}
use Rattle.answers.proofs.IdentifyLemmas.{one_map_a_row, identified}
use Rattle.answers.proofs.identify.answer_of_maps.Goals as goal

-- one map a row
pub match_report-requires : goal.match_report-requires
match_report-requires c = record { rows = one_map_a_row c.args.found.now.group.n c.args.found.now.group.operations c.args.table.now c.args.maps.now c.requires }

-- no row has a map
pub returns-then-not-has_match : goal.returns-then-not-has_match
returns-then-not-has_match c s found =
    identified s c.args.found.now.made c.args.found.now.group c.args.table.now c.args.maps.now _ _ (Back c.back-then-not-has_match.result.now) c.in_ok-text.text found c.requires
    (sym c.has_match.ensures ∙ c.if-not-has_match.true) c.in_ok-text.ensures.value (ap Back c.back-then-not-has_match.ensures) c.back.ensures

-- a row has one
pub returns : goal.returns
returns c s found =
    identified s c.args.found.now.made c.args.found.now.group c.args.table.now c.args.maps.now _ _ c.kept.result c.in_ok-text.text found c.requires
    (sym c.has_match.ensures ∙ c.if-not-has_match.false) c.in_ok-text.ensures.value c.kept.ensures c.back.ensures
