use Rattle.compare_text.specs.ComparisonText.{map_text}
use Rattle.compare_text.proofs.Lines.{line_from_pieces}
use Rattle.compare_text.proofs.comparison.push_map.Goals as goal

pub returns : goal.returns
unfolding map_text
returns c =
    line_from_pieces c.args.out.now _ _ _ _ _ _ _ _ _ _ _ _ c.in_ok-push_coordinate.ensures c.in_ok-push.ensures.value c.in_ok-push_coordinate-2.ensures c.in_ok-push-2.ensures.value c.in_ok-push_coordinate-3.ensures c.in_ok-push-3.ensures.value c.in_ok-push_sign.ensures c.in_ok-push-4.ensures.value
