use Rattle.std.proofs.Common.{rules, ◌≡◌, ◌++◌}
use Rattle.exact_num.specs.Meanings.{fraction_of}
use Rattle.operation_text.specs.OperationText.{terms_text}
use Rattle.compare_text.specs.ComparisonText.{shift_text}
use Rattle.compare_text.proofs.Lines.{two_pieces}
use Rattle.compare_text.proofs.comparison.push_coordinate.Goals as goal

pub returns : goal.returns
returns c =
    let terms : c.push_terms.new.out ≡ c.args.out.now ++ terms_text c.args.x c.args.y c.args.z = search rules in
    two_pieces c.args.out.now _ _ (terms_text c.args.x c.args.y c.args.z) (shift_text (fraction_of c.args.shift)) terms c.in_ok-push_shift.ensures
