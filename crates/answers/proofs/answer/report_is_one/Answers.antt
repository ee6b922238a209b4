use Rattle.answers.proofs.OneReport.{one_report}
use Rattle.answers.proofs.answer.report_is_one.Goals as goal

pub returns : goal.returns
returns c = one_report
