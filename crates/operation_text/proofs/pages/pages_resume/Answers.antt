use Rattle.operation_text.proofs.PageLemmas.{pages_resume_law}
use Rattle.operation_text.proofs.pages.pages_resume.Goals as goal

pub returns-clause-resume : goal.returns-clause-resume
returns-clause-resume c = pages_resume_law
