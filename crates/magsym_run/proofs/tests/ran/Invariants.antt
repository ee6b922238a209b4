use Rattle.magsym_run.proofs.tests.ran.Given as goal

-- the counter is that of the blank which is passed
abbrev pub ghosts-run_counted : goal.ghosts-run_counted
ghosts-run_counted a = record { name = a.blank.name; parts = a.blank.parts }
