use Rattle.answers.proofs.found.found_of.Goals as goal

pub returns-clause-found : goal.returns-clause-found
returns-clause-found g c = record { cell = c.in_ok-made.ensures; n = c.in_ok-group.ensures.n; group = c.in_ok-group.ensures.exact }
