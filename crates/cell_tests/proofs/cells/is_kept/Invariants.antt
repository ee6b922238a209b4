use Rattle.cell_tests.proofs.cells.is_kept.Given as goal

-- the counter is that of the blank which is passed
abbrev pub ghosts-keeps : goal.ghosts-keeps
ghosts-keeps a = record { name = a.blank.name; parts = a.blank.parts }
