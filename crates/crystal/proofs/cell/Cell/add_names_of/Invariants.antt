use Rattle.std.proofs.Common.{◌≡◌, take}
use Rattle.crystal.proofs.cell.Cell.add_names_of.Given as goal

-- the names so far are there
abbrev pub invariant-loop-species : goal.invariant-loop-species
invariant-loop-species l = l.self ≡ record l.initial.self { names = take l.species l.cell.names }
