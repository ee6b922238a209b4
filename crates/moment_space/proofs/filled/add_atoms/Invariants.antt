use Rattle.std.proofs.Common.{take}
use Rattle.positions.specs.Positions.{triple_of}
use Rattle.moment_space.specs.Replacements.{HasReplaced}
use Rattle.moment_space.proofs.filled.add_atoms.Given as goal

-- the atoms so far are there
abbrev pub invariant-loop-i : goal.invariant-loop-i
invariant-loop-i l = HasReplaced l.cell.kind l.list.n l.list.operations (triple_of l.from) l.m (take l.i l.cell.atoms) l.initial.made l.made
