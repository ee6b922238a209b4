use Rattle.std.proofs.Common.{take, map}
use Rattle.std.specs.Prelude.{unsigned_abs}
use Rattle.crystal.specs.Views.{atom_of}
use Rattle.standard_cell.specs.StandardCells.{AreBlocks}
use Rattle.standard_cell.specs.Frames.{origin_of}
use Rattle.standard_cell.proofs.atoms.standard_atoms.Given as goal

-- the blocks of the atoms so far
abbrev pub invariant-loop-i : goal.invariant-loop-i
invariant-loop-i l = AreBlocks l.cell l.frame.turn (origin_of l.frame) (unsigned_abs l.units.n) (take l.i l.cell.atoms) (map atom_of l.made.items)
