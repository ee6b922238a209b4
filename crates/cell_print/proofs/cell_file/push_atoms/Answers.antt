use Rattle.crystal.specs.Views.{atom_of}
use Rattle.cell_print.proofs.TextLemmas.{atoms_more}
use Rattle.cell_print.proofs.cell_file.push_atoms.Goals as goal

pub loop-i-preserved : goal.loop-i-preserved
loop-i-preserved c =
    atoms_more c.args.cell.now (atom_of c.atom.result.now) c.loop-i.i c.loop-i.out _ _ c.atom.ensures.value c.loop-i.invariant c.in_ok-push_atom.ensures
