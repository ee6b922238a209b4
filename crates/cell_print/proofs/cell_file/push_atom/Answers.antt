use Rattle.crystal.specs.Views.{atom_of}
use Rattle.cell_print.proofs.TextLemmas.{atom_from_pieces}
use Rattle.cell_print.proofs.cell_file.push_atom.Goals as goal

pub returns : goal.returns
returns c =
    atom_from_pieces c.args.cell.now (atom_of c.args.atom.now) c.n.result c.k.result c.kind.result c.args.out.now _ _ _ _ _ c.name.result.now c.name.ensures c.n.ensures c.k.ensures c.kind.ensures c.in_ok-append.ensures.value c.in_ok-push_name.ensures c.in_ok-push_position.ensures c.in_ok-push_moment.ensures c.in_ok-push.ensures.value
