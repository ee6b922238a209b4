use Rattle.report_text.proofs.OrbitLemmas.{atom_from_pieces}
use Rattle.report_text.proofs.orbit_lines.push_atom.Goals as goal

pub returns : goal.returns
returns c =
    atom_from_pieces c.args.out.now _ _ _ _ _ _ _ _ _ _ c.in_ok-push_counted.ensures c.in_ok-push.ensures.value c.in_ok-push_name.ensures c.in_ok-push_counted-2.ensures c.in_ok-push_counted-3.ensures c.in_ok-push-2.ensures.value
