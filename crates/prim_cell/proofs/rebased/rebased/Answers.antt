use Rattle.std.proofs.Common.{ap, ◌∙◌}
use Rattle.crystal_spec.specs.Crystals.{Structure}
use Rattle.prim_cell.proofs.Making.{has_started, all_made}
use Rattle.prim_cell.proofs.rebased.rebased.Goals as goal

pub add_names_of-requires : goal.add_names_of-requires
add_names_of-requires c = (has_started c.args.cell.now c.in_ok-made.made c.args.r.now c.in_ok-made.ensures).names

pub add_atoms-requires-clause-n : goal.add_atoms-requires-clause-n
add_atoms-requires-clause-n c = ap (λ (s : Structure). s.n) c.in_ok-add_names_of.ensures ∙ (has_started c.args.cell.now c.in_ok-made.made c.args.r.now c.in_ok-made.ensures).n

pub add_atoms-requires-clause-kind : goal.add_atoms-requires-clause-kind
add_atoms-requires-clause-kind c = ap (λ (s : Structure). s.kind) c.in_ok-add_names_of.ensures ∙ (has_started c.args.cell.now c.in_ok-made.made c.args.r.now c.in_ok-made.ensures).kind

pub add_atoms-requires-clause-names : goal.add_atoms-requires-clause-names
add_atoms-requires-clause-names c = ap (λ (s : Structure). s.names) c.in_ok-add_names_of.ensures

pub add_atoms-requires-clause-first : goal.add_atoms-requires-clause-first
add_atoms-requires-clause-first c = ap (λ (s : Structure). s.atoms) c.in_ok-add_names_of.ensures ∙ (has_started c.args.cell.now c.in_ok-made.made c.args.r.now c.in_ok-made.ensures).atoms

pub returns : goal.returns
returns c = all_made c.args.cell.now c.in_ok-made.made c.add_names_of.new.self c.add_atoms.new.made c.args.r.now c.in_ok-made.ensures c.in_ok-add_names_of.ensures c.in_ok-add_atoms.ensures
