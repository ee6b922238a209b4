use Rattle.std.proofs.Common.{ap, subst, sym, ◌∙◌, List, take}
use Rattle.crystal_spec.specs.Crystals.{Atom, Structure}
use Rattle.crystal.specs.Views.{atom_of}
use Rattle.positions.specs.Positions.{triple_of}
use Rattle.moment_space.specs.Replacements.{AreReplaced}
use Rattle.moment_space.proofs.Replacing.{first_replaced, all_replaced}
use Rattle.moment_space.proofs.filled.filled.Goals as goal

pub started-requires-clause-species : goal.started-requires-clause-species
started-requires-clause-species c =
    let r = c.replaced-first.ensures.value in
    r.replaced.same_species ∙ c.invariant.ensures.form.first r.atom r.is_atom

pub add_names_of-requires : goal.add_names_of-requires
add_names_of-requires c = ap (λ (s : Structure). s.names) c.in_ok-made.ensures

pub add_atoms-requires-clause-n : goal.add_atoms-requires-clause-n
add_atoms-requires-clause-n c = ap (λ (s : Structure). s.n) c.in_ok-add_names_of.ensures ∙ ap (λ (s : Structure). s.n) c.in_ok-made.ensures

pub add_atoms-requires-clause-kind : goal.add_atoms-requires-clause-kind
add_atoms-requires-clause-kind c = ap (λ (s : Structure). s.kind) c.in_ok-add_names_of.ensures ∙ ap (λ (s : Structure). s.kind) c.in_ok-made.ensures

pub add_atoms-requires-clause-names : goal.add_atoms-requires-clause-names
add_atoms-requires-clause-names c = ap (λ (s : Structure). s.names) c.in_ok-add_names_of.ensures

pub add_atoms-requires-clause-first : goal.add_atoms-requires-clause-first
add_atoms-requires-clause-first c =
    let s = c.args.cell.now in
    let atoms = ap (λ (t : Structure). t.atoms) c.in_ok-add_names_of.ensures ∙ ap (λ (t : Structure). t.atoms) c.in_ok-made.ensures in
    subst (λ (l : List Atom). AreReplaced s.kind c.args.list.now.n c.args.list.now.operations (triple_of c.args.from) c.args.m.now (take 1 s.atoms) l) (sym atoms)
    (first_replaced s.kind c.args.list.now.n c.args.list.now.operations (triple_of c.args.from) c.args.m.now s.atoms (atom_of c.replaced-first.result) c.replaced-first.ensures.value)

pub returns : goal.returns
returns c =
    all_replaced c.args.cell.now.kind c.args.list.now.n c.args.list.now.operations (triple_of c.args.from) c.args.m.now c.args.cell.now (atom_of c.replaced-first.result) c.in_ok-made.ensures c.in_ok-add_names_of.ensures c.in_ok-add_atoms.ensures
