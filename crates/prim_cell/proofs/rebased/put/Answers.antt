use Rattle.std.proofs.Common.{◌≡◌, [], ◌∷◌, ◌++◌, List, true, subst, sym, ap, ◌∙◌}
use Rattle.crystal_spec.specs.Crystals.{Atom}
use Rattle.crystal.specs.Views.{atom_of}
use Rattle.positions.specs.Positions.{triple_of}
use Rattle.crystal.specs.Occupants.{NoneAt}
use Rattle.prim_cell.proofs.Folding.{put_new, put_seen}
use Rattle.prim_cell.proofs.rebased.put.Goals as goal

pub returns-in_ok-add : goal.returns-in_ok-add
returns-in_ok-add c atoms e =
    let x = atom_of c.args.atom in
    c.in_ok-add.ensures.value ∙ ap (λ (l : List Atom). record c.args.made.now { atoms = l }) (ap (λ (l : List Atom). l ++ x ∷ []) e ∙ put_new atoms x (subst (NoneAt (triple_of c.args.atom.place)) e (c.is_free.ensures.0 c.if-is_free.true)))

pub returns-else-is_free : goal.returns-else-is_free
returns-else-is_free c atoms e =
    ap (λ (l : List Atom). record c.args.made.now { atoms = l }) (e ∙ put_seen atoms (atom_of c.args.atom) (λ none. let yes : c.is_free.result ≡ true = c.is_free.ensures.1 (subst (NoneAt (triple_of c.args.atom.place)) (sym e) none) in cc (sym c.if-is_free.false ∙ yes)))
