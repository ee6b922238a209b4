use Rattle.std.proofs.Common.{◌≡◌, ◌<◌, ◌++◌, [], ◌∷◌, List, subst, sym, ap, ◌∙◌, map, length}
use Rattle.std.proofs.lemmas.List.{map-append}
use Rattle.crystal_spec.specs.Crystals.{Atom, Structure}
use Rattle.crystal.specs.declared.limits.TheConstants.{MOST_ATOMS}
use Rattle.crystal.specs.Views.{atom_of}
use Rattle.positions.specs.Positions.{triple_of}
use Rattle.crystal.specs.Occupants.{NoneAt}
use Rattle.crystal.specs.Cells.{IsCellWithinLimits, IsCellAtom}
use Rattle.crystal.specs.CellFields.{structure_of}
use Rattle.crystal.proofs.CellLemmas.{atom_more}
use Rattle.crystal.proofs.cell.Cell.add.Goals as goal

pub invariant_of-self-2 : goal.invariant_of-self-2
invariant_of-self-2 c =
    let s = structure_of c.self.inside in
    let is : map atom_of c.push.new.self.items ≡ s.atoms ++ atom_of c.args.atom ∷ [] =
    ap (map atom_of) c.in_ok-push.ensures.items ∙ map-append atom_of c.self.inside.atoms.items (c.args.atom ∷ []) in
    let back = sym c.self.view_is in
    subst (λ (xs : List Atom). IsCellWithinLimits (record s { atoms = xs })) (sym is)
    (atom_more s (atom_of c.args.atom) c.self.invariant
    (subst (λ (t : Structure). IsCellAtom (length t.names) t.n t.kind (atom_of c.args.atom)) back c.requires.atom)
    (subst (λ (t : Structure). NoneAt (triple_of c.args.atom.place) t.atoms) back c.requires.free)
    (subst (λ (t : Structure). length t.atoms < MOST_ATOMS) back c.requires.fewer))
