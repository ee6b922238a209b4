use Rattle.std.proofs.Common.{◌≡◌, ◌<◌, ◌≤◌, List, [], ◌∷◌, ◌++◌, length, map, subst, sym, ap, ◌∙◌, arith}
use Rattle.std.specs.Prelude.{slice_get, Some}
use Rattle.std.proofs.lemmas.List.{length-map, take_all}
use Rattle.lists.proofs.Members.{member_at}
use Rattle.lists.proofs.Walks.{take_at}
use Rattle.crystal_spec.specs.Crystals.{Atom, Structure}
use Rattle.crystal.specs.declared.limits.TheConstants.{MOST_ATOMS}
use Rattle.crystal.specs.Views.{atom_of}
use Rattle.crystal.specs.Cells.{IsCellAtom}
use Rattle.crystal.specs.Occupants.{NoneAt}
use Rattle.crystal.proofs.Positions.{slice_get-map}
use Rattle.crystal.proofs.CellLemmas.{atom_member}
use Rattle.standard_cell.proofs.MadeLemmas.{apart_before, fewer_before}
use Rattle.standard_cell.proofs.made.add_atoms.Goals as goal

pub add-requires-clause-atom : goal.add-requires-clause-atom
add-requires-clause-atom c =
    let m = c.args.made.now in
    let xs = map atom_of c.args.atoms.now in
    let x = c.index-atoms-i.result in
    let at : slice_get xs c.loop-i.i ≡ Some (atom_of x) = slice_get-map atom_of c.args.atoms.now c.loop-i.i x (omega arith) (sym c.index-atoms-i.is) in
    subst (λ (t : Structure). IsCellAtom (length t.names) t.n t.kind (atom_of x)) (sym c.loop-i.invariant) (atom_member (length m.names) m.n m.kind xs (atom_of x) c.requires.atoms (member_at xs c.loop-i.i (atom_of x) at))

pub add-requires-clause-free : goal.add-requires-clause-free
add-requires-clause-free c =
    let xs = map atom_of c.args.atoms.now in
    let x = c.index-atoms-i.result in
    let at : slice_get xs c.loop-i.i ≡ Some (atom_of x) = slice_get-map atom_of c.args.atoms.now c.loop-i.i x (omega arith) (sym c.index-atoms-i.is) in
    subst (λ (t : Structure). NoneAt (atom_of x).position t.atoms) (sym c.loop-i.invariant) (apart_before xs c.loop-i.i (atom_of x) c.requires.apart at)

pub add-requires-clause-fewer : goal.add-requires-clause-fewer
add-requires-clause-fewer c =
    let xs = map atom_of c.args.atoms.now in
    let l = length-map c.args.atoms.now atom_of in
    subst (λ (t : Structure). length t.atoms < MOST_ATOMS) (sym c.loop-i.invariant) (fewer_before xs c.loop-i.i (omega (arith, l)) c.requires.few)

pub loop-i-preserved : goal.loop-i-preserved
loop-i-preserved c =
    let xs = map atom_of c.args.atoms.now in
    let x = c.index-atoms-i.result in
    let at : slice_get xs c.loop-i.i ≡ Some (atom_of x) = slice_get-map atom_of c.args.atoms.now c.loop-i.i x (omega arith) (sym c.index-atoms-i.is) in
    c.in_ok-add.ensures.value ∙ ap (λ (s : Structure). record s { atoms = s.atoms ++ atom_of x ∷ [] }) c.loop-i.invariant
    ∙ ap (λ (l : List Atom). record c.args.made.now { atoms = l }) (take_at xs c.loop-i.i (atom_of x) at)

pub returns : goal.returns
returns c =
    let xs = map atom_of c.args.atoms.now in
    let l = length-map c.args.atoms.now atom_of in
    let ended : length xs ≤ c.loop-i.i = omega (arith, l) in
    c.loop-i.invariant ∙ ap (λ (ys : List Atom). record c.args.made.now { atoms = ys }) (take_all c.loop-i.i xs ended)
