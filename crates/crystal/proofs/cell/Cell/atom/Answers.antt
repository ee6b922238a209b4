use Rattle.std.proofs.Common.{◌<◌, subst, sym, length}
use Rattle.std.proofs.lemmas.List.{length-map}
use Rattle.lists.proofs.Members.{member_at}
use Rattle.crystal_spec.specs.Crystals.{Structure}
use Rattle.crystal.specs.Views.{atom_of}
use Rattle.crystal.specs.Cells.{IsCellAtom}
use Rattle.crystal.specs.CellFields.{structure_of}
use Rattle.crystal.proofs.Positions.{slice_get-map}
use Rattle.crystal.proofs.CellLemmas.{atom_member}
use Rattle.crystal.proofs.cell.Cell.atom.Goals as goal

pub returns-clause-form : goal.returns-clause-form
returns-clause-form c =
    let s = structure_of c.self.inside in
    let a = c.index.result.now in
    let below : c.args.i < length c.self.inside.atoms.items = subst (λ k. c.args.i < k) (length-map c.self.inside.atoms.items atom_of) (subst (λ (t : Structure). c.args.i < length t.atoms) (sym c.self.view_is) c.requires) in
    let at = slice_get-map atom_of c.self.inside.atoms.items c.args.i a below (sym c.index.ensures) in
    subst (λ (t : Structure). IsCellAtom (length t.names) t.n t.kind (atom_of a)) c.self.view_is
    (atom_member (length s.names) s.n s.kind s.atoms (atom_of a) c.self.invariant.atoms (member_at s.atoms c.args.i (atom_of a) at))
