use Rattle.std.proofs.Common.{◌≡◌, ℕ, subst, ap, sym, ◌∙◌, rules}
use Rattle.std.specs.Prelude.{slice_get, Some, pos}
use Rattle.crystal_spec.specs.declared.Sign.TheVariants.{Same}
use Rattle.crystal_spec.specs.Matrices.{Matrix, difference}
use Rattle.crystal_spec.specs.Crystals.{Structure, Keeps}
use Rattle.crystal_spec.specs.Operations.{IsWithinCell}
use Rattle.crystal.specs.Views.{atom_of}
use Rattle.crystal.specs.Cells.{IsCellWithinLimits}
use Rattle.op_group.specs.Views.{operation_of}
use Rattle.positions.specs.Positions.{modulo, triple_of}
use Rattle.positions.proofs.Residues.{modulo_within}
use Rattle.prim_cell.proofs.Moving.{some_cells}
use Rattle.prim_cell.proofs.FoundTranslations.{onto_kept}
use Rattle.prim_cell.proofs.translation.add_onto.Goals as goal

pub insert-requires : goal.insert-requires
insert-requires c =
    let s = c.args.places.now in
    let p = difference (triple_of c.atom-atom.result.now.place) (triple_of c.atom-first.result.now.place) in
    let same_n = c.n.ensures ∙ ap (λ (t : Structure). t.n) c.cell-cell.ensures in
    record { below_n = subst (λ (n : ℕ). IsWithinCell n (triple_of c.between-shift.result)) (sym c.requires.n) (subst (IsWithinCell s.n) (sym (c.between-shift.ensures ∙ ap (λ (n : ℕ). modulo n p) same_n)) (modulo_within s.n p (some_cells s (subst IsCellWithinLimits c.cell-cell.ensures c.invariant.ensures.form)))) }

pub returns-in_ok-insert-clause-members : goal.returns-in_ok-insert-clause-members
returns-in_ok-insert-clause-members c o =
    let s = c.args.places.now in
    let same = c.cell-cell.ensures in
    let from = atom_of c.atom-first.result.now in
    let onto = atom_of c.atom-atom.result.now in
    let same_n = c.n.ensures ∙ ap (λ (t : Structure). t.n) same in
    let at_first = subst (λ (t : Structure). slice_get t.atoms c.args.from ≡ Some from) same c.atom-first.ensures.value in
    let at_atom = subst (λ (t : Structure). slice_get t.atoms c.args.onto ≡ Some onto) same c.atom-atom.ensures.value in
    let species : onto.species ≡ from.species = search rules in
    let step = c.between-shift.ensures ∙ ap (λ (n : ℕ). modulo n (difference onto.position from.position)) same_n in
    let w = c.matrix-w.ensures ∙ c.requires.identity in
    onto_kept s c.args.from c.args.onto from onto at_first at_atom (operation_of (record { w = c.matrix-w.result.now; shift = c.between-shift.result; sign = Same })) c.args.found.now.operations c.insert.new.self.operations species
    (λ i. record { matrix = w i; translation = step i; sign = Same }) (subst (λ (m : Matrix). Keeps s m (triple_of c.between-shift.result) (pos 1)) c.requires.identity (c.are_kept_by.ensures.exact.0 c.if-are_kept_by.true)) c.in_ok-insert.ensures.value o
