use Rattle.std.proofs.Common.{◌≡◌, ℕ, ◌⊎◌, List, length, subst, sym, ap, ◌∙◌, arith, rules}
use Rattle.std.specs.Prelude.{◌↔◌, ◌+◌, slice_get, Some, IsTrue}
use Rattle.lists.specs.Increasing.{IsMember}
use Rattle.lists.specs.Any.{AnyBelow}
use Rattle.lists.proofs.Any.{more_below, same_below}
use Rattle.crystal_spec.specs.Crystals.{Structure}
use Rattle.crystal_spec.specs.Operations.{Operation}
use Rattle.crystal.specs.Cells.{IsCellWithinLimits}
use Rattle.crystal.specs.Views.{atom_of}
use Rattle.crystal.proofs.CellLemmas.{atom_member}
use Rattle.crystal_compare.specs.Maps.{HaveOneName}
use Rattle.crystal_compare.specs.Search.{IsMapOntoNumber}
use Rattle.crystal_compare.proofs.Finding.{by_atoms, onto_number, not_onto_number}
use Rattle.crystal_compare.proofs.search.add_by.Goals as goal
use Rattle.crystal_compare.proofs.search.add_by.Goals.{then-have_one_name+in_ok-add_onto, else-have_one_name}

pub have_one_name-requires-clause-first : goal.have_one_name-requires-clause-first
have_one_name-requires-clause-first c =
    let one = c.args.one.now in
    (atom_member (length one.names) one.n one.kind one.atoms (atom_of c.args.from.now) c.invariant.ensures.form.atoms c.requires.of_cell).named

pub loop-i-preserved : goal.loop-i-preserved
loop-i-preserved c o =
    let one = c.args.one.now in
    let s = c.args.other.now in
    let w = c.args.w.now in
    let a = atom_of c.args.from.now in
    let b = atom_of c.atom-onto.result.now in
    let P = IsMapOntoNumber one s w a o in
    let at = subst (λ (t : Structure). slice_get t.atoms c.loop-i.i ≡ Some b) c.cell-cell.ensures c.atom-onto.ensures.value in
    let name = subst (λ (t : Structure). IsTrue c.have_one_name.result ↔ HaveOneName one t a.species b.species) c.cell-cell.ensures c.have_one_name.ensures in
    elim c.if-have_one_name.branch [
      | then-have_one_name+in_ok-add_onto v ↦
          let yes : IsTrue c.have_one_name.result = search rules in
          subst (λ (l : List Operation). IsMember o l ↔ (AnyBelow (c.loop-i.i + 1) P ⊎ IsMember o c.args.found.now)) (sym v.found-is)
          (more_below P c.loop-i.i _ _ _ (c.loop-i.invariant o) (onto_number one s w a b o c.loop-i.i _ _ at (name.0 yes) (v.in_ok-add_onto.ensures.members o)))
      | else-have_one_name v ↦
          let no : IsTrue c.have_one_name.result → ⊥ = search rules in
          subst (λ (l : List Operation). IsMember o l ↔ (AnyBelow (c.loop-i.i + 1) P ⊎ IsMember o c.args.found.now)) (sym v.found-is)
          (same_below P c.loop-i.i _ _ (not_onto_number one s w a b o c.loop-i.i at (λ h. no (name.1 h))) (c.loop-i.invariant o))
    ]

pub returns : goal.returns
returns c =
    let one = c.args.one.now in
    let s = c.args.other.now in
    let a = atom_of c.args.from.now in
    let all : c.count-i-end.result ≡ length s.atoms = c.count-i-end.ensures.value ∙ ap (λ (t : Structure). length t.atoms) c.cell-cell.ensures in
    let ended : c.loop-i.i ≡ length s.atoms = omega arith in
    record {
      members = λ o. by_atoms one s c.args.w.now a o _ _ c.invariant.ensures.form (subst IsCellWithinLimits c.cell-cell.ensures c.count-i-end.ensures.form) c.requires.of_cell
          (subst (λ (k : ℕ). IsMember o c.loop-i.found ↔ (AnyBelow k (IsMapOntoNumber one s c.args.w.now a o) ⊎ IsMember o c.args.found.now)) ended (c.loop-i.invariant o));
    }
