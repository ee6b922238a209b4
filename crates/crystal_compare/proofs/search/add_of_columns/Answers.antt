use Rattle.std.proofs.Common.{subst, sym, rules}
use Rattle.std.specs.Prelude.{◌↔◌, IsTrue}
use Rattle.crystal_spec.specs.Crystals.{Structure}
use Rattle.matrix3.specs.Bounds.{EntriesAtMost}
use Rattle.matrix3.specs.Matrices.{of_columns}
use Rattle.crystal_compare.specs.Search.{IsIsometry, IsMapBy}
use Rattle.crystal_compare.proofs.Finding.{by_matrix, not_by_matrix, not_added, columns_small}
use Rattle.crystal_compare.proofs.search.add_of_columns.Goals as goal

pub is_isometry-requires : goal.is_isometry-requires
is_isometry-requires c = subst (EntriesAtMost 1) (sym c.of_columns-w.ensures) (columns_small _ _ _ c.requires.a c.requires.b c.requires.c)

pub add_by-requires-clause-small : goal.add_by-requires-clause-small
add_by-requires-clause-small c = subst (EntriesAtMost 1) (sym c.of_columns-w.ensures) (columns_small _ _ _ c.requires.a c.requires.b c.requires.c)

pub returns-in_ok-add_by : goal.returns-in_ok-add_by
returns-in_ok-add_by c = record {
  members = λ o. by_matrix c.args.one.now c.args.other.now c.of_columns-w.result (of_columns c.args.a.now c.args.b.now c.args.c.now) o _ _ c.of_columns-w.ensures (c.in_ok-add_by.ensures.members o);
}

pub returns-else-is_isometry : goal.returns-else-is_isometry
returns-else-is_isometry c =
    let one = c.args.one.now in
    let s = c.args.other.now in
    let w = of_columns c.args.a.now c.args.b.now c.args.c.now in
    let test = subst (λ (t : Structure). IsTrue c.is_isometry.result ↔ IsIsometry one t c.of_columns-w.result) c.cell.ensures c.is_isometry.ensures in
    let no : IsTrue c.is_isometry.result → ⊥ = search rules in
    record { members = λ o. not_added (IsMapBy one s w o) _ (not_by_matrix one s c.of_columns-w.result w o c.of_columns-w.ensures (λ h. no (test.1 h))) }
