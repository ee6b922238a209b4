use Rattle.std.proofs.Common.{rules, subst, sym, lit≤, ◌^◌}
use Rattle.matrix3.specs.Bounds.{EntriesAtMost}
use Rattle.matrix3.proofs.FitsBySize.{entries_grown}
use Rattle.lattice_iso.specs.Columns.{ListsOfLength}
use Rattle.lattice_iso.proofs.ByColumns.{tensor_of, entries_of_short, result_listed}
use Rattle.lattice_iso.proofs.search.isometries.Goals as goal

pub columns_of_length-requires : goal.columns_of_length-requires
columns_of_length-requires c = record { metric = subst (EntriesAtMost (10 ^ 34)) (sym c.matrix-g.ensures) (entries_grown (lit≤ tt) c.requires.small) }

pub columns_of_length-requires-2 : goal.columns_of_length-requires-2
columns_of_length-requires-2 c = record { metric = subst (EntriesAtMost (10 ^ 34)) (sym c.matrix-g.ensures) (entries_grown (lit≤ tt) c.requires.small) }

pub columns_of_length-requires-3 : goal.columns_of_length-requires-3
columns_of_length-requires-3 c = record { metric = subst (EntriesAtMost (10 ^ 34)) (sym c.matrix-g.ensures) (entries_grown (lit≤ tt) c.requires.small) }

pub all_of_columns-requires-clause-metric : goal.all_of_columns-requires-clause-metric
all_of_columns-requires-clause-metric c = subst (EntriesAtMost (10 ^ 34)) (sym c.matrix-g.ensures) (entries_grown (lit≤ tt) c.requires.small)

pub returns-in_err-first-clause-entries : goal.returns-in_err-first-clause-entries
returns-in_err-first-clause-entries c g w symmetric short k = entries_of_short g w symmetric short k

pub returns-in_err-second-clause-entries : goal.returns-in_err-second-clause-entries
returns-in_err-second-clause-entries c g w symmetric short k = entries_of_short g w symmetric short k

pub returns-in_err-third-clause-entries : goal.returns-in_err-third-clause-entries
returns-in_err-third-clause-entries c g w symmetric short k = entries_of_short g w symmetric short k

pub returns-clause-entries : goal.returns-clause-entries
returns-clause-entries c g w symmetric short k = entries_of_short g w symmetric short k

pub returns-clause-exact : goal.returns-clause-exact
returns-clause-exact c =
    let g = c.matrix-g.result in
    let first : ListsOfLength g g.a11 c.deref.result.now = search rules in
    let second : ListsOfLength g g.a22 c.deref-2.result.now = search rules in
    let third : ListsOfLength g g.a33 c.deref-3.result.now = search rules in
    result_listed g (tensor_of c.args.metric.now) _ _ _ c.all_of_columns.result c.matrix-g.ensures c.requires.niggli.main first second third c.all_of_columns.ensures.increasing c.all_of_columns.ensures.members
