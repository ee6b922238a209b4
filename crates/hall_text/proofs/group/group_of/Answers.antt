use Rattle.std.proofs.Common.{map, sym, subst, List}
use Rattle.op_group.specs.Views.{operation_of}
use Rattle.hall_text.specs.declared.pures.Pure.{Pure}
use Rattle.hall_text.specs.PureTables.{pure_of, HaveSteps}
use Rattle.hall_text.proofs.ListingLemmas.{products_within, listing_within, group_listed}
use Rattle.hall_text.proofs.Groups.{products_group, products_matrices, products_entries}
use Rattle.hall_text.proofs.group.group_of.Goals as goal

pub closed_table-requires-clause-within : goal.closed_table-requires-clause-within
closed_table-requires-clause-within c =
    let h = subst (λ (ds : List Pure). HaveSteps (map operation_of c.args.reps.now) (map pure_of ds) (map operation_of c.args.reps.now) (map operation_of c.args.gens.now)) (sym c.deref.ensures.value) c.in_ok-steps.ensures in
    products_within (map operation_of c.args.gens.now) (map pure_of c.deref.result.now) h.made

pub all_operations-requires : goal.all_operations-requires
all_operations-requires c = products_within (map operation_of c.args.gens.now) (map operation_of c.args.reps.now) c.requires.stand.partial.products

pub sorted-requires : goal.sorted-requires
sorted-requires c = record { below_n = listing_within c.in_ok-table.table (map operation_of c.args.reps.now) (map operation_of c.in_ok-ops.ops.items) c.in_ok-ops.ensures }

pub returns-clause-exact : goal.returns-clause-exact
returns-clause-exact c =
    let h = subst (λ (ds : List Pure). HaveSteps (map operation_of c.args.reps.now) (map pure_of ds) (map operation_of c.args.reps.now) (map operation_of c.args.gens.now)) (sym c.deref.ensures.value) c.in_ok-steps.ensures in
    group_listed (map operation_of c.args.gens.now) (map operation_of c.args.reps.now) (map pure_of c.deref.result.now) (map operation_of c.in_ok-ops.ops.items) c.in_ok-list.list.operations c.in_ok-table.table c.requires.stand h c.in_ok-table.ensures.closed c.in_ok-table.ensures.made c.in_ok-ops.ensures c.in_ok-list.ensures.exact

pub returns-clause-group : goal.returns-clause-group
returns-clause-group c = products_group (map operation_of c.args.gens.now) c.in_ok-list.list.operations c.requires.rotations (returns-clause-exact c)

pub returns-clause-few_matrices : goal.returns-clause-few_matrices
returns-clause-few_matrices c = products_matrices (map operation_of c.args.gens.now) (map operation_of c.args.reps.now) c.in_ok-list.list.operations c.requires.stand (returns-clause-exact c)

pub returns-clause-entries : goal.returns-clause-entries
returns-clause-entries c = products_entries (map operation_of c.args.gens.now) (map operation_of c.args.reps.now) c.in_ok-list.list.operations c.requires.stand (returns-clause-exact c)
