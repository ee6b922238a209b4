use Rattle.std.proofs.Common.{rules}
use Rattle.std.proofs.lemmas.Fn.{always_returns_same}
use Rattle.lists.proofs.Searching.{placed_by_search}
use Rattle.crystal_spec.specs.Operations.{compare_of}
use Rattle.crystal_spec.proofs.Ordered.{compare_total, compare_exact}
use Rattle.op_group.specs.Views.{operation_of}
use Rattle.op_group.proofs.list.place.Goals as goal

-- the closure compares an operation of the list with this one
pub returns : goal.returns
returns c =
    let facts = c.binary_search_by.ensures in
    let result = facts.position (λ item. compare_of (operation_of item) (operation_of c.args.op.now)) (always_returns_same _ _ _ (λ a r f called. search rules)) in
    let placed = placed_by_search compare_of compare_total operation_of compare_exact c.args.items.now c.args.op.now c.binary_search_by.result c.requires facts.bound result in
    record { found = placed.found; absent = placed.absent; within = search rules; placed = placed.placed }
