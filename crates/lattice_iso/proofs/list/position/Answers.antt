use Rattle.std.proofs.Common.{rules}
use Rattle.std.proofs.lemmas.Fn.{always_returns_same}
use Rattle.lattice_iso.specs.Isometries.{matrix_order}
use Rattle.lattice_iso.proofs.MatrixPlaces.{matrix_placed}
use Rattle.lattice_iso.proofs.list.position.Goals as goal

-- the closure compares a matrix of the list with this one
pub returns : goal.returns
returns c =
    let facts = c.binary_search_by.ensures in
    let result = facts.position (λ item. matrix_order item c.args.w.now) (always_returns_same _ _ _ (λ a r f called. search rules)) in
    let placed = matrix_placed c.args.items.now c.args.w.now c.binary_search_by.result c.requires facts.bound result in
    record { found = placed.found; within = search rules; placed = placed.placed }
