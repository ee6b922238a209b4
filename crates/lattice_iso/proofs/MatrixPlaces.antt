-- The order of matrices, and where a matrix is in an increasing list.
use Rattle.std.proofs.Common.{◌≡◌, sym, subst, ℕ, List, length, Result, Ok, Err, IfErr}
use Rattle.std.specs.Prelude.{OnOk}
use Rattle.std.specs.List.{insert}
use Rattle.std.specs.List.Sorted.{IsBinarySearchResult, IsSearchInRange}
use Rattle.std.specs.Ordering.{ordering_then, int_cmp}
use Rattle.std.specs.Cmp.{IsTotalOrder}
use Rattle.std.proofs.lemmas.List.{map-id}
use Rattle.std.proofs.lemmas.Map.Lookups.{CmpEqualImpliesEq, exact_signed}
use Rattle.std.proofs.lemmas.Cmp.{lists_total, int_cmp_total, on_total}
use Rattle.lists.specs.Increasing.{IsIncreasing, IsMember, inserted}
use Rattle.lists.proofs.Increasing.{inserted_member}
use Rattle.lists.proofs.Orders.{then_equal, exact_lists}
use Rattle.lists.proofs.Searching.{IsPlacing, placed_by_search}
use Rattle.matrix3.specs.Matrices.{entries}
use Rattle.crystal_spec.specs.Matrices.{Matrix}
use Rattle.crystal_spec.proofs.Entrywise.{matrix_same}
use Rattle.lattice_iso.specs.Isometries.{matrix_order}

-- ---- the order of matrices

-- the order that the program computes: the first of the nine entries that differs decides
pub matrix_order_by_entries : (v w : Matrix) → ordering_then (int_cmp v.a11 w.a11) (ordering_then (int_cmp v.a12 w.a12) (ordering_then (int_cmp v.a13 w.a13) (ordering_then (int_cmp v.a21 w.a21) (ordering_then (int_cmp v.a22 w.a22) (ordering_then (int_cmp v.a23 w.a23) (ordering_then (int_cmp v.a31 w.a31) (ordering_then (int_cmp v.a32 w.a32) (int_cmp v.a33 w.a33)))))))) ≡ matrix_order v w
unfolding matrix_order
matrix_order_by_entries v w = simp then_equal

-- it is a total order
pub matrix_order_total : IsTotalOrder matrix_order
unfolding matrix_order
matrix_order_total = on_total entries (lists_total int_cmp_total)

-- only equal matrices tie
pub matrix_order_exact : CmpEqualImpliesEq matrix_order
unfolding matrix_order
matrix_order_exact v w e =
    let k = exact_lists exact_signed (entries v) (entries w) e in
    matrix_same {a = v} {b = w} (cc k) (cc k) (cc k) (cc k) (cc k) (cc k) (cc k) (cc k) (cc k)

-- ---- matrices in their order

-- what a binary search in an increasing list of matrices tells
pub record Placing (items : List Matrix) (w : Matrix) (r : Result ℕ ℕ) : Type 0 where
  pub found : OnOk r (IsMember w items)
  pub placed : IfErr r (λ at. insert items at w ≡ inserted matrix_order w items)

-- it tells so
pub matrix_placed : (items : List Matrix) (w : Matrix) (r : Result ℕ ℕ) → IsIncreasing matrix_order items → IsSearchInRange r (length items) → IsBinarySearchResult (λ item. matrix_order item w) items r → Placing items w r
matrix_placed items w r increasing in_range result = by r (placed_by_search matrix_order matrix_order_total (λ v. v) matrix_order_exact items w r (subst (IsIncreasing matrix_order) (sym (map-id items)) increasing) in_range result)
  where
    by : (r : Result ℕ ℕ) → IsPlacing matrix_order (λ v. v) items w r → Placing items w r
    by (Ok at) h = record { found = subst (IsMember w) (map-id items) h.found; placed = tt }
    by (Err at) h = record { found = tt; placed = simp map-id at h.placed }

-- a matrix that was there is not put in again
pub matrix_inserted_member : (w : Matrix) (ws : List Matrix) → IsIncreasing matrix_order ws → IsMember w ws → ws ≡ inserted matrix_order w ws
matrix_inserted_member w ws increasing there = sym (inserted_member matrix_order matrix_order_total w ws increasing there)
