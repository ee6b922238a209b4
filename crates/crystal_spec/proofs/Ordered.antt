-- The order of operations is total, and only equal operations tie.
use Rattle.std.proofs.Common.{◌≡◌, refl}
use Rattle.std.specs.Cmp.{IsTotalOrder}
use Rattle.std.proofs.lemmas.Cmp.{lists_total, int_cmp_total, on_total}
use Rattle.std.proofs.lemmas.Map.Lookups.{CmpEqualImpliesEq, exact_signed}
use Rattle.lists.proofs.Orders.{exact_lists}
use Rattle.crystal_spec.specs.declared.Sign.{Sign}
use Rattle.crystal_spec.specs.declared.Sign.TheVariants.{Same, Reversed}
use Rattle.crystal_spec.specs.Operations.{order_key, compare_of, sign_rank}
use Rattle.crystal_spec.proofs.Entrywise.{triple_same, matrix_same}

-- operations are ordered as their keys, which are lists of integers
pub compare_total : IsTotalOrder compare_of
unfolding compare_of
compare_total = on_total order_key (lists_total int_cmp_total)

sign_from_rank : (s t : Sign) → sign_rank s ≡ sign_rank t → s ≡ t
sign_from_rank Same Same e = refl
sign_from_rank Same Reversed e = absurd (cc e)
sign_from_rank Reversed Same e = absurd (cc e)
sign_from_rank Reversed Reversed e = refl

-- only equal operations tie
pub compare_exact : CmpEqualImpliesEq compare_of
unfolding compare_of
compare_exact a b e =
    let k = exact_lists exact_signed (order_key a) (order_key b) e in
    let m = matrix_same {a = a.matrix} {b = b.matrix} (cc k) (cc k) (cc k) (cc k) (cc k) (cc k) (cc k) (cc k) (cc k) in
    let s = triple_same {a = a.translation} {b = b.translation} (cc k) (cc k) (cc k) in
    let t = sign_from_rank a.sign b.sign (cc k) in
    λ i. record { matrix = m i; translation = s i; sign = t i }
