use Rattle.std.proofs.Common.{◌≡◌, sym, ◌∙◌}
use Rattle.op_group.proofs.TriangularMatrices.{inverse_entries, same_quotient, product_small, sum_small, opposite_of_product, opposite_of_sum, is_inverse}
use Rattle.op_group.proofs.steps.inverse_times.Goals as goal

pub quotient-a11-requires-clause-divides : goal.quotient-a11-requires-clause-divides
quotient-a11-requires-clause-divides c =
    let b = c.args.basis.now in
    let q = c.requires.inverse in
    let e = inverse_entries c.args.n b c.requires in
    (q.a11, e.a11 ∙ sym c.from-n.ensures)

pub quotient-a22-requires-clause-divides : goal.quotient-a22-requires-clause-divides
quotient-a22-requires-clause-divides c =
    let b = c.args.basis.now in
    let q = c.requires.inverse in
    let e = inverse_entries c.args.n b c.requires in
    (q.a22, e.a22 ∙ sym c.from-n.ensures)

pub quotient-a33-requires-clause-divides : goal.quotient-a33-requires-clause-divides
quotient-a33-requires-clause-divides c =
    let b = c.args.basis.now in
    let q = c.requires.inverse in
    let e = inverse_entries c.args.n b c.requires in
    (q.a33, e.a33 ∙ sym c.from-n.ensures)

pub mul-requires : goal.mul-requires
mul-requires c =
    let b = c.args.basis.now in
    let q = c.requires.inverse in
    let e = inverse_entries c.args.n b c.requires in
    let s22 : c.quotient-a22.result ≡ q.a22 = same_quotient b.a22 _ _ _ c.requires.diagonal.1 (c.quotient-a22.ensures ∙ c.from-n.ensures) e.a22 in
    product_small _ c.requires.small.a12 c.requires.small_inverse.a22 s22

pub quotient-a12-requires-clause-divides : goal.quotient-a12-requires-clause-divides
quotient-a12-requires-clause-divides c =
    let b = c.args.basis.now in
    let q = c.requires.inverse in
    let e = inverse_entries c.args.n b c.requires in
    let s22 : c.quotient-a22.result ≡ q.a22 = same_quotient b.a22 _ _ _ c.requires.diagonal.1 (c.quotient-a22.ensures ∙ c.from-n.ensures) e.a22 in
    let o12 = opposite_of_product b.a12 _ q.a22 _ _ s22 c.mul.ensures c.neg.ensures in
    (q.a12, e.a12 ∙ sym o12)

pub mul-requires-2 : goal.mul-requires-2
mul-requires-2 c =
    let b = c.args.basis.now in
    let q = c.requires.inverse in
    let e = inverse_entries c.args.n b c.requires in
    let s33 : c.quotient-a33.result ≡ q.a33 = same_quotient b.a33 _ _ _ c.requires.diagonal.2 (c.quotient-a33.ensures ∙ c.from-n.ensures) e.a33 in
    product_small _ c.requires.small.a23 c.requires.small_inverse.a33 s33

pub quotient-a23-requires-clause-divides : goal.quotient-a23-requires-clause-divides
quotient-a23-requires-clause-divides c =
    let b = c.args.basis.now in
    let q = c.requires.inverse in
    let e = inverse_entries c.args.n b c.requires in
    let s33 : c.quotient-a33.result ≡ q.a33 = same_quotient b.a33 _ _ _ c.requires.diagonal.2 (c.quotient-a33.ensures ∙ c.from-n.ensures) e.a33 in
    let o23 = opposite_of_product b.a23 _ q.a33 _ _ s33 c.mul-2.ensures c.neg-2.ensures in
    (q.a23, e.a23 ∙ sym o23)

pub mul-requires-3 : goal.mul-requires-3
mul-requires-3 c =
    let b = c.args.basis.now in
    let q = c.requires.inverse in
    let e = inverse_entries c.args.n b c.requires in
    let s33 : c.quotient-a33.result ≡ q.a33 = same_quotient b.a33 _ _ _ c.requires.diagonal.2 (c.quotient-a33.ensures ∙ c.from-n.ensures) e.a33 in
    let o23 = opposite_of_product b.a23 _ q.a33 _ _ s33 c.mul-2.ensures c.neg-2.ensures in
    let s23 : c.quotient-a23.result ≡ q.a23 = same_quotient b.a22 _ _ _ c.requires.diagonal.1 (c.quotient-a23.ensures ∙ o23) e.a23 in
    product_small _ c.requires.small.a12 c.requires.small_inverse.a23 s23

pub mul-requires-4 : goal.mul-requires-4
mul-requires-4 c =
    let b = c.args.basis.now in
    let q = c.requires.inverse in
    let e = inverse_entries c.args.n b c.requires in
    let s33 : c.quotient-a33.result ≡ q.a33 = same_quotient b.a33 _ _ _ c.requires.diagonal.2 (c.quotient-a33.ensures ∙ c.from-n.ensures) e.a33 in
    product_small _ c.requires.small.a13 c.requires.small_inverse.a33 s33

pub add-requires : goal.add-requires
add-requires c =
    let b = c.args.basis.now in
    let q = c.requires.inverse in
    let e = inverse_entries c.args.n b c.requires in
    let s33 : c.quotient-a33.result ≡ q.a33 = same_quotient b.a33 _ _ _ c.requires.diagonal.2 (c.quotient-a33.ensures ∙ c.from-n.ensures) e.a33 in
    let o23 = opposite_of_product b.a23 _ q.a33 _ _ s33 c.mul-2.ensures c.neg-2.ensures in
    let s23 : c.quotient-a23.result ≡ q.a23 = same_quotient b.a22 _ _ _ c.requires.diagonal.1 (c.quotient-a23.ensures ∙ o23) e.a23 in
    sum_small _ _ _ _ c.requires.small.a12 c.requires.small_inverse.a23 c.requires.small.a13 c.requires.small_inverse.a33 s23 s33 c.mul-3.ensures c.mul-4.ensures

pub quotient-a13-requires-clause-divides : goal.quotient-a13-requires-clause-divides
quotient-a13-requires-clause-divides c =
    let b = c.args.basis.now in
    let q = c.requires.inverse in
    let e = inverse_entries c.args.n b c.requires in
    let s33 : c.quotient-a33.result ≡ q.a33 = same_quotient b.a33 _ _ _ c.requires.diagonal.2 (c.quotient-a33.ensures ∙ c.from-n.ensures) e.a33 in
    let o23 = opposite_of_product b.a23 _ q.a33 _ _ s33 c.mul-2.ensures c.neg-2.ensures in
    let s23 : c.quotient-a23.result ≡ q.a23 = same_quotient b.a22 _ _ _ c.requires.diagonal.1 (c.quotient-a23.ensures ∙ o23) e.a23 in
    let o13 = opposite_of_sum b.a12 b.a13 _ _ q.a23 q.a33 _ _ _ _ s23 s33 c.mul-3.ensures c.mul-4.ensures c.add.ensures c.neg-3.ensures in
    (q.a13, e.a13 ∙ sym o13)

pub returns : goal.returns
returns c =
    let b = c.args.basis.now in
    let q = c.requires.inverse in
    let e = inverse_entries c.args.n b c.requires in
    let s11 : c.quotient-a11.result ≡ q.a11 = same_quotient b.a11 _ _ _ c.requires.diagonal.0 (c.quotient-a11.ensures ∙ c.from-n.ensures) e.a11 in
    let s22 : c.quotient-a22.result ≡ q.a22 = same_quotient b.a22 _ _ _ c.requires.diagonal.1 (c.quotient-a22.ensures ∙ c.from-n.ensures) e.a22 in
    let s33 : c.quotient-a33.result ≡ q.a33 = same_quotient b.a33 _ _ _ c.requires.diagonal.2 (c.quotient-a33.ensures ∙ c.from-n.ensures) e.a33 in
    let o12 = opposite_of_product b.a12 _ q.a22 _ _ s22 c.mul.ensures c.neg.ensures in
    let o23 = opposite_of_product b.a23 _ q.a33 _ _ s33 c.mul-2.ensures c.neg-2.ensures in
    let s12 : c.quotient-a12.result ≡ q.a12 = same_quotient b.a11 _ _ _ c.requires.diagonal.0 (c.quotient-a12.ensures ∙ o12) e.a12 in
    let s23 : c.quotient-a23.result ≡ q.a23 = same_quotient b.a22 _ _ _ c.requires.diagonal.1 (c.quotient-a23.ensures ∙ o23) e.a23 in
    let o13 = opposite_of_sum b.a12 b.a13 _ _ q.a23 q.a33 _ _ _ _ s23 s33 c.mul-3.ensures c.mul-4.ensures c.add.ensures c.neg-3.ensures in
    let s13 : c.quotient-a13.result ≡ q.a13 = same_quotient b.a11 _ _ _ c.requires.diagonal.0 (c.quotient-a13.ensures ∙ o13) e.a13 in
    is_inverse c.args.n b _ c.requires (c.from-zero.ensures, c.from-zero.ensures, c.from-zero.ensures) s11 s12 s13 s22 s23 s33
