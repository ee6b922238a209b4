use Rattle.std.proofs.Common.{◌≡◌, ◌*◌, ◌^◌, ◌≤◌, ℕ, true, false, sym, ap, subst, ◌∙◌, mul-le-mul, arith}
use Rattle.crystal_spec.specs.declared.MomentKind.{MomentKind}
use Rattle.standard_cell.proofs.LimitLemmas.{divisor_vector, divisor_scalar}
use Rattle.standard_cell.proofs.limits.moment_parts.Goals as goal

pub overflow_mul-result : goal.overflow_mul-result
overflow_mul-result c =
    let k : c.k.result ≤ 10 ^ 6 = subst (λ (n : ℕ). n ≤ 10 ^ 6) (sym c.k.ensures) c.invariant.ensures.form.k_at_most in
    let both : c.args.index * c.k.result ≤ 1728 * 10 ^ 6 = mul-le-mul c.requires k in
    record { fits = omega (arith, both) }

pub returns-then-kind : goal.returns-then-kind
returns-then-kind c =
    let kind = c.args.cell.now.kind in
    let vector : kind.vector ≡ true = ap (λ (k : MomentKind). k.vector) (sym c.kind.ensures) ∙ c.if-kind.true in
    ap (λ (n : ℕ). c.args.index * n) c.k.ensures ∙ ap (λ (d : ℕ). d * c.args.cell.now.k) (sym (divisor_vector kind c.args.index vector))

once : (n : ℕ) → n ≡ 1 * n
once n = omega arith

pub returns-else-kind : goal.returns-else-kind
returns-else-kind c =
    let kind = c.args.cell.now.kind in
    let scalar : kind.vector ≡ false = ap (λ (k : MomentKind). k.vector) (sym c.kind.ensures) ∙ c.if-kind.false in
    c.k-else-kind.ensures ∙ once c.args.cell.now.k ∙ ap (λ (d : ℕ). d * c.args.cell.now.k) (sym (divisor_scalar kind c.args.index scalar))
