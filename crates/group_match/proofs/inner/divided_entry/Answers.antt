use Rattle.group_match.proofs.Outcomes.{none_of}
use Rattle.std.proofs.Common.{◌≡◌, ℤ, ◌*ℤ◌, sym, subst, ◌∙◌}
use Rattle.std.proofs.Math.IntN.{*ℤ_comm}
use Rattle.ring.specs.Size.{AtMost}
use Rattle.basis_spec.proofs.Cancelling.{mul_cancel}
use Rattle.group_match.proofs.InnerLemmas.{index_nonzero, index_above}
use Rattle.group_match.proofs.inner.divided_entry.Goals as goal

pub returns-in_err-quotient-clause-absent : goal.returns-in_err-quotient-clause-absent
returns-in_err-quotient-clause-absent c =
    none_of {P = (q : ℤ) → AtMost 2700000000 q → ¬ (c.args.index *ℤ q ≡ c.args.a)} _ (λ q s e. absurd (cc (c.in_err-quotient.ensures.exact.1 (index_nonzero c.args.index c.requires, (q, *ℤ_comm q c.args.index ∙ e)))))

pub returns-else-is_small-clause-absent : goal.returns-else-is_small-clause-absent
returns-else-is_small-clause-absent c q s e =
    let same = mul_cancel c.args.index q c.in_ok-quotient.quotient (index_above c.args.index c.requires) (e ∙ (sym c.in_ok-quotient.ensures.value ∙ *ℤ_comm c.in_ok-quotient.quotient c.args.index)) in
    cc (sym c.if-is_small.false ∙ c.is_small.ensures.1 (subst (AtMost 2700000000) same s))
