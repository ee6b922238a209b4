use Rattle.std.proofs.Common.{◌≡◌, ◌^◌, ◌<◌, ℕ, ℤ, pos, negsuc, ◌*ℤ◌, ◌<ℤ◌, ◌≤ℤ◌, ◌+ℤ◌, neg_ℤ, [], ◌∷◌, refl, sym, ap, subst, ◌∙◌, arith}
use Rattle.std.proofs.lemmas.Int.{ints}
use Rattle.ring.specs.Ring.{var, ◌:*◌, ◌:-◌}
use Rattle.ring.proofs.IntOrder.{nonneg_of_mul}
use Rattle.crystal_spec.proofs.Identities.{by_integers}
use Rattle.basis_spec.proofs.Positive.{pos_of_mul}
use Rattle.group_match.proofs.Outcomes.{of_some}
use Rattle.standard_cell.proofs.LimitLemmas.{not_zero, swapped}
use Rattle.standard_cell.proofs.copies.coordinate.Goals as goal

-- the quotient of a number from 0 and below d k is from 0 and below k
number : (q d x : ℤ) → pos 0 <ℤ d → q *ℤ d ≡ x → pos 0 ≤ℤ x → x <ℤ (d *ℤ pos (10 ^ 6)) → (k : ℕ) × (k < 2 ^ 32) × (q ≡ pos k)
number (pos n) d x above e low high = (n, small n (less (pos n) (pos (10 ^ 6)) d above (subst (λ (z : ℤ). z <ℤ (d *ℤ pos (10 ^ 6))) (sym e ∙ swapped (pos n) d) high)), refl)
  where
    small : (n : ℕ) → pos n <ℤ pos (10 ^ 6) → n < 2 ^ 32
    small n h = omega (arith, ints, h)

    gap : (a b : ℤ) → a <ℤ b → pos 0 <ℤ (b +ℤ neg_ℤ a)
    gap a b h = omega (arith, ints)

    back : (a b : ℤ) → pos 0 <ℤ (b +ℤ neg_ℤ a) → a <ℤ b
    back a b h = omega (arith, ints)

    less : (a b d : ℤ) → pos 0 <ℤ d → (d *ℤ a) <ℤ (d *ℤ b) → a <ℤ b
    less a b d above h = back a b (pos_of_mul d (b +ℤ neg_ℤ a) above (subst (λ (z : ℤ). pos 0 <ℤ z) (by_integers (d ∷ a ∷ b ∷ []) (var 0 :* var 2 :- var 0 :* var 1) (var 0 :* (var 2 :- var 1)) refl) (gap (d *ℤ a) (d *ℤ b) h)))
number (negsuc n) d x above e low high = absurd ((nonneg_of_mul d (negsuc n) above (subst (λ (z : ℤ). pos 0 ≤ℤ z) (sym e ∙ swapped (negsuc n) d) low)).le)

pub unwrap-requires : goal.unwrap-requires
unwrap-requires c = c.div_exact.ensures.exact.1 (not_zero c.args.divisor c.requires.positive, (c.requires.divides.0, swapped c.requires.divides.0 c.args.divisor ∙ sym c.requires.divides.1))

pub natural-requires : goal.natural-requires
natural-requires c = number c.unwrap.result c.args.divisor c.args.x c.requires.positive (of_some (λ (r : ℤ). r *ℤ c.args.divisor ≡ c.args.x) c.div_exact.result c.unwrap.result c.div_exact.ensures.value c.unwrap.ensures) c.requires.low c.requires.high

pub returns : goal.returns
returns c =
    ap (λ (z : ℤ). c.args.divisor *ℤ z) c.natural.ensures ∙ swapped c.args.divisor c.unwrap.result
    ∙ of_some (λ (r : ℤ). r *ℤ c.args.divisor ≡ c.args.x) c.div_exact.result c.unwrap.result c.div_exact.ensures.value c.unwrap.ensures
