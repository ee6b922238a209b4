use Rattle.std.proofs.Common.{◌≡◌, ℕ, ◌<◌, ◌^◌, ℤ, pos, sym, ap, subst}
use Rattle.std.specs.Prelude.{unsigned_abs}
use Rattle.std.specs.Int.{◌∣◌}
use Rattle.std.proofs.lemmas.Nat.Gcd.{dvd_trans}
use Rattle.exact_num.specs.Meanings.{fraction_of}
use Rattle.group_match.proofs.Outcomes.{none_of}
use Rattle.standard_cell.specs.PlaceDivisors.{IsMultiple}
use Rattle.standard_cell.specs.Origins.{DenominatorsDivide}
use Rattle.standard_cell.proofs.Commons.{of_natural}
use Rattle.standard_cell.proofs.origin.common_origin.Goals as goal

-- a divisor as a natural number
as_number : (n k : ℕ) (d : ℤ) → pos n ≡ d → unsigned_abs d ∣ k → n ∣ k
as_number n k d e h = subst (λ (m : ℕ). m ∣ k) (sym (ap unsigned_abs e)) h

-- and as an integer
as_integer : (n m : ℕ) (d p : ℤ) → pos n ≡ d → p ≡ pos m → n ∣ m → IsMultiple d p
as_integer n m d p e f h = subst (λ (z : ℤ). IsMultiple z p) e (subst (IsMultiple (pos n)) (sym f) (of_natural n (pos m) h))

pub returns-in_err-two-clause-absent : goal.returns-in_err-two-clause-absent
returns-in_err-two-clause-absent c =
    let f = c.args.origin.now in
    let past : (k : ℕ) → 0 < k → DenominatorsDivide f k → 10 ^ 12 < k = λ k above d. c.in_err-two.ensures.absent k above (as_number c.denominator.result k (fraction_of f.x).denominator c.denominator.ensures.value d.x) (as_number c.denominator-2.result k (fraction_of f.y).denominator c.denominator-2.ensures.value d.y) in
    none_of _ past

pub returns-in_err-all-clause-absent : goal.returns-in_err-all-clause-absent
returns-in_err-all-clause-absent c =
    let f = c.args.origin.now in
    let past : (k : ℕ) → 0 < k → DenominatorsDivide f k → 10 ^ 12 < k = λ k above d. c.in_err-all.ensures.absent k above
    (c.in_ok-two.ensures.found.least k (as_number c.denominator.result k (fraction_of f.x).denominator c.denominator.ensures.value d.x) (as_number c.denominator-2.result k (fraction_of f.y).denominator c.denominator-2.ensures.value d.y))
    (as_number c.denominator-3.result k (fraction_of f.z).denominator c.denominator-3.ensures.value d.z) in
    none_of _ past

pub numerator-requires-clause-divides : goal.numerator-requires-clause-divides
numerator-requires-clause-divides c =
    as_integer c.denominator.result c.in_ok-all.all (fraction_of c.args.origin.now.x).denominator c.whole_multiple-parts.result c.denominator.ensures.value c.whole_multiple-parts.ensures.value
    (dvd_trans c.denominator.result c.in_ok-two.ensures.found.of_left c.in_ok-all.ensures.found.of_left)

pub numerator-requires-2-clause-divides : goal.numerator-requires-2-clause-divides
numerator-requires-2-clause-divides c =
    as_integer c.denominator-2.result c.in_ok-all.all (fraction_of c.args.origin.now.y).denominator c.whole_multiple-parts.result c.denominator-2.ensures.value c.whole_multiple-parts.ensures.value
    (dvd_trans c.denominator-2.result c.in_ok-two.ensures.found.of_right c.in_ok-all.ensures.found.of_left)

pub numerator-requires-3-clause-divides : goal.numerator-requires-3-clause-divides
numerator-requires-3-clause-divides c =
    as_integer c.denominator-3.result c.in_ok-all.all (fraction_of c.args.origin.now.z).denominator c.whole_multiple-parts.result c.denominator-3.ensures.value c.whole_multiple-parts.ensures.value c.in_ok-all.ensures.found.of_right
