use Rattle.std.proofs.Common.{arith, ◌≡◌, ◌≤ℤ◌, ◌<ℤ◌, ◌-ℤ◌, ap, subst, pos, of_z}
use Rattle.std.proofs.lemmas.Int.{ints}
use mir.Syntax.{w128}
use Rattle.numbers.specs.Fraction.{fraction, IsLowest}
use Rattle.numbers.proofs.FractionLemmas.{reciprocal_is, reciprocal-positive, reciprocal-negative}
use Rattle.exact_num.specs.Meanings.{fraction_of}
use Rattle.exact_num.proofs.FracLemmas.{fraction_reads, quotient_clauses}
use Rattle.exact_num.proofs.frac.Frac.checked_div.Goals as goal

pub cross-requires-clause-second : goal.cross-requires-clause-second
cross-requires-clause-second c =
    let q = c.args.other.now in
    let k = fraction_reads q.num q.den q.small in
    let sign = simp k.num at c.if-other-lt0.true in
    let below : q.num <ℤ pos 0 = grind (arith, ints) in
    let other : q.num ≡ pos 0 → ⊥ = λ e. c.if-other-eq0.false (ap (of_z w128) e) in
    simp (k.num, k.den, k.minus_num, k.minus_den) (subst IsLowest (reciprocal-negative q.num q.den below) (reciprocal_is q.num q.den q.lowest other))

pub cross-requires-else-other-lt0-clause-second : goal.cross-requires-else-other-lt0-clause-second
cross-requires-else-other-lt0-clause-second c =
    let q = c.args.other.now in
    let k = fraction_reads q.num q.den q.small in
    let sign = simp k.num at c.if-other-lt0.false in
    let above : pos 0 ≤ℤ q.num = grind (arith, ints) in
    let other : q.num ≡ pos 0 → ⊥ = λ e. c.if-other-eq0.false (ap (of_z w128) e) in
    simp (k.num, k.den) (subst IsLowest (reciprocal-positive q.num q.den above) (reciprocal_is q.num q.den q.lowest other))

pub returns-then-other-lt0 : goal.returns-then-other-lt0
returns-then-other-lt0 c =
    let p = c.args.self.now in
    let q = c.args.other.now in
    let j = fraction_reads p.num p.den p.small in
    let k = fraction_reads q.num q.den q.small in
    let sign = simp k.num at c.if-other-lt0.true in
    let below : q.num <ℤ pos 0 = grind (arith, ints) in
    let t = quotient_clauses c.cross.result (fraction_of p) (fraction_of q) (fraction (pos 0 -ℤ q.den) (pos 0 -ℤ q.num)) (reciprocal-negative q.num q.den below) (λ e. c.if-other-eq0.false (ap (of_z w128) e)) (simp (j.num, j.den, k.num, k.den, k.minus_num, k.minus_den) at c.cross.ensures.value) (simp (j.num, j.den, k.num, k.den, k.minus_num, k.minus_den) at c.cross.ensures.exact) in
    record { value = t.0; exact = t.1 }

pub returns-else-other-lt0 : goal.returns-else-other-lt0
returns-else-other-lt0 c =
    let p = c.args.self.now in
    let q = c.args.other.now in
    let j = fraction_reads p.num p.den p.small in
    let k = fraction_reads q.num q.den q.small in
    let sign = simp k.num at c.if-other-lt0.false in
    let above : pos 0 ≤ℤ q.num = grind (arith, ints) in
    let t = quotient_clauses c.cross-else-other-lt0.result (fraction_of p) (fraction_of q) (fraction q.den q.num) (reciprocal-positive q.num q.den above) (λ e. c.if-other-eq0.false (ap (of_z w128) e)) (simp (j.num, j.den, k.num, k.den) at c.cross-else-other-lt0.ensures.value) (simp (j.num, j.den, k.num, k.den) at c.cross-else-other-lt0.ensures.exact) in
    record { value = t.0; exact = t.1 }
