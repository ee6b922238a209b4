use Rattle.std.proofs.Common.{◌^◌, pos, ◌<ℤ◌, ℤ, subst, arith}
use Rattle.ring.specs.Size.{AtMost}
use Rattle.ring.proofs.Sizes.{at_most_add, at_most_sub, weaken}
use Rattle.lattice_spec.specs.Niggli.{twice}
use Rattle.lattice_reduce.proofs.Dividing.{quotient_small, rounded_up, rounded_down}
use Rattle.lattice_reduce.proofs.number.nearest.Goals as goal

one_small : AtMost 1 (pos 1)
one_small = record { size = omega arith }

pub returns-then-is_less-clause-rest : goal.returns-then-is_less-clause-rest
returns-then-is_less-clause-rest c =
    let parts = c.divide-parts in
    let above = subst (λ (t : ℤ). c.args.a <ℤ t) c.twice-twice_rest.ensures c.if-is_less.ensures in
    rw (c.add.ensures, c.whole.ensures) (rounded_up parts.result.quotient c.args.a parts.result.rest c.args.x parts.ensures.whole parts.ensures.rest above)

pub returns-then-is_less-clause-small : goal.returns-then-is_less-clause-small
returns-then-is_less-clause-small c =
    let parts = c.divide-parts in
    rw (c.add.ensures, c.whole.ensures) (weaken (10 ^ 22) (at_most_add (quotient_small parts.result.quotient c.args.a parts.result.rest c.args.x c.requires.positive c.requires.a_small c.requires.x_small parts.ensures.whole parts.ensures.rest) one_small) tt)

pub returns-then-is_less-2-clause-rest : goal.returns-then-is_less-2-clause-rest
returns-then-is_less-2-clause-rest c =
    let parts = c.divide-parts in
    let below = subst (λ (t : ℤ). t <ℤ c.neg.result) c.twice-twice_rest.ensures c.if-is_less-2.ensures in
    let opposite = subst (λ (t : ℤ). twice parts.result.rest <ℤ t) c.neg.ensures below in
    rw (c.sub.ensures, c.whole-then-is_less-2.ensures) (rounded_down parts.result.quotient c.args.a parts.result.rest c.args.x parts.ensures.whole parts.ensures.rest opposite)

pub returns-then-is_less-2-clause-small : goal.returns-then-is_less-2-clause-small
returns-then-is_less-2-clause-small c =
    let parts = c.divide-parts in
    rw (c.sub.ensures, c.whole-then-is_less-2.ensures) (weaken (10 ^ 22) (at_most_sub (quotient_small parts.result.quotient c.args.a parts.result.rest c.args.x c.requires.positive c.requires.a_small c.requires.x_small parts.ensures.whole parts.ensures.rest) one_small) tt)

pub returns-else-is_less-2-clause-small : goal.returns-else-is_less-2-clause-small
returns-else-is_less-2-clause-small c =
    let parts = c.divide-parts in
    weaken (10 ^ 22) (quotient_small parts.result.quotient c.args.a parts.result.rest c.args.x c.requires.positive c.requires.a_small c.requires.x_small parts.ensures.whole parts.ensures.rest) tt
