use Rattle.std.proofs.Common.{ap, arith, nat_abs}
use Rattle.numbers.proofs.GcdLemmas.{gcd-positive}
use Rattle.plain_text.proofs.print.push_size.Goals as goal

-- the divisor of a positive number is positive
pub nonzero_div-a : goal.nonzero_div-a
nonzero_div-a c = omega (arith, ap nat_abs c.gcd-divisor.ensures.value, gcd-positive c.args.a c.args.b)

pub nonzero_div-b : goal.nonzero_div-b
nonzero_div-b c = omega (arith, ap nat_abs c.gcd-divisor.ensures.value, gcd-positive c.args.a c.args.b)
