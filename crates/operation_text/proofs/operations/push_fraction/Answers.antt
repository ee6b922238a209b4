use Rattle.std.proofs.Common.{ap, arith, nat_abs}
use Rattle.numbers.proofs.GcdLemmas.{gcd-swap, gcd-positive}
use Rattle.operation_text.proofs.operations.push_fraction.Goals as goal

-- a translation that is not 0 has a positive common divisor with n
pub nonzero_div-t : goal.nonzero_div-t
nonzero_div-t c = omega (arith, ap nat_abs c.gcd-divisor.ensures.value, gcd-swap c.args.t c.args.n, gcd-positive c.args.n c.args.t)

pub nonzero_div-n : goal.nonzero_div-n
nonzero_div-n c = omega (arith, ap nat_abs c.gcd-divisor.ensures.value, gcd-swap c.args.t c.args.n, gcd-positive c.args.n c.args.t)
