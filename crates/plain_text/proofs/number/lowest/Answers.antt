use Rattle.std.proofs.Common.{arith, sym}
use Rattle.std.proofs.Math.Nat.{div-le_self}
use Rattle.numbers.proofs.GcdLemmas.{gcd-positive}
use Rattle.plain_text.proofs.Multiples.{parts-positive}
use Rattle.plain_text.proofs.Signs.{lowest-signed}
use Rattle.plain_text.proofs.number.lowest.Goals as goal

pub nonzero_div-result : goal.nonzero_div-result
nonzero_div-result c = rw c.common_divisor-common.ensures (gcd-positive c.args.a c.args.b c.requires.positive)

pub nonzero_div-result-2 : goal.nonzero_div-result-2
nonzero_div-result-2 c = rw c.common_divisor-common.ensures (gcd-positive c.args.a c.args.b c.requires.positive)

pub invariant_of-result : goal.invariant_of-result
invariant_of-result c = record {
  positive = rw c.common_divisor-common.ensures (parts-positive c.args.a c.args.b c.requires.positive);
  short_num = omega (arith, div-le_self c.args.a c.common_divisor-common.result, c.requires.num);
  short_den = omega (arith, div-le_self c.args.b c.common_divisor-common.result, c.requires.den);
}

pub returns : goal.returns
returns c = rw c.common_divisor-common.ensures (sym (lowest-signed c.args.negative c.args.a c.args.b))
