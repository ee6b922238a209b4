use Rattle.std.proofs.Common.{◌≤◌, ◌*◌, ◌/◌, ◌^◌, arith}
use Rattle.std.proofs.Math.Nat.{mul-le-mul, div-le_self}
use Rattle.plain_text.proofs.number.size_of.Goals as goal

pub returns-clause-size : goal.returns-clause-size
returns-clause-size c =
    let f = c.args.f.now in
    let quotient : c.args.d / f.den ≤ 10 ^ 9 = omega (arith, div-le_self c.args.d f.den, c.requires) in
    let numerator : f.num ≤ 10 ^ 18 = omega (arith, f.short_num) in
    let product : f.num * (c.args.d / f.den) ≤ 10 ^ 18 * 10 ^ 9 = mul-le-mul numerator quotient in
    omega (arith, product)
