use Rattle.std.proofs.Common.{ℕ, ap, sym, eqb, arith}
use Rattle.std.proofs.Math.Nat.{mod-eq_of_lt}
use Rattle.plain_text.proofs.number.is_multiple_of.Goals as goal

-- a number below the unit is its own remainder
pub returns-then-a-unit : goal.returns-then-a-unit
returns-then-a-unit c = ap (λ (r : ℕ). eqb r 0) (sym (mod-eq_of_lt (omega arith)))
