-- An origin shift of three fractions over one denominator.
--   DenominatorsDivide f k   k is a multiple of the denominators
--   IsOrigin f o             the fractions are those of o: shift / parts
use Rattle.std.specs.Prelude.{◌≡◌, ℕ, pos, ◌*ℤ◌, ◌<ℤ◌, ◌^◌, unsigned_abs}
use Rattle.std.specs.Int.{◌∣◌}
use Rattle.ring.specs.Size.{AtMost}
use Rattle.matrix3.specs.declared.vector.Vec3.{Vec3}
use Rattle.exact_num.specs.Meanings.{fraction_of}
use Rattle.exact_num.specs.declared.frac.Frac.{Frac}
use Rattle.standard_cell.specs.declared.origin.Origin.{Origin}

-- each denominator divides k
pub record DenominatorsDivide (f : Vec3 Frac) (k : ℕ) : Type 0 where
  pub x : unsigned_abs (fraction_of f.x).denominator ∣ k
  pub y : unsigned_abs (fraction_of f.y).denominator ∣ k
  pub z : unsigned_abs (fraction_of f.z).denominator ∣ k

-- the denominator is from 1 to 10^12
pub record IsOrigin (f : Vec3 Frac) (o : Origin) : Type 0 where
  pub x : o.shift.x *ℤ (fraction_of f.x).denominator ≡ (fraction_of f.x).numerator *ℤ o.parts
  pub y : o.shift.y *ℤ (fraction_of f.y).denominator ≡ (fraction_of f.y).numerator *ℤ o.parts
  pub z : o.shift.z *ℤ (fraction_of f.z).denominator ≡ (fraction_of f.z).numerator *ℤ o.parts
  pub positive : pos 0 <ℤ o.parts
  pub small : AtMost (10 ^ 12) o.parts
