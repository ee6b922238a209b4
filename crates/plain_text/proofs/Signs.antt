-- Signs of products and quotients, and the parts of the number of a word.
use Rattle.std.proofs.Common.{◌≡◌, ℕ, zero, suc, ◌*◌, ◌/◌, Bool, true, false, List, refl, sym, arith, div-le_self}
use Rattle.std.specs.Prelude.{pos, ◌*ℤ◌, unsigned_abs}
use Rattle.std.proofs.Math.IntN.{negsuc-*ℤ-pos}
use Rattle.numbers.specs.Gcd.{gcd}
use Rattle.numbers.specs.Fraction.{fraction, lowest}
use Rattle.plain_text.specs.NumberWords.{signed, is_negative, word_numerator, word_denominator, number_value}

-- the sign of a product with a positive number
pub signed-mul : (s : Bool) (a d : ℕ) → signed s (a * d) ≡ signed s a *ℤ pos d
signed-mul true zero d = let e : 0 * d ≡ 0 = omega arith in rw e refl
signed-mul true (suc a) d = sym (negsuc-*ℤ-pos a d)
signed-mul false a d = refl

-- the size of a number with a sign
pub signed-size : (s : Bool) (a : ℕ) → unsigned_abs (signed s a) ≡ a
signed-size true zero = refl
signed-size true (suc a) = refl
signed-size false a = refl

-- the lowest terms of a number with a sign
pub lowest-signed : (s : Bool) (a b : ℕ) → lowest (signed s a) (pos b) ≡ fraction (signed s (a / gcd a b)) (pos (b / gcd a b))
unfolding lowest
lowest-signed false a b = refl
lowest-signed true (suc a) b = refl
lowest-signed true zero b = let none : 0 / gcd 0 b ≡ 0 = omega (arith, div-le_self 0 (gcd 0 b)) in rw none refl

-- the number of a word by its sign, its numerator and its denominator
pub number_value-parts : (w : List ℕ) → number_value w ≡ fraction (signed (is_negative w) (word_numerator w / gcd (word_numerator w) (word_denominator w))) (pos (word_denominator w / gcd (word_numerator w) (word_denominator w)))
unfolding number_value
number_value-parts w = lowest-signed (is_negative w) (word_numerator w) (word_denominator w)
