-- Numbers as they are printed: in lowest terms, as `p` or `p/q` with q of at least 2, behind a `-` where they are negative.
--   number_text z d        z/d in lowest terms
--   numbers_text d zs      these numbers in units of 1/d, each behind a space
-- Reading gives the number back (`number_value` of NumberWords). The digits are std's `decimal`. Our own.
use Rattle.std.specs.Prelude.{ℕ, zero, suc, ◌/◌, ℤ, pos, negsuc, List, [], ◌∷◌, ◌++◌, codes}
use Rattle.std.specs.Fmt.{decimal}
use Rattle.numbers.specs.Gcd.{gcd}

-- a slash and the denominator, or nothing where it is 1
abbrev pub denominator_text : ℕ → List ℕ
denominator_text zero = []
denominator_text (suc zero) = []
denominator_text (suc (suc d)) = codes "/" ++ decimal (suc (suc d))

-- a/b in lowest terms
abbrev pub size_text : ℕ → ℕ → List ℕ
size_text a b = decimal (a / gcd a b) ++ denominator_text (b / gcd a b)

-- z/d in lowest terms
unfoldable pub number_text : ℤ → ℕ → List ℕ
number_text (pos a) d = size_text a d
number_text (negsuc a) d = codes "-" ++ size_text (suc a) d

-- the numbers in units of 1/d, a space before each
abbrev pub numbers_text : ℕ → List ℤ → List ℕ
numbers_text d [] = []
numbers_text d (z ∷ zs) = 32 ∷ number_text z d ++ numbers_text d zs
