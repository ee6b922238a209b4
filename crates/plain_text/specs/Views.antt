-- What values of the code stand for.
--   fraction_of f     the number of a word that was read
--   blank_test kind   the test for blanks of this kind
--   IsMultiple, Grown m is the least common multiple, of two numbers and of four, and no smaller than they are
use Rattle.std.specs.Prelude.{◌≡◌, ℕ, ◌<◌, ◌≤◌, pos, Bool}
use Rattle.numbers.specs.Gcd.{lcm}
use Rattle.numbers.specs.Fraction.{Fraction}
use Rattle.plain_text.specs.declared.blanks.Blanks.{Blanks}
use Rattle.plain_text.specs.declared.blanks.Blanks.TheVariants.{SpacesAndTabs, Spaces}
use Rattle.plain_text.specs.declared.number_word.NumberWord.{NumberWord}
use Rattle.plain_text.specs.Text.{is_blank, is_space}
use Rattle.plain_text.specs.NumberWords.{signed}

abbrev pub fraction_of : NumberWord → Fraction
fraction_of f = record { numerator = signed f.negative f.num; denominator = pos f.den }

abbrev pub blank_test : Blanks → ℕ → Bool
blank_test SpacesAndTabs = is_blank
blank_test Spaces = is_space

-- m is the least common multiple of a and b
pub record IsMultiple (a b m : ℕ) : Type 0 where
  pub is : m ≡ lcm a b
  pub positive : 0 < m
  pub left : a ≤ m
  pub right : b ≤ m

-- m is the least common multiple of d and three denominators
pub record Grown (d x y z m : ℕ) : Type 0 where
  pub is : m ≡ lcm (lcm (lcm d x) y) z
  pub positive : 0 < m
  pub x_within : x ≤ m
  pub y_within : y ≤ m
  pub z_within : z ≤ m
