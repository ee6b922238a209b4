-- Digits and their value.
--   is_digits part       one or more of `0` to `9`, and nothing else
--   value_of_digits ds   the number that digits spell to base ten
--   is_count word        1 to 9 digits, and nothing else
--   count_of word        their value, or None where it is not that
-- std's word `decimal` goes the other way: the digits of a number.
use Rattle.std.specs.Prelude.{ℕ, ◌+◌, ◌-◌, ◌*◌, Bool, not, ◌==◌, ◌&&◌, nat_le, List, length, if◌then◌else◌}
use Rattle.std.specs.List.{fold, list_all}
use Rattle.std.specs.declared.option.Option.{Option}
use Rattle.std.specs.declared.option.Option.TheVariants.{Some, None}

-- `0` to `9`
abbrev pub is_digit : ℕ → Bool
is_digit b = nat_le 48 b && nat_le b 57

-- one or more digits
abbrev pub is_digits : List ℕ → Bool
is_digits part = not (length part == 0) && list_all is_digit part

-- the digits as a number to base ten
abbrev pub value_of_digits : List ℕ → ℕ
value_of_digits digits = fold (λ n b. 10 * n + (b - 48)) 0 digits

-- 1 to 9 digits, and nothing else
abbrev pub is_count : List ℕ → Bool
is_count word = is_digits word && nat_le (length word) 9

-- the value of 1 to 9 digits
abbrev pub count_of : List ℕ → Option ℕ
count_of word = if is_count word then Some (value_of_digits word) else None
