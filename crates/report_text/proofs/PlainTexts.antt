-- The texts of numbers in lowest terms are plain ASCII.
use Rattle.std.proofs.Common.{ℕ, zero, suc, ◌/◌, List, [], ◌∷◌, ◌++◌, lit<}
use Rattle.std.specs.Prelude.{ℤ, pos, negsuc, IsAscii}
use Rattle.std.specs.Fmt.{decimal}
use Rattle.std.proofs.lemmas.Str.{IsAscii-append}
use Rattle.std.proofs.lemmas.Str.Ascii.{IsAscii-nil, IsAscii-cons}
use Rattle.numbers.specs.Gcd.{gcd}
use Rattle.plain_text.specs.NumberText.{denominator_text, size_text, number_text, numbers_text}
use Rattle.operation_text.proofs.PlainTexts.{ascii_decimal}

ascii_denominator : (d : ℕ) → IsAscii (denominator_text d)
ascii_denominator zero = IsAscii-nil
ascii_denominator (suc zero) = IsAscii-nil
ascii_denominator (suc (suc d)) = IsAscii-cons 47 (decimal (suc (suc d))) (lit< tt) (ascii_decimal (suc (suc d)))

ascii_size : (a b : ℕ) → IsAscii (size_text a b)
ascii_size a b = IsAscii-append (decimal (a / gcd a b)) (denominator_text (b / gcd a b)) (ascii_decimal (a / gcd a b)) (ascii_denominator (b / gcd a b))

ascii_number : (z : ℤ) (d : ℕ) → IsAscii (number_text z d)
unfolding number_text
ascii_number (pos a) d = ascii_size a d
ascii_number (negsuc a) d = IsAscii-cons 45 (size_text (suc a) d) (lit< tt) (ascii_size (suc a) d)

-- numbers in units of 1/d
pub ascii_numbers : (d : ℕ) (zs : List ℤ) → IsAscii (numbers_text d zs)
ascii_numbers d [] = IsAscii-nil
ascii_numbers d (z ∷ zs) = IsAscii-cons 32 (number_text z d ++ numbers_text d zs) (lit< tt) (IsAscii-append (number_text z d) (numbers_text d zs) (ascii_number z d) (ascii_numbers d zs))
