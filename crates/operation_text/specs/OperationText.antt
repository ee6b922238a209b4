-- The text of symmetry operations, one line an operation. A line is four parts, joined by commas, and LF at the end:
-- the image of the position x, y, z, one part a coordinate, and the time sign, +1 or -1. The part of a coordinate is
-- the sum of its terms in x, y and z in this order, and then its translation. A term of coefficient 0 is left out,
-- 1 and -1 are a bare sign, others stand in decimal before the letter, and no plus stands before the first term. A
-- translation of t/n follows, where it is not 0, as a plus and the fraction in lowest terms: `-7x-50y`, `x+7y+2/3`.
--   term_text is_first c letter     the term of coefficient c
--   fraction_text n t               t/n in lowest terms, behind a plus
--   row_text n x y z t              the part of a coordinate, of these coefficients and this translation
--   sign_text s                     the time sign
--   parts_text n o                  the four parts of an operation, joined by commas
--   operation_text n o              the line of an operation
--   operations_text l               the lines of the operations of a list, in order
use Rattle.std.specs.Prelude.{ℕ, zero, suc, ◌/◌, ℤ, pos, negsuc, nat_abs, Bool, true, false, List, [], ◌∷◌, ◌++◌, ◌&&◌, codes}
use Rattle.std.specs.Fmt.{decimal}
use Rattle.numbers.specs.Gcd.{gcd}
use Rattle.crystal_spec.specs.declared.Sign.{Sign}
use Rattle.crystal_spec.specs.declared.Sign.TheVariants.{Same, Reversed}
use Rattle.crystal_spec.specs.Operations.{Operation}
use Rattle.op_group.specs.Lists.{OperationList}

-- a plus, but not before the first term
abbrev pub plus_text : Bool → List ℕ
plus_text true = []
plus_text false = codes "+"

-- a coefficient and its letter: nothing for 0, a bare sign for 1 and -1
abbrev pub term_text : Bool → ℤ → ℕ → List ℕ
term_text is_first (pos zero) letter = []
term_text is_first (pos (suc zero)) letter = plus_text is_first ++ letter ∷ []
term_text is_first (pos (suc (suc n))) letter = plus_text is_first ++ decimal (suc (suc n)) ++ letter ∷ []
term_text is_first (negsuc zero) letter = codes "-" ++ letter ∷ []
term_text is_first (negsuc (suc n)) letter = codes "-" ++ decimal (suc (suc n)) ++ letter ∷ []

abbrev pub is_zero : ℤ → Bool
is_zero (pos zero) = true
is_zero (pos (suc n)) = false
is_zero (negsuc n) = false

-- the sum of the terms in x, y and z
abbrev pub terms_text : ℤ → ℤ → ℤ → List ℕ
terms_text x y z = term_text true x 120 ++ term_text (is_zero x) y 121 ++ term_text (is_zero x && is_zero y) z 122

-- a plus, numerator, slash and denominator of t/n in lowest terms; nothing for 0
abbrev pub fraction_text : ℕ → ℕ → List ℕ
fraction_text n zero = []
fraction_text n (suc t) = codes "+" ++ decimal (suc t / gcd (suc t) n) ++ codes "/" ++ decimal (n / gcd (suc t) n)

-- the terms and the translation, which is at least 0
abbrev pub row_text : ℕ → ℤ → ℤ → ℤ → ℤ → List ℕ
row_text n x y z t = terms_text x y z ++ fraction_text n (nat_abs t)

abbrev pub sign_text : Sign → List ℕ
sign_text Same = codes "+1"
sign_text Reversed = codes "-1"

-- the four parts, joined by commas
unfoldable pub parts_text : ℕ → Operation → List ℕ
parts_text n o =
    row_text n o.matrix.a11 o.matrix.a12 o.matrix.a13 o.translation.x ++ codes ","
    ++ row_text n o.matrix.a21 o.matrix.a22 o.matrix.a23 o.translation.y ++ codes ","
    ++ row_text n o.matrix.a31 o.matrix.a32 o.matrix.a33 o.translation.z ++ codes ","
    ++ sign_text o.sign

-- the parts, and LF
abbrev pub operation_text : ℕ → Operation → List ℕ
operation_text n o = parts_text n o ++ 10 ∷ []

-- the lines of these operations
abbrev pub lines_text : ℕ → List Operation → List ℕ
lines_text n [] = []
lines_text n (o ∷ os) = operation_text n o ++ lines_text n os

abbrev pub operations_text : OperationList → List ℕ
operations_text l = lines_text l.n l.operations
