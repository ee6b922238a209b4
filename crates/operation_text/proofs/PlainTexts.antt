-- The texts of integers and of operations are plain ASCII.
use Rattle.std.proofs.Common.{ℕ, zero, suc, ◌+◌, ◌/◌, ◌%◌, ◌<◌, List, [], ◌∷◌, ◌++◌, Bool, true, false, if◌then◌else◌, arith, lit<}
use Rattle.std.specs.Prelude.{ℤ, pos, negsuc, nat_abs, ◌&&◌, IsAscii, codes, ◌==◌, nat_lt}
use Rattle.std.specs.Fmt.{decimal, signed_decimal, digits, digits_onto, digit_glyph}
use Rattle.std.proofs.lemmas.Str.{IsAscii-append}
use Rattle.std.proofs.lemmas.Str.Ascii.{IsAscii-nil, IsAscii-cons}
use Rattle.numbers.specs.Gcd.{gcd}
use Rattle.crystal_spec.specs.declared.Sign.{Sign}
use Rattle.crystal_spec.specs.declared.Sign.TheVariants.{Same, Reversed}
use Rattle.crystal_spec.specs.Operations.{Operation}
use Rattle.crystal_spec.specs.Matrices.{Matrix}
use Rattle.operation_text.specs.OperationText.{plus_text, term_text, terms_text, is_zero, fraction_text, row_text, sign_text, parts_text}
use Rattle.operation_text.specs.EntryText.{integers_text, entries_text}

-- one byte
ascii_byte : (b : ℕ) → b < 128 → IsAscii (b ∷ [])
ascii_byte b h = IsAscii-cons b [] h IsAscii-nil

-- a digit in base 10
glyph_by : (b : Bool) (d : ℕ) → d < 10 → (if b then 48 + d else 87 + d) < 128
glyph_by true d h = omega (arith, h)
glyph_by false d h = omega (arith, h)

ascii_glyph : (n : ℕ) → digit_glyph false (n % 10) < 128
ascii_glyph n = glyph_by (nat_lt (n % 10) 10) (n % 10) (omega arith)

either_by : (b : Bool) (xs ys : List ℕ) → IsAscii xs → IsAscii ys → IsAscii (if b then xs else ys)
either_by true xs ys h k = h
either_by false xs ys h k = k

ascii_digits_onto : (k n : ℕ) (acc : List ℕ) → IsAscii acc → IsAscii (digits_onto k 10 false n acc)
ascii_digits_onto zero n acc h = h
ascii_digits_onto (suc k) n acc h =
    let more = IsAscii-cons (digit_glyph false (n % 10)) acc (ascii_glyph n) h in
    either_by (n / 10 == 0) (digit_glyph false (n % 10) ∷ acc) (digits_onto k 10 false (n / 10) (digit_glyph false (n % 10) ∷ acc)) more (ascii_digits_onto k (n / 10) (digit_glyph false (n % 10) ∷ acc) more)

-- a number in decimal
pub ascii_decimal : (n : ℕ) → IsAscii (decimal n)
unfolding digits
ascii_decimal n = ascii_digits_onto 64 n [] IsAscii-nil

ascii_signed : (z : ℤ) → IsAscii (signed_decimal z)
ascii_signed (pos n) = ascii_decimal n
ascii_signed (negsuc n) = IsAscii-cons 45 (decimal (suc n)) (lit< tt) (ascii_decimal (suc n))

-- ---- rows of integers

ascii_integers : (zs : List ℤ) → IsAscii (integers_text zs)
ascii_integers [] = IsAscii-nil
ascii_integers (z ∷ zs) = IsAscii-cons 32 (signed_decimal z ++ integers_text zs) (lit< tt) (IsAscii-append (signed_decimal z) (integers_text zs) (ascii_signed z) (ascii_integers zs))

-- the entries of a matrix
pub ascii_entries : (q : Matrix) → IsAscii (entries_text q)
ascii_entries q = ascii_integers (q.a11 ∷ q.a12 ∷ q.a13 ∷ q.a21 ∷ q.a22 ∷ q.a23 ∷ q.a31 ∷ q.a32 ∷ q.a33 ∷ [])

-- ---- operations

ascii_plus : (is_first : Bool) → IsAscii (plus_text is_first)
ascii_plus true = IsAscii-nil
ascii_plus false = ascii_byte 43 (lit< tt)

-- a number and a letter
ascii_counted : (front : List ℕ) (n letter : ℕ) → letter < 128 → IsAscii front → IsAscii (front ++ decimal n ++ letter ∷ [])
ascii_counted front n letter h k = IsAscii-append (front ++ decimal n) (letter ∷ []) (IsAscii-append front (decimal n) k (ascii_decimal n)) (ascii_byte letter h)

ascii_term : (is_first : Bool) (c : ℤ) (letter : ℕ) → letter < 128 → IsAscii (term_text is_first c letter)
ascii_term is_first (pos zero) letter h = IsAscii-nil
ascii_term is_first (pos (suc zero)) letter h = IsAscii-append (plus_text is_first) (letter ∷ []) (ascii_plus is_first) (ascii_byte letter h)
ascii_term is_first (pos (suc (suc n))) letter h = ascii_counted (plus_text is_first) (suc (suc n)) letter h (ascii_plus is_first)
ascii_term is_first (negsuc zero) letter h = IsAscii-append (45 ∷ []) (letter ∷ []) (ascii_byte 45 (lit< tt)) (ascii_byte letter h)
ascii_term is_first (negsuc (suc n)) letter h = ascii_counted (45 ∷ []) (suc (suc n)) letter h (ascii_byte 45 (lit< tt))

ascii_terms : (x y z : ℤ) → IsAscii (terms_text x y z)
ascii_terms x y z =
    IsAscii-append (term_text true x 120 ++ term_text (is_zero x) y 121) (term_text (is_zero x && is_zero y) z 122) (IsAscii-append (term_text true x 120) (term_text (is_zero x) y 121) (ascii_term true x 120 (lit< tt)) (ascii_term (is_zero x) y 121 (lit< tt)))
    (ascii_term (is_zero x && is_zero y) z 122 (lit< tt))

-- a plus, a number, a slash and a number
ascii_quotient : (p q : ℕ) → IsAscii (codes "+" ++ decimal p ++ codes "/" ++ decimal q)
ascii_quotient p q =
    IsAscii-append (codes "+" ++ decimal p ++ codes "/") (decimal q) (IsAscii-append (codes "+" ++ decimal p) (codes "/") (IsAscii-append (codes "+") (decimal p) (ascii_byte 43 (lit< tt)) (ascii_decimal p)) (ascii_byte 47 (lit< tt))) (ascii_decimal q)

ascii_fraction : (n t : ℕ) → IsAscii (fraction_text n t)
ascii_fraction n zero = IsAscii-nil
ascii_fraction n (suc t) = ascii_quotient (suc t / gcd (suc t) n) (n / gcd (suc t) n)

ascii_row : (n : ℕ) (x y z t : ℤ) → IsAscii (row_text n x y z t)
ascii_row n x y z t = IsAscii-append (terms_text x y z) (fraction_text n (nat_abs t)) (ascii_terms x y z) (ascii_fraction n (nat_abs t))

ascii_sign : (s : Sign) → IsAscii (sign_text s)
ascii_sign Same = IsAscii-cons 43 (49 ∷ []) (lit< tt) (ascii_byte 49 (lit< tt))
ascii_sign Reversed = IsAscii-cons 45 (49 ∷ []) (lit< tt) (ascii_byte 49 (lit< tt))

-- texts, a part and a comma
ascii_comma : (front part : List ℕ) → IsAscii front → IsAscii part → IsAscii (front ++ part ++ codes ",")
ascii_comma front part f p = IsAscii-append (front ++ part) (codes ",") (IsAscii-append front part f p) (ascii_byte 44 (lit< tt))

-- three parts, each with a comma, and a sign
ascii_four : (r1 r2 r3 s : List ℕ) → IsAscii r1 → IsAscii r2 → IsAscii r3 → IsAscii s → IsAscii (r1 ++ codes "," ++ r2 ++ codes "," ++ r3 ++ codes "," ++ s)
ascii_four r1 r2 r3 s p1 p2 p3 ps =
    IsAscii-append (r1 ++ codes "," ++ r2 ++ codes "," ++ r3 ++ codes ",") s
    (ascii_comma (r1 ++ codes "," ++ r2 ++ codes ",") r3 (ascii_comma (r1 ++ codes ",") r2 (ascii_comma [] r1 IsAscii-nil p1) p2) p3) ps

-- the four parts of an operation
pub ascii_parts : (n : ℕ) (o : Operation) → IsAscii (parts_text n o)
unfolding parts_text
ascii_parts n o =
    ascii_four _ _ _ _ (ascii_row n o.matrix.a11 o.matrix.a12 o.matrix.a13 o.translation.x) (ascii_row n o.matrix.a21 o.matrix.a22 o.matrix.a23 o.translation.y) (ascii_row n o.matrix.a31 o.matrix.a32 o.matrix.a33 o.translation.z) (ascii_sign o.sign)
