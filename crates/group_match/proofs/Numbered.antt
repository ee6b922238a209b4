-- The matrices of the class by number.
use Rattle.std.proofs.Common.{◌≡◌, refl, ap, ◌∙◌, inl, inr, ℕ, suc, zero, ◌+◌, ◌*◌, ◌/◌, ◌%◌, ◌<◌, ℤ, pos, negsuc, ◌-ℤ◌, ◌≤ℤ◌, ◌<ℤ◌, [], ◌∷◌, arith}
use Rattle.std.proofs.lemmas.Int.{ints}
use Rattle.std.proofs.lemmas.Nat.{div-mul-add}
use Rattle.matrix3.specs.Matrices.{entries, EachEntry}
use Rattle.crystal_spec.specs.Matrices.{Matrix}
use Rattle.crystal_spec.proofs.Entrywise.{matrix_same}
use Rattle.match_spec.specs.FirstMap.{IsBefore, IsEntry, IsClass}
use Rattle.group_match.specs.Candidates.{matrix_of_number}

-- an entry as a digit
record IsDigit (x : ℤ) : Type 0 where
  value : ℕ
  below : value < 3
  is : pos value -ℤ pos 1 ≡ x

digit_of_entry : (x : ℤ) → IsEntry x → IsDigit x
digit_of_entry (negsuc zero) e = record { value = 0; below = omega arith; is = refl }
digit_of_entry (negsuc (suc n)) e = absurd (low_fails n e.low)
  where
    low_fails : (n : ℕ) → negsuc 0 ≤ℤ negsuc (suc n) → ⊥
    low_fails n h = omega (arith, ints, h)
digit_of_entry (pos zero) e = record { value = 1; below = omega arith; is = refl }
digit_of_entry (pos (suc zero)) e = record { value = 2; below = omega arith; is = refl }
digit_of_entry (pos (suc (suc n))) e = absurd (high_fails n e.high)
  where
    high_fails : (n : ℕ) → pos (suc (suc n)) ≤ℤ pos 1 → ⊥
    high_fails n h = omega (arith, ints, h)

-- what nine digits come to
abbrev number : ℕ → ℕ → ℕ → ℕ → ℕ → ℕ → ℕ → ℕ → ℕ → ℕ
number a b c d e f g h i = a * 6561 + b * 2187 + c * 729 + d * 243 + e * 81 + f * 27 + g * 9 + h * 3 + i

-- the digit at the place of p, with m before it and r behind it
digit_at : (n p m d r : ℕ) → n ≡ (m * 3 + d) * p + r → r < p → d < 3 → n / p % 3 ≡ d
digit_at n p m d r e below small =
    ap (λ (k : ℕ). k / p % 3) e ∙ (ap (λ (k : ℕ). k % 3) (div-mul-add (m * 3 + d) p r below) ∙ last m d small)
  where
    last : (m d : ℕ) → d < 3 → (m * 3 + d) % 3 ≡ d
    last m d h = omega (arith, h)

module _ (a b c d e f g h i : ℕ) (ha : a < 3) (hb : b < 3) (hc : c < 3) (hd : d < 3) (he : e < 3) (hf : f < 3) (hg : g < 3) (hh : h < 3) (hi : i < 3) where
  n : ℕ
  n = number a b c d e f g h i

  n_below : n < 19683
  unfolding n
  n_below = omega (arith, ha, hb, hc, hd, he, hf, hg, hh, hi)

  place_a : n / 6561 % 3 ≡ a
  unfolding n
  place_a = digit_at n 6561 (0) a (b * 2187 + c * 729 + d * 243 + e * 81 + f * 27 + g * 9 + h * 3 + i) (omega arith) (omega (arith, hb, hc, hd, he, hf, hg, hh, hi)) ha

  place_b : n / 2187 % 3 ≡ b
  unfolding n
  place_b = digit_at n 2187 (a) b (c * 729 + d * 243 + e * 81 + f * 27 + g * 9 + h * 3 + i) (omega arith) (omega (arith, hc, hd, he, hf, hg, hh, hi)) hb

  place_c : n / 729 % 3 ≡ c
  unfolding n
  place_c = digit_at n 729 (a * 3 + b) c (d * 243 + e * 81 + f * 27 + g * 9 + h * 3 + i) (omega arith) (omega (arith, hd, he, hf, hg, hh, hi)) hc

  place_d : n / 243 % 3 ≡ d
  unfolding n
  place_d = digit_at n 243 (a * 9 + b * 3 + c) d (e * 81 + f * 27 + g * 9 + h * 3 + i) (omega arith) (omega (arith, he, hf, hg, hh, hi)) hd

  place_e : n / 81 % 3 ≡ e
  unfolding n
  place_e = digit_at n 81 (a * 27 + b * 9 + c * 3 + d) e (f * 27 + g * 9 + h * 3 + i) (omega arith) (omega (arith, hf, hg, hh, hi)) he

  place_f : n / 27 % 3 ≡ f
  unfolding n
  place_f = digit_at n 27 (a * 81 + b * 27 + c * 9 + d * 3 + e) f (g * 9 + h * 3 + i) (omega arith) (omega (arith, hg, hh, hi)) hf

  place_g : n / 9 % 3 ≡ g
  unfolding n
  place_g = digit_at n 9 (a * 243 + b * 81 + c * 27 + d * 9 + e * 3 + f) g (h * 3 + i) (omega arith) (omega (arith, hh, hi)) hg

  place_h : n / 3 % 3 ≡ h
  unfolding n
  place_h = digit_at n 3 (a * 729 + b * 243 + c * 81 + d * 27 + e * 9 + f * 3 + g) h (i) (omega arith) (omega (arith, hi)) hh

  place_i : n / 1 % 3 ≡ i
  unfolding n
  place_i = digit_at n 1 (a * 2187 + b * 729 + c * 243 + d * 81 + e * 27 + f * 9 + g * 3 + h) i (0) (omega arith) (omega (arith)) hi

-- the digits of a matrix of the class
record HasNumber (m : Matrix) : Type 0 where
  a : IsDigit m.a11
  b : IsDigit m.a12
  c : IsDigit m.a13
  d : IsDigit m.a21
  e : IsDigit m.a22
  f : IsDigit m.a23
  g : IsDigit m.a31
  h : IsDigit m.a32
  i : IsDigit m.a33

digits_of : (c : Matrix) → EachEntry IsEntry c → HasNumber c
digits_of c e = record { a = digit_of_entry c.a11 e.a11; b = digit_of_entry c.a12 e.a12; c = digit_of_entry c.a13 e.a13; d = digit_of_entry c.a21 e.a21; e = digit_of_entry c.a22 e.a22; f = digit_of_entry c.a23 e.a23; g = digit_of_entry c.a31 e.a31; h = digit_of_entry c.a32 e.a32; i = digit_of_entry c.a33 e.a33 }

number_in : (c : Matrix) → HasNumber c → ℕ
number_in c k = number k.a.value k.b.value k.c.value k.d.value k.e.value k.f.value k.g.value k.h.value k.i.value

-- the number of a matrix of the class
pub number_of : (c : Matrix) → IsClass c → ℕ
number_of c ic = number_in c (digits_of c ic.small)

below_in : (c : Matrix) (k : HasNumber c) → number_in c k < 19683
unfolding number_in n
below_in c k = n_below k.a.value k.b.value k.c.value k.d.value k.e.value k.f.value k.g.value k.h.value k.i.value k.a.below k.b.below k.c.below k.d.below k.e.below k.f.below k.g.below k.h.below k.i.below

matrix_in : (c : Matrix) (k : HasNumber c) → matrix_of_number (number_in c k) ≡ c
unfolding number_in n
matrix_in c k = matrix_same
    (ap (λ (v : ℕ). pos v -ℤ pos 1) (place_a k.a.value k.b.value k.c.value k.d.value k.e.value k.f.value k.g.value k.h.value k.i.value k.a.below k.b.below k.c.below k.d.below k.e.below k.f.below k.g.below k.h.below k.i.below) ∙ k.a.is)
    (ap (λ (v : ℕ). pos v -ℤ pos 1) (place_b k.a.value k.b.value k.c.value k.d.value k.e.value k.f.value k.g.value k.h.value k.i.value k.a.below k.b.below k.c.below k.d.below k.e.below k.f.below k.g.below k.h.below k.i.below) ∙ k.b.is)
    (ap (λ (v : ℕ). pos v -ℤ pos 1) (place_c k.a.value k.b.value k.c.value k.d.value k.e.value k.f.value k.g.value k.h.value k.i.value k.a.below k.b.below k.c.below k.d.below k.e.below k.f.below k.g.below k.h.below k.i.below) ∙ k.c.is)
    (ap (λ (v : ℕ). pos v -ℤ pos 1) (place_d k.a.value k.b.value k.c.value k.d.value k.e.value k.f.value k.g.value k.h.value k.i.value k.a.below k.b.below k.c.below k.d.below k.e.below k.f.below k.g.below k.h.below k.i.below) ∙ k.d.is)
    (ap (λ (v : ℕ). pos v -ℤ pos 1) (place_e k.a.value k.b.value k.c.value k.d.value k.e.value k.f.value k.g.value k.h.value k.i.value k.a.below k.b.below k.c.below k.d.below k.e.below k.f.below k.g.below k.h.below k.i.below) ∙ k.e.is)
    (ap (λ (v : ℕ). pos v -ℤ pos 1) (place_f k.a.value k.b.value k.c.value k.d.value k.e.value k.f.value k.g.value k.h.value k.i.value k.a.below k.b.below k.c.below k.d.below k.e.below k.f.below k.g.below k.h.below k.i.below) ∙ k.f.is)
    (ap (λ (v : ℕ). pos v -ℤ pos 1) (place_g k.a.value k.b.value k.c.value k.d.value k.e.value k.f.value k.g.value k.h.value k.i.value k.a.below k.b.below k.c.below k.d.below k.e.below k.f.below k.g.below k.h.below k.i.below) ∙ k.g.is)
    (ap (λ (v : ℕ). pos v -ℤ pos 1) (place_h k.a.value k.b.value k.c.value k.d.value k.e.value k.f.value k.g.value k.h.value k.i.value k.a.below k.b.below k.c.below k.d.below k.e.below k.f.below k.g.below k.h.below k.i.below) ∙ k.h.is)
    (ap (λ (v : ℕ). pos v -ℤ pos 1) (place_i k.a.value k.b.value k.c.value k.d.value k.e.value k.f.value k.g.value k.h.value k.i.value k.a.below k.b.below k.c.below k.d.below k.e.below k.f.below k.g.below k.h.below k.i.below) ∙ k.i.is)

pub number_below : (c : Matrix) (ic : IsClass c) → number_of c ic < 19683
unfolding number_of
number_below c ic = below_in c (digits_of c ic.small)

pub matrix-number : (c : Matrix) (ic : IsClass c) → matrix_of_number (number_of c ic) ≡ c
unfolding number_of
matrix-number c ic = matrix_in c (digits_of c ic.small)

-- the matrix of a number has entries of the class
pub entries_of_number : (j : ℕ) → EachEntry IsEntry (matrix_of_number j)
entries_of_number j = record { a11 = entry (j / 6561); a12 = entry (j / 2187); a13 = entry (j / 729); a21 = entry (j / 243); a22 = entry (j / 81); a23 = entry (j / 27); a31 = entry (j / 9); a32 = entry (j / 3); a33 = entry (j / 1) }
  where
    entry : (m : ℕ) → IsEntry (pos (m % 3) -ℤ pos 1)
    entry m = record { low = omega (arith, ints); high = omega (arith, ints) }

-- ---- the order of numbers is that of the matrices

-- a number below 3 to the ninth is what its digits come to
digits_make : (j : ℕ) → j < 19683 → j ≡ j / 6561 % 3 * 6561 + j / 2187 % 3 * 2187 + j / 729 % 3 * 729 + j / 243 % 3 * 243 + j / 81 % 3 * 81 + j / 27 % 3 * 27 + j / 9 % 3 * 9 + j / 3 % 3 * 3 + j / 1 % 3
digits_make j h = omega (arith, h)

digit_less : (x y : ℕ) → (pos x -ℤ pos 1) <ℤ (pos y -ℤ pos 1) → x < y
digit_less x y h = omega (arith, ints, h)

digit_same : (x y : ℕ) → pos x -ℤ pos 1 ≡ pos y -ℤ pos 1 → x ≡ y
digit_same x y h = omega (arith, ints, h)

ordered : (a b c d e f g h i a' b' c' d' e' f' g' h' i' : ℕ) → a < 3 → b < 3 → c < 3 → d < 3 → e < 3 → f < 3 → g < 3 → h < 3 → i < 3 → IsBefore ((pos a -ℤ pos 1) ∷ (pos b -ℤ pos 1) ∷ (pos c -ℤ pos 1) ∷ (pos d -ℤ pos 1) ∷ (pos e -ℤ pos 1) ∷ (pos f -ℤ pos 1) ∷ (pos g -ℤ pos 1) ∷ (pos h -ℤ pos 1) ∷ (pos i -ℤ pos 1) ∷ []) ((pos a' -ℤ pos 1) ∷ (pos b' -ℤ pos 1) ∷ (pos c' -ℤ pos 1) ∷ (pos d' -ℤ pos 1) ∷ (pos e' -ℤ pos 1) ∷ (pos f' -ℤ pos 1) ∷ (pos g' -ℤ pos 1) ∷ (pos h' -ℤ pos 1) ∷ (pos i' -ℤ pos 1) ∷ []) → number a b c d e f g h i < number a' b' c' d' e' f' g' h' i'
ordered a b c d e f g h i a' b' c' d' e' f' g' h' i' ka kb kc kd ke kf kg kh ki (inl lt) =
    omega (arith, digit_less a a' lt, kb, kc, kd, ke, kf, kg, kh, ki)
ordered a b c d e f g h i a' b' c' d' e' f' g' h' i' ka kb kc kd ke kf kg kh ki (inr (ea, (inl lt))) =
    omega (arith, digit_same a a' ea, digit_less b b' lt, kc, kd, ke, kf, kg, kh, ki)
ordered a b c d e f g h i a' b' c' d' e' f' g' h' i' ka kb kc kd ke kf kg kh ki (inr (ea, (inr (eb, (inl lt))))) =
    omega (arith, digit_same a a' ea, digit_same b b' eb, digit_less c c' lt, kd, ke, kf, kg, kh, ki)
ordered a b c d e f g h i a' b' c' d' e' f' g' h' i' ka kb kc kd ke kf kg kh ki (inr (ea, (inr (eb, (inr (ec, (inl lt))))))) =
    omega (arith, digit_same a a' ea, digit_same b b' eb, digit_same c c' ec, digit_less d d' lt, ke, kf, kg, kh, ki)
ordered a b c d e f g h i a' b' c' d' e' f' g' h' i' ka kb kc kd ke kf kg kh ki (inr (ea, (inr (eb, (inr (ec, (inr (ed, (inl lt))))))))) =
    omega (arith, digit_same a a' ea, digit_same b b' eb, digit_same c c' ec, digit_same d d' ed, digit_less e e' lt, kf, kg, kh, ki)
ordered a b c d e f g h i a' b' c' d' e' f' g' h' i' ka kb kc kd ke kf kg kh ki (inr (ea, (inr (eb, (inr (ec, (inr (ed, (inr (ee, (inl lt))))))))))) =
    omega (arith, digit_same a a' ea, digit_same b b' eb, digit_same c c' ec, digit_same d d' ed, digit_same e e' ee, digit_less f f' lt, kg, kh, ki)
ordered a b c d e f g h i a' b' c' d' e' f' g' h' i' ka kb kc kd ke kf kg kh ki (inr (ea, (inr (eb, (inr (ec, (inr (ed, (inr (ee, (inr (ef, (inl lt))))))))))))) =
    omega (arith, digit_same a a' ea, digit_same b b' eb, digit_same c c' ec, digit_same d d' ed, digit_same e e' ee, digit_same f f' ef, digit_less g g' lt, kh, ki)
ordered a b c d e f g h i a' b' c' d' e' f' g' h' i' ka kb kc kd ke kf kg kh ki (inr (ea, (inr (eb, (inr (ec, (inr (ed, (inr (ee, (inr (ef, (inr (eg, (inl lt))))))))))))))) =
    omega (arith, digit_same a a' ea, digit_same b b' eb, digit_same c c' ec, digit_same d d' ed, digit_same e e' ee, digit_same f f' ef, digit_same g g' eg, digit_less h h' lt, ki)
ordered a b c d e f g h i a' b' c' d' e' f' g' h' i' ka kb kc kd ke kf kg kh ki (inr (ea, (inr (eb, (inr (ec, (inr (ed, (inr (ee, (inr (ef, (inr (eg, (inr (eh, (inl lt))))))))))))))))) =
    omega (arith, digit_same a a' ea, digit_same b b' eb, digit_same c c' ec, digit_same d d' ed, digit_same e e' ee, digit_same f f' ef, digit_same g g' eg, digit_same h h' eh, digit_less i i' lt)
ordered a b c d e f g h i a' b' c' d' e' f' g' h' i' ka kb kc kd ke kf kg kh ki (inr (ea, (inr (eb, (inr (ec, (inr (ed, (inr (ee, (inr (ef, (inr (eg, (inr (eh, (inr (ei, none)))))))))))))))))) = absurd none

-- a number before another in the order of matrices is less
pub number_before : (j n : ℕ) → j < 19683 → n < 19683 → IsBefore (entries (matrix_of_number j)) (entries (matrix_of_number n)) → j < n
number_before j n hj hn h =
    omega (arith, digits_make j hj, digits_make n hn, ordered (j / 6561 % 3) (j / 2187 % 3) (j / 729 % 3) (j / 243 % 3) (j / 81 % 3) (j / 27 % 3) (j / 9 % 3) (j / 3 % 3) (j / 1 % 3) (n / 6561 % 3) (n / 2187 % 3) (n / 729 % 3) (n / 243 % 3) (n / 81 % 3) (n / 27 % 3) (n / 9 % 3) (n / 3 % 3) (n / 1 % 3) (omega arith) (omega arith) (omega arith) (omega arith) (omega arith) (omega arith) (omega arith) (omega arith) (omega arith) h)
