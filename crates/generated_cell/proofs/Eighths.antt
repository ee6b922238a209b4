-- The number words i/8, as they stand.
use Rattle.std.proofs.Common.{◌≡◌, ℕ, zero, suc, ◌+◌, ◌<◌, true, None, List, [], ◌∷◌, ◌++◌, length, refl, ap, subst, sym, ◌∙◌, arith}
use Rattle.std.specs.Prelude.{pos, ◌==◌, codes}
use Rattle.std.specs.List.{list_all}
use Rattle.std.proofs.lemmas.Bool.{eqb-true}
use Rattle.std.proofs.lemmas.Fmt.{decimal_digit}
use Rattle.numbers.specs.Gcd.{gcd}
use Rattle.numbers.specs.Fraction.{Fraction, lowest}
use Rattle.numbers.specs.Residue.{residue}
use Rattle.plain_text.specs.declared.number_form.NumberForm.TheVariants as forms
use Rattle.plain_text.specs.NumberWords.{number_fault, number_value, scaled, is_same_modulo_1}
use Rattle.plain_text.proofs.NumberWords.{reduced, is_word_byte, IsWord}
use Rattle.generated_cell.specs.GeneratedText.{eighths}

-- what holds of 0 to 7
each : (P : ℕ → Type 0) → P 0 → P 1 → P 2 → P 3 → P 4 → P 5 → P 6 → P 7 → (i : ℕ) → i < 8 → P i
each P p0 p1 p2 p3 p4 p5 p6 p7 zero h = p0
each P p0 p1 p2 p3 p4 p5 p6 p7 (suc zero) h = p1
each P p0 p1 p2 p3 p4 p5 p6 p7 (suc (suc zero)) h = p2
each P p0 p1 p2 p3 p4 p5 p6 p7 (suc (suc (suc zero))) h = p3
each P p0 p1 p2 p3 p4 p5 p6 p7 (suc (suc (suc (suc zero)))) h = p4
each P p0 p1 p2 p3 p4 p5 p6 p7 (suc (suc (suc (suc (suc zero))))) h = p5
each P p0 p1 p2 p3 p4 p5 p6 p7 (suc (suc (suc (suc (suc (suc zero)))))) h = p6
each P p0 p1 p2 p3 p4 p5 p6 p7 (suc (suc (suc (suc (suc (suc (suc zero))))))) h = p7
each P p0 p1 p2 p3 p4 p5 p6 p7 (suc (suc (suc (suc (suc (suc (suc (suc i)))))))) h = absurd (omega arith)

-- ---- the word

-- the bytes of i/8
abbrev spelled : ℕ → List ℕ
spelled i = (48 + i) ∷ 47 ∷ 56 ∷ []

eighths-spelled : (i : ℕ) → i < 8 → spelled i ≡ eighths i
eighths-spelled i h = ap (λ (w : List ℕ). w ++ codes "/8") (sym (decimal_digit i (omega arith)))

spelled-is_word : (i : ℕ) → i < 8 → IsWord (spelled i)
spelled-is_word i h = record { some = omega arith; bytes = each (λ (d : ℕ). list_all is_word_byte (spelled d) ≡ true) refl refl refl refl refl refl refl refl i h }

-- It is a word.
pub eighths-is_word : (i : ℕ) → i < 8 → IsWord (eighths i)
eighths-is_word i h = subst IsWord (eighths-spelled i h) (spelled-is_word i h)

-- It has three bytes.
pub eighths-length : (i : ℕ) → i < 8 → length (eighths i) ≡ 3
eighths-length i h = sym (ap length (eighths-spelled i h))

-- ---- the number

-- i/8 in lowest terms
abbrev pub eighth : ℕ → Fraction
eighth i = reduced 8 (pos i)

spelled-no_fault : (i : ℕ) → i < 8 → number_fault forms.Fraction (spelled i) ≡ None
unfolding number_fault
spelled-no_fault i h = each (λ (d : ℕ). number_fault forms.Fraction (spelled d) ≡ None) refl refl refl refl refl refl refl refl i h

-- It spells a number.
pub eighths-no_fault : (i : ℕ) → i < 8 → number_fault forms.Fraction (eighths i) ≡ None
eighths-no_fault i h = ap (number_fault forms.Fraction) (sym (eighths-spelled i h)) ∙ spelled-no_fault i h

spelled-value : (i : ℕ) → i < 8 → number_value (spelled i) ≡ eighth i
unfolding number_value lowest gcd
spelled-value i h = each (λ (d : ℕ). number_value (spelled d) ≡ eighth d) refl refl refl refl refl refl refl refl i h

-- The number is i/8.
pub eighths-value : (i : ℕ) → i < 8 → number_value (eighths i) ≡ eighth i
eighths-value i h = ap number_value (sym (eighths-spelled i h)) ∙ spelled-value i h

-- In units of 1/8 it is i.
pub eighth-scaled : (i : ℕ) → i < 8 → residue 8 (scaled 8 (eighth i)) ≡ pos i
unfolding residue gcd
eighth-scaled i h = each (λ (d : ℕ). residue 8 (scaled 8 (eighth d)) ≡ pos d) refl refl refl refl refl refl refl refl i h

-- ---- two of them

abbrev Differs : ℕ → ℕ → Type 0
Differs i j = is_same_modulo_1 (eighth i) (eighth j) ≡ (i == j)

differs : (i j : ℕ) → i < 8 → j < 8 → Differs i j
unfolding gcd
differs i j hi hj =
    each (λ (d : ℕ). Differs d j)
    (each (Differs 0) refl refl refl refl refl refl refl refl j hj)
    (each (Differs 1) refl refl refl refl refl refl refl refl j hj)
    (each (Differs 2) refl refl refl refl refl refl refl refl j hj)
    (each (Differs 3) refl refl refl refl refl refl refl refl j hj)
    (each (Differs 4) refl refl refl refl refl refl refl refl j hj)
    (each (Differs 5) refl refl refl refl refl refl refl refl j hj)
    (each (Differs 6) refl refl refl refl refl refl refl refl j hj)
    (each (Differs 7) refl refl refl refl refl refl refl refl j hj)
    i hi

-- Only equal ones differ by an integer.
pub eighth-same : (i j : ℕ) → i < 8 → j < 8 → is_same_modulo_1 (eighth i) (eighth j) ≡ true → i ≡ j
eighth-same i j hi hj e = eqb-true i j (sym (differs i j hi hj) ∙ e)
