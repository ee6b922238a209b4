-- Where a text is cut.
--   before-cut, from-cut, before-none, from-none   in front of and from the first such byte
--   spaces-skip, spaces-stop, spaces-all           behind the spaces in front
--   words-spaces, words-cut, words-none            words, and the spaces in front of them
use Rattle.std.proofs.Common.{◌≡◌, ℕ, zero, suc, ◌<◌, ◌≤◌, Bool, true, false, List, [], ◌∷◌, length, get_or, take, drop, refl, ap, ◌∙◌, arith}
use Rattle.std.specs.Prelude.{not, ◌==◌}
use Rattle.std.proofs.lemmas.Bool.{eq-eqb, ne_eqb, eqb-true}
use Rattle.plain_text.specs.Text.{words_between_spaces, is_space, begins_word, with_byte}
use Rattle.hall_symbol.specs.Cuts.{skip_spaces, before_byte, from_byte}

-- ---- at a byte

pub before-cut : (c : ℕ) (t : List ℕ) (i : ℕ) → i < length t → ((k : ℕ) → k < i → get_or t k 0 ≡ c → ⊥) → get_or t i 0 ≡ c → before_byte c t ≡ take i t
before-cut c [] i h free e = absurd (omega arith)
before-cut c (b ∷ t) zero h free e = rw (eq-eqb b c e) refl
before-cut c (b ∷ t) (suc i) h free e =
    let deeper = before-cut c t i (omega arith) (λ k lt. free (suc k) (omega arith)) e in
    rw (ne_eqb b c (free 0 (omega arith)), deeper) refl

pub from-cut : (c : ℕ) (t : List ℕ) (i : ℕ) → i < length t → ((k : ℕ) → k < i → get_or t k 0 ≡ c → ⊥) → get_or t i 0 ≡ c → from_byte c t ≡ drop i t
from-cut c [] i h free e = absurd (omega arith)
from-cut c (b ∷ t) zero h free e = rw (eq-eqb b c e) refl
from-cut c (b ∷ t) (suc i) h free e =
    let deeper = from-cut c t i (omega arith) (λ k lt. free (suc k) (omega arith)) e in
    rw (ne_eqb b c (free 0 (omega arith)), deeper) refl

pub before-none : (c : ℕ) (t : List ℕ) → ((k : ℕ) → k < length t → get_or t k 0 ≡ c → ⊥) → before_byte c t ≡ t
before-none c [] free = refl
before-none c (b ∷ t) free =
    let deeper = before-none c t (λ k lt. free (suc k) (omega arith)) in
    rw (ne_eqb b c (free 0 (omega arith)), deeper) refl

pub from-none : (c : ℕ) (t : List ℕ) → ((k : ℕ) → k < length t → get_or t k 0 ≡ c → ⊥) → from_byte c t ≡ []
from-none c [] free = refl
from-none c (b ∷ t) free =
    let deeper = from-none c t (λ k lt. free (suc k) (omega arith)) in
    rw (ne_eqb b c (free 0 (omega arith)), deeper) refl

-- ---- behind spaces

pub spaces-cut : (t : List ℕ) (i : ℕ) → i < length t → ((k : ℕ) → k < i → get_or t k 0 ≡ 32) → (get_or t i 0 ≡ 32 → ⊥) → skip_spaces t ≡ drop i t
spaces-cut [] i h blank stop = absurd (omega arith)
spaces-cut (b ∷ t) zero h blank stop = rw (ne_eqb b 32 stop) refl
spaces-cut (b ∷ t) (suc i) h blank stop =
    let deeper = spaces-cut t i (omega arith) (λ k lt. blank (suc k) (omega arith)) stop in
    rw (eq-eqb b 32 (blank 0 (omega arith)), deeper) refl

pub spaces-all : (t : List ℕ) → ((k : ℕ) → k < length t → get_or t k 0 ≡ 32) → skip_spaces t ≡ []
spaces-all [] blank = refl
spaces-all (b ∷ t) blank =
    let deeper = spaces-all t (λ k lt. blank (suc k) (omega arith)) in
    rw (eq-eqb b 32 (blank 0 (omega arith)), deeper) refl

-- ---- words

-- spaces in front do not matter
pub words-spaces : (t : List ℕ) → words_between_spaces t ≡ words_between_spaces (skip_spaces t)
words-spaces [] = refl
words-spaces (b ∷ t) = by (is_space b) refl (words-spaces t)
  where
    by : (s : Bool) → is_space b ≡ s → words_between_spaces t ≡ words_between_spaces (skip_spaces t) → words_between_spaces (b ∷ t) ≡ words_between_spaces (skip_spaces (b ∷ t))
    by true e deeper = rw e deeper
    by false e deeper = rw e (rw e refl)

pub begins-spaces : (t : List ℕ) → (skip_spaces t ≡ [] → ⊥) → begins_word is_space (skip_spaces t) ≡ true
begins-spaces [] h = absurd (h refl)
begins-spaces (b ∷ t) h = by (is_space b) refl (begins-spaces t)
  where
    by : (s : Bool) → is_space b ≡ s → ((skip_spaces t ≡ [] → ⊥) → begins_word is_space (skip_spaces t) ≡ true) → begins_word is_space (skip_spaces (b ∷ t)) ≡ true
    by true e deeper = rw e (deeper (λ k. h (rw e k)))
    by false e deeper = rw e (ap not e)

-- the first word, and the words behind it
pub words-cut : (t : List ℕ) → begins_word is_space t ≡ true → words_between_spaces t ≡ before_byte 32 t ∷ words_between_spaces (from_byte 32 t)
words-cut [] h = absurd (cc h)
words-cut (b ∷ []) h = by (is_space b) refl h
  where
    by : (s : Bool) → is_space b ≡ s → not (is_space b) ≡ true → words_between_spaces (b ∷ []) ≡ before_byte 32 (b ∷ []) ∷ words_between_spaces (from_byte 32 (b ∷ []))
    by true e k = absurd (cc (k, ap not e))
    by false e k = rw e refl
words-cut (b ∷ c ∷ t) h = by (is_space b) (is_space c) refl refl h (words-cut (c ∷ t))
  where
    by : (s r : Bool) → is_space b ≡ s → is_space c ≡ r → not (is_space b) ≡ true → (begins_word is_space (c ∷ t) ≡ true → words_between_spaces (c ∷ t) ≡ before_byte 32 (c ∷ t) ∷ words_between_spaces (from_byte 32 (c ∷ t))) → words_between_spaces (b ∷ c ∷ t) ≡ before_byte 32 (b ∷ c ∷ t) ∷ words_between_spaces (from_byte 32 (b ∷ c ∷ t))
    by true r e f k deeper = absurd (cc (k, ap not e))
    by false true e f k deeper = rw e (rw f (rw f refl))
    by false false e f k deeper =
        let g = deeper (ap not f) in
        rw e (rw f (rw f at (ap (with_byte b) g)))

pub words-none : (t : List ℕ) → skip_spaces t ≡ [] → words_between_spaces t ≡ []
words-none t e = words-spaces t ∙ ap words_between_spaces e

-- what stands behind the first word is shorter
from-shorter : (c : ℕ) (t : List ℕ) → length (from_byte c t) ≤ length t
from-shorter c [] = omega arith
from-shorter c (b ∷ t) = by (b == c) refl (from-shorter c t)
  where
    by : (s : Bool) → (b == c) ≡ s → length (from_byte c t) ≤ length t → length (from_byte c (b ∷ t)) ≤ length (b ∷ t)
    by true e deeper = rw e (omega arith)
    by false e deeper = rw e (omega arith)

pub rest-shorter : (t : List ℕ) → begins_word is_space t ≡ true → length (from_byte 32 t) < length t
rest-shorter [] h = absurd (cc h)
rest-shorter (b ∷ t) h = by (is_space b) refl h
  where
    by : (s : Bool) → is_space b ≡ s → not (is_space b) ≡ true → length (from_byte 32 (b ∷ t)) < length (b ∷ t)
    by true e k = absurd (cc (k, ap not e))
    by false e k = let le = from-shorter 32 t in rw e (omega arith)

pub spaces-shorter : (t : List ℕ) → length (skip_spaces t) ≤ length t
spaces-shorter [] = omega arith
spaces-shorter (b ∷ t) = by (is_space b) refl (spaces-shorter t)
  where
    by : (s : Bool) → is_space b ≡ s → length (skip_spaces t) ≤ length t → length (skip_spaces (b ∷ t)) ≤ length (b ∷ t)
    by true e deeper = rw e (omega arith)
    by false e deeper = rw e (omega arith)

-- ---- the first word

pub is_nil : (s : List ℕ) → (length s == 0) ≡ true → s ≡ []
is_nil [] e = refl
is_nil (b ∷ s) e = absurd (omega (arith, eqb-true (length (b ∷ s)) 0 e))

pub not_nil : (s : List ℕ) → (length s == 0) ≡ false → s ≡ [] → ⊥
not_nil [] e h = cc e
not_nil (b ∷ s) e h = absurd (omega (arith, ap length h))

pub words-first : (t : List ℕ) → (skip_spaces t ≡ [] → ⊥) → words_between_spaces t ≡ before_byte 32 (skip_spaces t) ∷ words_between_spaces (from_byte 32 (skip_spaces t))
words-first t h = words-spaces t ∙ words-cut (skip_spaces t) (begins-spaces t h)

pub rest-first : (t : List ℕ) → (skip_spaces t ≡ [] → ⊥) → length (from_byte 32 (skip_spaces t)) < length t
rest-first t h =
    let less = rest-shorter (skip_spaces t) (begins-spaces t h) in
    let le = spaces-shorter t in
    omega arith
