-- Where text is cut into lines and lines into words, for any test of blanks.
use Rattle.std.proofs.Common.{◌≡◌, ℕ, zero, suc, ◌+◌, ◌-◌, ◌<◌, ◌≤◌, Bool, true, false, List, [], ◌∷◌, length, get_or, take, drop, refl, ap, ◌∙◌, arith, map}
use Rattle.std.specs.Prelude.{not}
use Rattle.std.proofs.lemmas.Bool.{eq-eqb, ne_eqb}
use Rattle.std.proofs.Common.{add-one}
use Rattle.std.proofs.lemmas.List.{take_rest}
use Rattle.std.proofs.Math.Seq.{drop-length, take-length}
use Rattle.plain_text.specs.Text.{pieces, byte_then, lines, words_between, without_return, without_last, begins_word}

-- ---- the last byte

-- a text without this byte at its end is kept
pub without_last-kept : (last : ℕ) (p : List ℕ) → ((n : ℕ) → length p ≡ suc n → get_or p n 0 ≡ last → ⊥) → without_last last p ≡ p
without_last-kept last [] h = refl
without_last-kept last (b ∷ []) h = rw (ne_eqb b last (h 0 refl)) refl
without_last-kept last (b ∷ c ∷ p) h =
    let deeper = without_last-kept last (c ∷ p) (λ n len. h (suc n) (ap suc len)) in
    ap (λ (q : List ℕ). b ∷ q) deeper

-- and from one with it the byte is dropped
pub without_last-dropped : (last : ℕ) (p : List ℕ) (n : ℕ) → length p ≡ suc n → get_or p n 0 ≡ last → without_last last p ≡ take n p
without_last-dropped last [] n len e = absurd (omega arith)
without_last-dropped last (b ∷ []) zero len e = rw (eq-eqb b last e) refl
without_last-dropped last (b ∷ []) (suc n) len e = absurd (omega arith)
without_last-dropped last (b ∷ c ∷ p) zero len e = absurd (omega arith)
without_last-dropped last (b ∷ c ∷ p) (suc n) len e =
    let deeper = without_last-dropped last (c ∷ p) n (omega arith) e in
    ap (λ (q : List ℕ). b ∷ q) deeper

-- ---- lines

pub pieces-cut : (t : List ℕ) (i : ℕ) → i < length t → ((k : ℕ) → k < i → get_or t k 0 ≡ 10 → ⊥) → get_or t i 0 ≡ 10 → pieces t ≡ take i t ∷ pieces (drop (suc i) t)
pieces-cut [] i h free e = absurd (omega arith)
pieces-cut (b ∷ t) zero h free e = rw (eq-eqb b 10 e) refl
pieces-cut (b ∷ t) (suc i) h free e =
    let deeper = pieces-cut t i (omega arith) (λ k lt. free (suc k) (omega arith)) e in
    let here = free 0 (omega arith) in
    rw (ne_eqb b 10 here, deeper) refl

pub pieces-last : (t : List ℕ) → 0 < length t → ((k : ℕ) → k < length t → get_or t k 0 ≡ 10 → ⊥) → pieces t ≡ t ∷ []
pieces-last [] h free = absurd (omega arith)
pieces-last (b ∷ []) h free = rw (ne_eqb b 10 (free 0 (omega arith))) refl
pieces-last (b ∷ c ∷ t) h free =
    let deeper = pieces-last (c ∷ t) (omega arith) (λ k lt. free (suc k) (omega arith)) in
    ap (byte_then b) deeper ∙ rw (ne_eqb b 10 (free 0 (omega arith))) refl

-- ---- words

pub words-skip : (blank : ℕ → Bool) (t : List ℕ) (i : ℕ) → i ≤ length t → ((k : ℕ) → k < i → blank (get_or t k 0) ≡ true) → words_between blank t ≡ words_between blank (drop i t)
words-skip blank t zero h gap = refl
words-skip blank [] (suc i) h gap = absurd (omega arith)
words-skip blank (b ∷ t) (suc i) h gap =
    let deeper = words-skip blank t i (omega arith) (λ k lt. gap (suc k) (omega arith)) in
    rw (gap 0 (omega arith)) deeper

pub words-cut : (blank : ℕ → Bool) (t : List ℕ) (i : ℕ) → 0 < i → i ≤ length t → ((k : ℕ) → k < i → blank (get_or t k 0) ≡ false) → begins_word blank (drop i t) ≡ false → words_between blank t ≡ take i t ∷ words_between blank (drop i t)
words-cut blank t zero up h free stop = absurd (omega arith)
words-cut blank [] (suc i) up h free stop = absurd (omega arith)
words-cut blank (b ∷ t) (suc zero) up h free stop = rw (free 0 (omega arith), stop) refl
words-cut blank (b ∷ []) (suc (suc i)) up h free stop = absurd (omega arith)
words-cut blank (b ∷ c ∷ t) (suc (suc i)) up h free stop =
    let deeper = words-cut blank (c ∷ t) (suc i) (omega arith) (omega arith) (λ k lt. free (suc k) (omega arith)) stop in
    let next : begins_word blank (c ∷ t) ≡ true = ap not (free 1 (omega arith)) in
    rw (free 0 (omega arith), next, deeper) refl

-- ---- at slices of the code

empty_rest : (t r : List ℕ) → r ≡ take (length t - length t) (drop (length t) t) → r ≡ []
empty_rest t r e = e ∙ take_rest t (length t) ∙ drop-length t

pub lines-cut : (t p r : List ℕ) (i : ℕ) → i < length t → ((k : ℕ) → k < i → get_or t k 0 ≡ 10 → ⊥) → get_or t i 0 ≡ 10 → p ≡ without_return (take i t) → r ≡ take (length t - (i + 1)) (drop (i + 1) t) → lines t ≡ p ∷ lines r
lines-cut t p r i h free e first rest =
    let rest-is : r ≡ drop (suc i) t = rest ∙ take_rest t (i + 1) ∙ ap (λ (j : ℕ). drop j t) (add-one i) in
    rw (first, rest-is) (ap (map without_return) (pieces-cut t i h free e))

pub lines-last : (t p r : List ℕ) → 0 < length t → ((k : ℕ) → k < length t → get_or t k 0 ≡ 10 → ⊥) → p ≡ without_return t → r ≡ take (length t - length t) (drop (length t) t) → lines t ≡ p ∷ lines r
lines-last t p r h free first rest =
    rw (first, empty_rest t r rest) (ap (map without_return) (pieces-last t h free))

no_word : (blank : ℕ → Bool) (b : ℕ) (rest : List ℕ) → blank b ≡ true → begins_word blank (b ∷ rest) ≡ false
no_word blank b rest e = ap not e

stops : (blank : ℕ → Bool) (t : List ℕ) (i : ℕ) → i < length t → blank (get_or t i 0) ≡ true → begins_word blank (drop i t) ≡ false
stops blank [] i h e = absurd (omega arith)
stops blank (b ∷ t) zero h e = ap not e
stops blank (b ∷ t) (suc i) h e = stops blank t i (omega arith) e

pub starts : (blank : ℕ → Bool) (t : List ℕ) (i : ℕ) → i < length t → blank (get_or t i 0) ≡ false → begins_word blank (drop i t) ≡ true
starts blank [] i h e = absurd (omega arith)
starts blank (b ∷ t) zero h e = ap not e
starts blank (b ∷ t) (suc i) h e = starts blank t i (omega arith) e

-- a text that begins with a word does not end before it
not_at_once : (blank : ℕ → Bool) (t : List ℕ) (i : ℕ) → begins_word blank t ≡ true → blank (get_or t i 0) ≡ true → i < length t → 0 < i
not_at_once blank [] i begun e h = absurd (omega arith)
not_at_once blank (b ∷ t) zero begun e h = absurd (cc (begun, no_word blank b t e))
not_at_once blank (b ∷ t) (suc i) begun e h = omega arith

pub word-cut : (blank : ℕ → Bool) (t r : List ℕ) (i : ℕ) → begins_word blank t ≡ true → i < length t → ((k : ℕ) → k < i → blank (get_or t k 0) ≡ false) → blank (get_or t i 0) ≡ true → r ≡ take (length t - i) (drop i t) → words_between blank t ≡ take i t ∷ words_between blank r
word-cut blank t r i begun h free e rest =
    rw (rest, take_rest t i) (words-cut blank t i (not_at_once blank t i begun e h) (omega arith) free (stops blank t i h e))

both : (blank : ℕ → Bool) (p q r s : List ℕ) → p ≡ q → r ≡ s → p ∷ words_between blank r ≡ q ∷ words_between blank s
both blank p q r s e f = cc

pub word-last : (blank : ℕ → Bool) (t r : List ℕ) → begins_word blank t ≡ true → ((k : ℕ) → k < length t → blank (get_or t k 0) ≡ false) → r ≡ take (length t - length t) (drop (length t) t) → words_between blank t ≡ t ∷ words_between blank r
word-last blank [] r begun free rest = absurd (cc begun)
word-last blank (b ∷ t) r begun free rest =
    let stop : begins_word blank (drop (length (b ∷ t)) (b ∷ t)) ≡ false = ap (begins_word blank) (drop-length (b ∷ t)) in
    rw (empty_rest (b ∷ t) r rest) (words-cut blank (b ∷ t) (length (b ∷ t)) (omega arith) (omega arith) free stop ∙ both blank _ (b ∷ t) _ [] (take-length (b ∷ t)) (drop-length (b ∷ t)))
