-- The value of digits, and where a word is cut at a mark.
use Rattle.std.proofs.Common.{◌≡◌, ℕ, zero, suc, ◌+◌, ◌-◌, ◌*◌, ◌^◌, ◌<◌, ◌≤◌, true, List, [], ◌∷◌, ◌++◌, length, get_or, take, drop, refl, ap, ◌∙◌, arith, leb, add-one}
use Rattle.std.specs.List.{fold, list_all}
use Rattle.std.proofs.lemmas.Bool.{eq-eqb, ne_eqb, leb-true, and_parts}
use Rattle.std.proofs.Math.Nat.{mul-le-mul_right, pow-suc, pow-le-pow_right}
use Rattle.plain_text.specs.Digits.{is_digit, value_of_digits}
use Rattle.plain_text.specs.NumberWords.{before_mark, behind_mark}

-- ---- digits

-- one more digit
abbrev pub more : ℕ → ℕ → ℕ
more n b = 10 * n + (b - 48)

pub digit_bounds : (b : ℕ) → is_digit b ≡ true → (48 ≤ b) × (b ≤ 57)
digit_bounds b e =
    let parts = and_parts (leb 48 b) (leb b 57) e in
    (leb-true 48 b parts.0, leb-true b 57 parts.1)

below : (total w v p q : ℕ) → total < (w + 1) * p → (w + 1) * p ≤ (10 * (v + 1)) * p → q ≡ p * 10 → total < (v + 1) * q
below total w v p q h room e = rw e (omega arith)

fold_below : (ds : List ℕ) (v : ℕ) → list_all is_digit ds ≡ true → fold more v ds < (v + 1) * 10 ^ length ds
fold_below [] v e = omega arith
fold_below (d ∷ ds) v e =
    let parts = and_parts (is_digit d) (list_all is_digit ds) e in
    let small = digit_bounds d parts.0 in
    let deeper = fold_below ds (more v d) parts.1 in
    let p : 10 ^ suc (length ds) ≡ 10 ^ length ds * 10 = pow-suc 10 (length ds) in
    let room : (more v d + 1) * 10 ^ length ds ≤ (10 * (v + 1)) * 10 ^ length ds = mul-le-mul_right (10 ^ length ds) (omega arith) in
    below _ (more v d) v (10 ^ length ds) _ deeper room p

-- n digits spell less than 10^n
pub digits_below : (ds : List ℕ) (n : ℕ) → list_all is_digit ds ≡ true → length ds ≤ n → value_of_digits ds < 10 ^ n
digits_below ds n e h =
    let short : 10 ^ length ds ≤ 10 ^ n = pow-le-pow_right (omega arith) h in
    omega (arith, fold_below ds 0 e, short)

-- each value on the way is at most the last
pub fold_grows : (ds : List ℕ) (v : ℕ) → v ≤ fold more v ds
fold_grows [] v = omega arith
fold_grows (d ∷ ds) v = omega (arith, fold_grows ds (more v d))

pub fold_step : (ds : List ℕ) (v i : ℕ) → i < length ds → fold more v (drop i ds) ≡ fold more (more v (get_or ds i 0)) (drop (i + 1) ds)
fold_step [] v i h = absurd (omega arith)
fold_step (d ∷ ds) v zero h = refl
fold_step (d ∷ ds) v (suc i) h = rw (add-one (suc i)) (fold_step ds v i (omega arith) ∙ rw (add-one i) refl)

pub fold_bound : (ds : List ℕ) (v i total : ℕ) → i < length ds → fold more v (drop i ds) ≡ total → more v (get_or ds i 0) ≤ total
fold_bound ds v i total h e = omega (arith, fold_step ds v i h, fold_grows (drop (i + 1) ds) (more v (get_or ds i 0)))

pub fold-append : {A B : Type 0} (f : B → A → B) (b : B) (xs ys : List A) → fold f b (xs ++ ys) ≡ fold f (fold f b xs) ys
fold-append f b [] ys = refl
fold-append f b (x ∷ xs) ys = fold-append f (f b x) xs ys

-- ---- a mark

pub mark-cut : (mark : ℕ) (other t : List ℕ) (i : ℕ) → i < length t → ((k : ℕ) → k < i → get_or t k 0 ≡ mark → ⊥) → get_or t i 0 ≡ mark → (before_mark mark t ≡ take i t) × (behind_mark mark other t ≡ drop (suc i) t)
mark-cut mark other [] i h free e = absurd (omega arith)
mark-cut mark other (b ∷ t) zero h free e = rw (eq-eqb b mark e) (refl, refl)
mark-cut mark other (b ∷ t) (suc i) h free e =
    let deeper = mark-cut mark other t i (omega arith) (λ k lt. free (suc k) (omega arith)) e in
    rw (ne_eqb b mark (free 0 (omega arith))) (ap (λ (p : List ℕ). b ∷ p) deeper.0, deeper.1)

pub mark-none : (mark : ℕ) (other t : List ℕ) → ((k : ℕ) → k < length t → get_or t k 0 ≡ mark → ⊥) → (before_mark mark t ≡ t) × (behind_mark mark other t ≡ other)
mark-none mark other [] free = (refl, refl)
mark-none mark other (b ∷ t) free =
    let deeper = mark-none mark other t (λ k lt. free (suc k) (omega arith)) in
    rw (ne_eqb b mark (free 0 (omega arith))) (ap (λ (p : List ℕ). b ∷ p) deeper.0, deeper.1)
