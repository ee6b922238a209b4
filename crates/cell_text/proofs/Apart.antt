-- Atoms that are apart modulo 1 stand at different positions of the cell.
--
-- Let n be a multiple of both denominators. If two fractions f = a/x and g = b/y have the same part of 1/n modulo n, then
-- n f - n g is a multiple t n of n. With n = P x = Q y, P Q times a y - b x is then t n n = t (P Q) (x y), so a y - b x
-- is a multiple of x y, which is what `is_same_modulo_1` tests.
use Rattle.std.proofs.Common.{◌≡◌, ℕ, zero, suc, ◌*◌, ◌/◌, ◌%◌, ◌<◌, Bool, true, List, [], ◌∷◌, ◌++◌, map, refl, sym, ap, ◌∙◌, arith}
use Rattle.std.specs.Prelude.{ℤ, pos, neg_ℤ, ◌+ℤ◌, ◌-ℤ◌, ◌*ℤ◌, unsigned_abs, not, ◌&&◌}
use Rattle.std.specs.Int.{◌∣◌}
use Rattle.std.specs.List.{fold, list_all}
use Rattle.std.proofs.lemmas.Bool.{and_parts, eq-eqb}
use Rattle.std.proofs.lemmas.Int.{unsigned_abs-mul}
use Rattle.std.proofs.lemmas.List.Folds.{list_all-append}
use Rattle.std.proofs.lemmas.Nat.Gcd.{dvd_refl, dvd_trans}
use Rattle.std.proofs.Math.Nat.{div-mul_cancel, mul-div_cancel_left, mul-mod_left, mul-pos}
use Rattle.ring.specs.Ring.{int_ops, var, opposite, ◌:+◌, ◌:*◌}
use Rattle.ring.proofs.Solving.{by_ring, at, solve_from}
use Rattle.ring.proofs.IntRing.{int_laws}
use Rattle.numbers.specs.Gcd.{lcm}
use Rattle.numbers.specs.Residue.{residue}
use Rattle.numbers.proofs.GcdLemmas.{lcm-multiple_left, lcm-multiple_right}
use Rattle.numbers.proofs.ResidueRing.{residue_splits}
use Rattle.crystal_spec.specs.Matrices.{Triple}
use Rattle.crystal.specs.Occupants.{NoneAt}
use Rattle.numbers.specs.Fraction.{Fraction}
use Rattle.plain_text.specs.NumberWords.{denominator_of, scaled, is_same_modulo_1}
use Rattle.cell_text.specs.Entries.{AtomLine, positions, is_same_place}
use Rattle.cell_text.specs.CellFile.{atom_of, position_of}
use Rattle.cell_text.specs.Views.{AreApart}

-- ---- two fractions

cancel : (p a b : ℕ) → 0 < p → p * a ≡ p * b → a ≡ b
cancel p a b h e = sym (mul-div_cancel_left a h) ∙ ap (λ (m : ℕ). m / p) e ∙ mul-div_cancel_left b h

-- P Q times the difference is P Q times the multiple
products : (a b P Q x y n u v : ℤ) → P *ℤ x ≡ n → Q *ℤ y ≡ n → a *ℤ P +ℤ u *ℤ n ≡ b *ℤ Q +ℤ v *ℤ n → (P *ℤ Q) *ℤ (a *ℤ y -ℤ b *ℤ x) ≡ (P *ℤ Q) *ℤ ((v -ℤ u) *ℤ (x *ℤ y))
products a b P Q x y n u v p q e =
    by_ring int_ops int_laws (a ∷ b ∷ P ∷ Q ∷ x ∷ y ∷ []) ((var 2 :* var 3) :* (var 0 :* var 5 :+ opposite (var 1 :* var 4))) ((var 0 :* var 2) :* (var 3 :* var 5) :+ opposite ((var 1 :* var 3) :* (var 2 :* var 4))) refl
    ∙ ap (λ (m : ℤ). (a *ℤ P) *ℤ m +ℤ neg_ℤ ((b *ℤ Q) *ℤ (P *ℤ x))) q
    ∙ ap (λ (m : ℤ). (a *ℤ P) *ℤ n +ℤ neg_ℤ ((b *ℤ Q) *ℤ m)) p
    ∙ solve_from int_ops int_laws (at int_ops int_laws ((a *ℤ P) ∷ (b *ℤ Q) ∷ n ∷ u ∷ v ∷ [])) (var 0 :* var 2 :+ opposite (var 1 :* var 2)) ((var 4 :+ opposite (var 3)) :* (var 2 :* var 2)) (var 2) (var 0 :+ var 3 :* var 2) (var 1 :+ var 4 :* var 2) e refl
    ∙ ap (λ (m : ℤ). (v +ℤ neg_ℤ u) *ℤ (m *ℤ n)) (sym p)
    ∙ ap (λ (m : ℤ). (v +ℤ neg_ℤ u) *ℤ ((P *ℤ x) *ℤ m)) (sym q)
    ∙ by_ring int_ops int_laws (P ∷ Q ∷ x ∷ y ∷ u ∷ v ∷ []) ((var 5 :+ opposite (var 4)) :* ((var 0 :* var 2) :* (var 1 :* var 3))) ((var 0 :* var 1) :* ((var 5 :+ opposite (var 4)) :* (var 2 :* var 3))) refl

multiple_of : (p : ℕ) (d t : ℤ) (w : ℕ) → 0 < p → pos p *ℤ d ≡ pos p *ℤ (t *ℤ pos w) → unsigned_abs d % w ≡ 0
multiple_of p d t w h e =
    let sizes : p * unsigned_abs d ≡ p * (unsigned_abs t * w) =
    sym (unsigned_abs-mul (pos p) d) ∙ ap unsigned_abs e ∙ unsigned_abs-mul (pos p) (t *ℤ pos w) ∙ ap (λ (m : ℕ). p * m) (unsigned_abs-mul t (pos w)) in
    ap (λ (m : ℕ). m % w) (cancel p (unsigned_abs d) (unsigned_abs t * w) h sizes) ∙ mul-mod_left (unsigned_abs t) w

-- the same part of 1/n
pub same_part : (n : ℕ) (f g : Fraction) → 0 < n → (denominator_of f) ∣ n → (denominator_of g) ∣ n → residue n (scaled n f) ≡ residue n (scaled n g) → is_same_modulo_1 f g ≡ true
same_part n f g h hf hg e =
    let P = n / (denominator_of f) in
    let Q = n / (denominator_of g) in
    let p : P * (denominator_of f) ≡ n = div-mul_cancel (denominator_of f) hf in
    let q : Q * (denominator_of g) ≡ n = div-mul_cancel (denominator_of g) hg in
    let u = residue_splits n (scaled n f) in
    let v = residue_splits n (scaled n g) in
    let both = products f.numerator g.numerator (pos P) (pos Q) (pos (denominator_of f)) (pos (denominator_of g)) (pos n) u.0 v.0 (ap pos p) (ap pos q) (sym u.1 ∙ e ∙ v.1) in
    eq-eqb _ 0 (multiple_of (P * Q) _ (v.0 -ℤ u.0) ((denominator_of f) * (denominator_of g)) (mul-pos (up P (denominator_of f) n p h) (up Q (denominator_of g) n q h)) both)
  where
    up : (q g b : ℕ) → q * g ≡ b → 0 < b → 0 < q
    up zero g b e h = absurd (omega arith)
    up (suc q) g b e h = omega arith

-- ---- the denominators of positions divide n

pub record Divides (n : ℕ) (a : AtomLine) : Type 0 where
  pub x : (denominator_of a.x) ∣ n
  pub y : (denominator_of a.y) ∣ n
  pub z : (denominator_of a.z) ∣ n

abbrev pub AllDivide : ℕ → List AtomLine → Type 0
AllDivide n [] = Unit {0}
AllDivide n (a ∷ held) = Divides n a × AllDivide n held

abbrev grow : ℕ → AtomLine → ℕ
grow d a = lcm (lcm (lcm d (denominator_of a.x)) (denominator_of a.y)) (denominator_of a.z)

from_start : (d : ℕ) (held : List AtomLine) → d ∣ fold (λ d f. lcm d (denominator_of f)) d (positions held)
unfolding positions
from_start d [] = dvd_refl d
from_start d (a ∷ held) =
    dvd_trans d (lcm-multiple_left d (denominator_of a.x)) (dvd_trans (lcm d (denominator_of a.x)) (lcm-multiple_left (lcm d (denominator_of a.x)) (denominator_of a.y)) (dvd_trans (lcm (lcm d (denominator_of a.x)) (denominator_of a.y)) (lcm-multiple_left (lcm (lcm d (denominator_of a.x)) (denominator_of a.y)) (denominator_of a.z)) (from_start (grow d a) held)))

pub all_divide : (d : ℕ) (held : List AtomLine) → AllDivide (fold (λ d f. lcm d (denominator_of f)) d (positions held)) held
unfolding positions
all_divide d [] = tt
all_divide d (a ∷ held) =
    let start = from_start (grow d a) held in
    let z = dvd_trans (denominator_of a.z) (lcm-multiple_right (lcm (lcm d (denominator_of a.x)) (denominator_of a.y)) (denominator_of a.z)) start in
    let two = dvd_trans (lcm (lcm d (denominator_of a.x)) (denominator_of a.y)) (lcm-multiple_left (lcm (lcm d (denominator_of a.x)) (denominator_of a.y)) (denominator_of a.z)) start in
    let y = dvd_trans (denominator_of a.y) (lcm-multiple_right (lcm d (denominator_of a.x)) (denominator_of a.y)) two in
    let x = dvd_trans (denominator_of a.x) (lcm-multiple_right d (denominator_of a.x)) (dvd_trans (lcm d (denominator_of a.x)) (lcm-multiple_left (lcm d (denominator_of a.x)) (denominator_of a.y)) two) in
    (record { x = x; y = y; z = z }, all_divide (grow d a) held)

-- those before one of them, and this one
divide_before : (n : ℕ) (held : List AtomLine) (b : AtomLine) (later : List AtomLine) → AllDivide n (held ++ b ∷ later) → AllDivide n held × Divides n b
divide_before n [] b later h = (tt, h.0)
divide_before n (a ∷ held) b later h =
    let p = divide_before n held b later h.1 in
    ((h.0, p.0), p.1)

apart_before : (held : List AtomLine) (b : AtomLine) (later : List AtomLine) → AreApart (held ++ b ∷ later) → list_all (λ a. not (is_same_place a b)) held ≡ true
apart_before [] b later h = refl
apart_before (a ∷ held) b later h =
    let here = sym (list_all-append (λ c. not (is_same_place a c)) held (b ∷ later)) ∙ h.0 in
    let this = (and_parts (not (is_same_place a b)) _ (and_parts (list_all (λ c. not (is_same_place a c)) held) _ here).1).0 in
    rw this (apart_before held b later h.1)

told : (n : ℕ) (a b : AtomLine) → 0 < n → Divides n a → Divides n b → not (is_same_place a b) ≡ true → position_of n a ≡ position_of n b → ⊥
told n a b h da db other e =
    let x = same_part n a.x b.x h da.x db.x (ap (λ (t : Triple). t.x) e) in
    let y = same_part n a.y b.y h da.y db.y (ap (λ (t : Triple). t.y) e) in
    let z = same_part n a.z b.z h da.z db.z (ap (λ (t : Triple). t.z) e) in
    let same : is_same_place a b ≡ true = all_three _ _ _ x y z in
    absurd (cc (ap not same, other))
  where
    all_three : (p q r : Bool) → p ≡ true → q ≡ true → r ≡ true → (p && q && r) ≡ true
    all_three p q r e f g = rw (e, f, g) refl

none_of : (names : List (List ℕ)) (n k : ℕ) (held : List AtomLine) (b : AtomLine) → 0 < n → AllDivide n held → Divides n b → list_all (λ a. not (is_same_place a b)) held ≡ true → NoneAt (position_of n b) (map (atom_of names n k) held)
none_of names n k [] b h d db e = tt
none_of names n k (a ∷ held) b h d db e =
    let p = and_parts (not (is_same_place a b)) _ e in
    (told n a b h d.0 db p.0, none_of names n k held b h d.1 db p.1)

-- No atom before b stands at its position of the cell.
pub none_before : (names : List (List ℕ)) (n k : ℕ) (held : List AtomLine) (b : AtomLine) (later : List AtomLine) → 0 < n → AllDivide n (held ++ b ∷ later) → AreApart (held ++ b ∷ later) → NoneAt (position_of n b) (map (atom_of names n k) held)
none_before names n k held b later h divide apart =
    let d = divide_before n held b later divide in
    none_of names n k held b h d.0 d.1 (apart_before held b later apart)
