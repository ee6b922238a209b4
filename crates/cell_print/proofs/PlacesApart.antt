-- Atoms at different positions of the cell are apart modulo 1 as they are printed.
--
-- Let x/n = a/A and y/n = b/B in lowest terms, with n = A P = B Q. If A B divides a B - b A, with the quotient t, then
-- t n n = (a B - b A) P Q = (x - y) n, so t n = x - y, and since both are from 0 to n - 1, x is y.
use Rattle.std.proofs.Common.{◌≡◌, ℕ, zero, suc, ◌*◌, ◌/◌, ◌%◌, ◌<◌, true, false, [], ◌∷◌, refl, sym, ap, ◌∙◌, arith}
use Rattle.std.specs.Prelude.{ℤ, pos, negsuc, ◌*ℤ◌, ◌-ℤ◌, ◌≤ℤ◌, ◌<ℤ◌, unsigned_abs, ◌&&◌}
use Rattle.std.proofs.lemmas.Bool.{and_parts, eqb-true, false_from_ne_true}
use Rattle.std.proofs.lemmas.Int.{ints, unsigned_abs-mul}
use Rattle.std.proofs.lemmas.Nat.Gcd.{dvd_of_mod-eq-zero}
use Rattle.std.proofs.Math.Nat.{div-mul_cancel, mul-div_cancel_left}
use Rattle.ring.specs.Ring.{int_ops, var, opposite, ◌:+◌, ◌:*◌}
use Rattle.ring.proofs.Solving.{by_ring}
use Rattle.ring.proofs.IntRing.{int_laws}
use Rattle.crystal_spec.specs.Crystals.{Atom, Structure}
use Rattle.crystal_spec.specs.Operations.{IsWithinCell}
use Rattle.plain_text.specs.NumberWords.{denominator_of, is_same_modulo_1}
use Rattle.cell_text.specs.Entries.{is_same_place}
use Rattle.plain_text.proofs.NumberWords.{reduced}
use Rattle.cell_print.proofs.CommonDenominators.{scaled-reduced, part-divides}
use Rattle.cell_print.proofs.ReadLines.{entry}

cancel : (p a b : ℕ) → 0 < p → p * a ≡ p * b → a ≡ b
cancel p a b h e = sym (mul-div_cancel_left a h) ∙ ap (λ (m : ℕ). m / p) e ∙ mul-div_cancel_left b h

-- (a B - b A) P Q = (x - y) n
cross : (a b A B P Q x y n : ℤ) → a *ℤ P ≡ x → b *ℤ Q ≡ y → A *ℤ P ≡ n → B *ℤ Q ≡ n → (a *ℤ B -ℤ b *ℤ A) *ℤ (P *ℤ Q) ≡ (x -ℤ y) *ℤ n
cross a b A B P Q x y n ex ey eA eB =
    by_ring int_ops int_laws (a ∷ b ∷ A ∷ B ∷ P ∷ Q ∷ []) ((var 0 :* var 3 :+ opposite (var 1 :* var 2)) :* (var 4 :* var 5)) ((var 0 :* var 4) :* (var 3 :* var 5) :+ opposite ((var 1 :* var 5) :* (var 2 :* var 4))) refl
    ∙ (λ i. ex i *ℤ eB i -ℤ ey i *ℤ eA i)
    ∙ by_ring int_ops int_laws (x ∷ y ∷ n ∷ []) (var 0 :* var 2 :+ opposite (var 1 :* var 2)) ((var 0 :+ opposite (var 1)) :* var 2) refl

squares : (t D A B P Q n w : ℕ) → t * (A * B) ≡ D → A * P ≡ n → B * Q ≡ n → D * (P * Q) ≡ w * n → n * (t * n) ≡ n * w
squares t D A B P Q n w e eA eB h =
    let left : n * (t * n) ≡ t * (n * n) = omega arith in
    let split : (t * (A * B)) * (P * Q) ≡ t * ((A * P) * (B * Q)) = omega arith in
    let right : w * n ≡ n * w = omega arith in
    let both : (A * P) * (B * Q) ≡ n * n = λ i. eA i * eB i in
    left ∙ ap (λ (m : ℕ). t * m) (sym both) ∙ sym split ∙ ap (λ (m : ℕ). m * (P * Q)) e ∙ h ∙ right

near : (n x y : ℕ) (t : ℕ) → x < n → y < n → t * n ≡ unsigned_abs (pos x -ℤ pos y) → x ≡ y
near n x y zero hx hy e = omega (arith, ints, e)
near n x y (suc t) hx hy e = absurd (omega (arith, ints, e, hx, hy))

abbrev IsWithin : ℕ → ℤ → Type 0
IsWithin n z = (pos 0 ≤ℤ z) × (z <ℤ pos n)

same_modulo : (n x y : ℕ) → 0 < n → x < n → y < n → is_same_modulo_1 (reduced n (pos x)) (reduced n (pos y)) ≡ true → x ≡ y
same_modulo n x y some hx hy e =
    let f = reduced n (pos x) in
    let g = reduced n (pos y) in
    let P = n / (denominator_of f) in
    let Q = n / (denominator_of g) in
    let D = unsigned_abs (f.numerator *ℤ pos (denominator_of g) -ℤ g.numerator *ℤ pos (denominator_of f)) in
    let A_is : (denominator_of f) * P ≡ n = turned (n / (denominator_of f)) (denominator_of f) n (div-mul_cancel (denominator_of f) (part-divides n (pos x))) in
    let B_is : (denominator_of g) * Q ≡ n = turned (n / (denominator_of g)) (denominator_of g) n (div-mul_cancel (denominator_of g) (part-divides n (pos y))) in
    let divides = dvd_of_mod-eq-zero ((denominator_of f) * (denominator_of g)) (eqb-true (D % ((denominator_of f) * (denominator_of g))) 0 e) in
    let t = D / ((denominator_of f) * (denominator_of g)) in
    let split : t * ((denominator_of f) * (denominator_of g)) ≡ D = div-mul_cancel ((denominator_of f) * (denominator_of g)) divides in
    let integers = cross f.numerator g.numerator (pos (denominator_of f)) (pos (denominator_of g)) (pos P) (pos Q) (pos x) (pos y) (pos n) (scaled-reduced n (pos x) some) (scaled-reduced n (pos y) some) (ap pos A_is) (ap pos B_is) in
    let sizes : D * (P * Q) ≡ unsigned_abs (pos x -ℤ pos y) * n =
    sym (unsigned_abs-mul (f.numerator *ℤ pos (denominator_of g) -ℤ g.numerator *ℤ pos (denominator_of f)) (pos P *ℤ pos Q)) ∙ ap unsigned_abs integers ∙ unsigned_abs-mul (pos x -ℤ pos y) (pos n) in
    near n x y t hx hy (cancel n (t * n) (unsigned_abs (pos x -ℤ pos y)) some (squares t D (denominator_of f) (denominator_of g) P Q n (unsigned_abs (pos x -ℤ pos y)) split A_is B_is sizes))
  where
    turned : (q g n : ℕ) → q * g ≡ n → g * q ≡ n
    turned q g n e = omega (arith, e)

same_coordinate : (n : ℕ) (x y : ℤ) → 0 < n → IsWithin n x → IsWithin n y → is_same_modulo_1 (reduced n x) (reduced n y) ≡ true → x ≡ y
same_coordinate n (pos x) (pos y) some hx hy e = ap pos (same_modulo n x y some (omega (arith, ints, hx.1)) (omega (arith, ints, hy.1)) e)
same_coordinate n (negsuc x) y some hx hy e = absurd (omega (arith, ints, hx.0))
same_coordinate n (pos x) (negsuc y) some hx hy e = absurd (omega (arith, ints, hy.0))

-- Atoms at different positions are apart.
pub entries-apart : (c : Structure) (a b : Atom) → 0 < c.n → IsWithinCell c.n a.position → IsWithinCell c.n b.position → (a.position ≡ b.position → ⊥) → is_same_place (entry c a) (entry c b) ≡ false
entries-apart c a b some ha hb other =
    false_from_ne_true (is_same_place (entry c a) (entry c b)) (λ e.
    let p = and_parts (is_same_modulo_1 (reduced c.n a.position.x) (reduced c.n b.position.x) && is_same_modulo_1 (reduced c.n a.position.y) (reduced c.n b.position.y)) (is_same_modulo_1 (reduced c.n a.position.z) (reduced c.n b.position.z)) e in
    let q = and_parts (is_same_modulo_1 (reduced c.n a.position.x) (reduced c.n b.position.x)) (is_same_modulo_1 (reduced c.n a.position.y) (reduced c.n b.position.y)) p.0 in
    let x = same_coordinate c.n a.position.x b.position.x some ha.x hb.x q.0 in
    let y = same_coordinate c.n a.position.y b.position.y some ha.y hb.y q.1 in
    let z = same_coordinate c.n a.position.z b.position.z some ha.z hb.z p.1 in
    other (λ i. record { x = x i; y = y i; z = z i }))
