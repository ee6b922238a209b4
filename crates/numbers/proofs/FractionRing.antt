-- Fractions in lowest terms are a commutative ring: each law is an equation of cross products.
--   fraction_laws    its laws
use Rattle.std.proofs.Common.{◌≡◌, List, [], ◌∷◌, ℤ, pos, negsuc, ◌+ℤ◌, ◌*ℤ◌, ◌<ℤ◌, refl, sym, ap, ap₂, ◌∙◌}
use Rattle.ring.specs.Ring.{int_ops, var, con, opposite, ◌:+◌, ◌:*◌}
use Rattle.ring.proofs.RingSound.{LawsOn}
use Rattle.ring.proofs.Solving.{by_ring}
use Rattle.ring.proofs.IntRing.{int_laws}
use Rattle.ring.proofs.IntOrder.{mul_pos}
use Rattle.numbers.specs.Fraction.{Fraction, IsLowest, lowest, plus, multiply, negative, whole, fraction_ops}
use Rattle.numbers.proofs.FractionLemmas.{lowest_is, lowest_same, lowest_fixed, whole_is, negative_is, plus-lowest, multiply-lowest}

-- the same numbers after two equations of the integers
same : {n m d e : ℤ} → n ≡ m → d ≡ e → lowest n d ≡ lowest m e
same p q = ap₂ lowest p q

plus_is : (p q : Fraction) → IsLowest p → IsLowest q → IsLowest (plus p q)
plus_is p q h k = lowest_is _ _ (mul_pos _ _ h.positive k.positive)

multiply_is : (p q : Fraction) → IsLowest p → IsLowest q → IsLowest (multiply p q)
multiply_is p q h k = lowest_is _ _ (mul_pos _ _ h.positive k.positive)

plus_comm : (p q : Fraction) → plus p q ≡ plus q p
plus_comm p q =
    let xs = p.numerator ∷ p.denominator ∷ q.numerator ∷ q.denominator ∷ [] in
    same (by_ring int_ops int_laws xs (var 0 :* var 3 :+ var 2 :* var 1) (var 2 :* var 1 :+ var 0 :* var 3) refl) (by_ring int_ops int_laws xs (var 1 :* var 3) (var 3 :* var 1) refl)

multiply_comm : (p q : Fraction) → multiply p q ≡ multiply q p
multiply_comm p q =
    let xs = p.numerator ∷ p.denominator ∷ q.numerator ∷ q.denominator ∷ [] in
    same (by_ring int_ops int_laws xs (var 0 :* var 2) (var 2 :* var 0) refl) (by_ring int_ops int_laws xs (var 1 :* var 3) (var 3 :* var 1) refl)

-- a sum whose second part is in lowest terms already
plus-left : (n d : ℤ) (q : Fraction) → pos 0 <ℤ d → IsLowest q → plus (lowest n d) q ≡ lowest (n *ℤ q.denominator +ℤ q.numerator *ℤ d) (d *ℤ q.denominator)
plus-left n d q h k =
    ap (plus (lowest n d)) (sym (lowest_fixed q k)) ∙ plus-lowest n d q.numerator q.denominator h k.positive

plus-right : (p : Fraction) (m e : ℤ) → IsLowest p → pos 0 <ℤ e → plus p (lowest m e) ≡ lowest (p.numerator *ℤ e +ℤ m *ℤ p.denominator) (p.denominator *ℤ e)
plus-right p m e h k =
    ap (λ w. plus w (lowest m e)) (sym (lowest_fixed p h)) ∙ plus-lowest p.numerator p.denominator m e h.positive k

multiply-left : (n d : ℤ) (q : Fraction) → pos 0 <ℤ d → IsLowest q → multiply (lowest n d) q ≡ lowest (n *ℤ q.numerator) (d *ℤ q.denominator)
multiply-left n d q h k =
    ap (multiply (lowest n d)) (sym (lowest_fixed q k)) ∙ multiply-lowest n d q.numerator q.denominator h k.positive

multiply-right : (p : Fraction) (m e : ℤ) → IsLowest p → pos 0 <ℤ e → multiply p (lowest m e) ≡ lowest (p.numerator *ℤ m) (p.denominator *ℤ e)
multiply-right p m e h k =
    ap (λ w. multiply w (lowest m e)) (sym (lowest_fixed p h)) ∙ multiply-lowest p.numerator p.denominator m e h.positive k

abbrev six : Fraction → Fraction → Fraction → List ℤ
six p q r = p.numerator ∷ p.denominator ∷ q.numerator ∷ q.denominator ∷ r.numerator ∷ r.denominator ∷ []

plus_assoc : (p q r : Fraction) → IsLowest p → IsLowest q → IsLowest r → plus (plus p q) r ≡ plus p (plus q r)
plus_assoc p q r h k l =
    plus-left _ _ r (mul_pos _ _ h.positive k.positive) l ∙ same (by_ring int_ops int_laws (six p q r) ((var 0 :* var 3 :+ var 2 :* var 1) :* var 5 :+ var 4 :* (var 1 :* var 3)) (var 0 :* (var 3 :* var 5) :+ (var 2 :* var 5 :+ var 4 :* var 3) :* var 1) refl) (by_ring int_ops int_laws (six p q r) ((var 1 :* var 3) :* var 5) (var 1 :* (var 3 :* var 5)) refl) ∙ sym (plus-right p _ _ h (mul_pos _ _ k.positive l.positive))

multiply_assoc : (p q r : Fraction) → IsLowest p → IsLowest q → IsLowest r → multiply (multiply p q) r ≡ multiply p (multiply q r)
multiply_assoc p q r h k l =
    multiply-left _ _ r (mul_pos _ _ h.positive k.positive) l ∙ same (by_ring int_ops int_laws (six p q r) ((var 0 :* var 2) :* var 4) (var 0 :* (var 2 :* var 4)) refl) (by_ring int_ops int_laws (six p q r) ((var 1 :* var 3) :* var 5) (var 1 :* (var 3 :* var 5)) refl) ∙ sym (multiply-right p _ _ h (mul_pos _ _ k.positive l.positive))

multiply-plus : (p q r : Fraction) → IsLowest p → IsLowest q → IsLowest r → multiply (plus p q) r ≡ plus (multiply p r) (multiply q r)
multiply-plus p q r h k l =
    let pq = mul_pos _ _ h.positive k.positive in
    let pr = mul_pos _ _ h.positive l.positive in
    let qr = mul_pos _ _ k.positive l.positive in
    multiply-left _ _ r pq l ∙ lowest_same _ _ _ _ (mul_pos _ _ pq l.positive) (mul_pos _ _ pr qr) (by_ring int_ops int_laws (six p q r) (((var 0 :* var 3 :+ var 2 :* var 1) :* var 4) :* ((var 1 :* var 5) :* (var 3 :* var 5))) (((var 0 :* var 4) :* (var 3 :* var 5) :+ (var 2 :* var 4) :* (var 1 :* var 5)) :* ((var 1 :* var 3) :* var 5)) refl) ∙ sym (plus-lowest _ _ _ _ pr qr)

zero_plus : (p : Fraction) → IsLowest p → plus (whole (pos 0)) p ≡ p
zero_plus p h =
    let xs = p.numerator ∷ p.denominator ∷ [] in
    same (by_ring int_ops int_laws xs (con (pos 0) :* var 1 :+ var 0 :* con (pos 1)) (var 0) refl) (by_ring int_ops int_laws xs (con (pos 1) :* var 1) (var 1) refl) ∙ lowest_fixed p h

one_multiply : (p : Fraction) → IsLowest p → multiply (whole (pos 1)) p ≡ p
one_multiply p h =
    let xs = p.numerator ∷ p.denominator ∷ [] in
    same (by_ring int_ops int_laws xs (con (pos 1) :* var 0) (var 0) refl) (by_ring int_ops int_laws xs (con (pos 1) :* var 1) (var 1) refl) ∙ lowest_fixed p h

zero_multiply : (p : Fraction) → IsLowest p → multiply (whole (pos 0)) p ≡ whole (pos 0)
zero_multiply p h =
    let xs = p.numerator ∷ p.denominator ∷ [] in
    lowest_same _ _ (pos 0) (pos 1) (mul_pos _ _ (whole_is (pos 0)).positive h.positive) (whole_is (pos 0)).positive (by_ring int_ops int_laws xs ((con (pos 0) :* var 0) :* con (pos 1)) (con (pos 0) :* (con (pos 1) :* var 1)) refl) ∙ lowest_fixed (whole (pos 0)) (whole_is (pos 0))

negative-multiply : (p : Fraction) → IsLowest p → negative p ≡ multiply (whole (negsuc 0)) p
negative-multiply p h =
    let xs = p.numerator ∷ p.denominator ∷ [] in
    sym (lowest_fixed (negative p) (negative_is p h)) ∙ same (by_ring int_ops int_laws xs (opposite (var 0)) (con (negsuc 0) :* var 0) refl) (by_ring int_ops int_laws xs (var 1) (con (pos 1) :* var 1) refl)

whole-sum : (a b : ℤ) → whole (a +ℤ b) ≡ plus (whole a) (whole b)
whole-sum a b =
    sym (lowest_fixed _ (whole_is (a +ℤ b))) ∙ same (by_ring int_ops int_laws (a ∷ b ∷ []) (var 0 :+ var 1) (var 0 :* con (pos 1) :+ var 1 :* con (pos 1)) refl) refl

whole-product : (a b : ℤ) → whole (a *ℤ b) ≡ multiply (whole a) (whole b)
whole-product a b = sym (lowest_fixed _ (whole_is (a *ℤ b)))

-- the laws of fractions in lowest terms
pub fraction_laws : LawsOn fraction_ops IsLowest
fraction_laws = record {
  int_in = whole_is;
  add_in = plus_is;
  mul_in = multiply_is;
  add_comm = λ p q h k. plus_comm p q;
  add_assoc = plus_assoc;
  zero_add = zero_plus;
  mul_comm = λ p q h k. multiply_comm p q;
  mul_assoc = multiply_assoc;
  one_mul = one_multiply;
  zero_mul = zero_multiply;
  add_mul = multiply-plus;
  opp_is = negative-multiply;
  int_add = whole-sum;
  int_mul = whole-product;
}
