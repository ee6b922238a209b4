-- The balanced triples in the cell are the k³ triples (b + z) / k.
use Rattle.std.proofs.Common.{◌≡◌, zero, suc, ℤ, pos, negsuc, ◌+ℤ◌, ◌*ℤ◌, neg_ℤ, ◌≤ℤ◌, ◌<ℤ◌, [], ◌∷◌, ◌++◌, refl, sym, ◌∙◌, ap, arith}
use Rattle.std.proofs.lemmas.Int.{ints}
use Rattle.matrix3.specs.Matrices as formulas
use Rattle.ring.specs.Ring.{var, con, quoted, ◌:+◌, ◌:*◌, ◌:-◌}
use Rattle.ring.proofs.IntOrder.{mul_pos, mul_nonneg, add_nonneg, nonneg_of_mul, weaken_lt}
use Rattle.matrix3.specs.Matrices.{coordinates, vector_of_variables}
use Rattle.crystal_spec.specs.Matrices.{Triple, multiple, sum_of, difference}
use Rattle.crystal_spec.proofs.Identities.{by_integers, by_triples}
use Rattle.match_spec.specs.Points.{Point, point, IsPoint, SameModuloOne, IsInCell, Equal}
use Rattle.match_spec.specs.BalancedPoints.{origin_at, IsBelow, IsPlace}
use Rattle.match_spec.proofs.Wholes.{cancel_v, not_zero}
use Rattle.match_spec.proofs.Units.{InUnits, same_to, same_from}

nonneg_is : (x y : ℤ) → x ≡ y → pos 0 ≤ℤ y → pos 0 ≤ℤ x
nonneg_is x y e h = omega (arith, ints)

pos_is : (x y : ℤ) → x ≡ y → pos 0 <ℤ y → pos 0 <ℤ x
pos_is x y e h = omega (arith, ints)

pub pos_of_mul : (a x : ℤ) → pos 0 <ℤ a → pos 0 <ℤ (a *ℤ x) → pos 0 <ℤ x
pos_of_mul a (pos zero) p h = absurd (omega (arith, ints, h))
pos_of_mul a (pos (suc n)) p h = omega (arith, ints)
pos_of_mul a (negsuc n) p h =
    let k : pos 0 ≤ℤ negsuc n = nonneg_of_mul a (negsuc n) p (weaken_lt _ _ h) in
    absurd k.le

left_pos : (a b : ℤ) → pos 0 <ℤ a → pos 0 ≤ℤ b → pos 0 <ℤ (a +ℤ b)
left_pos a b h k = omega (arith, ints)

gap_pos : (a b : ℤ) → a <ℤ b → pos 0 <ℤ (b +ℤ neg_ℤ a)
gap_pos a b h = omega (arith, ints)

-- one coordinate: a/d = (r + cz)/kc with 0 ≤ a/d < 1 and 0 ≤ r/c < 1
number : (k c d a r z : ℤ) → pos 0 <ℤ k → pos 0 <ℤ c → pos 0 <ℤ d → pos 0 ≤ℤ a → a <ℤ d → pos 0 ≤ℤ r → r <ℤ c → k *ℤ c *ℤ a ≡ d *ℤ (r +ℤ c *ℤ z) → IsBelow k z
number k c d a r z pk pc pd la ha lr hr e =
    let w : ℤ = r +ℤ c *ℤ z in
    let low : pos 0 ≤ℤ w = nonneg_of_mul d w pd (nonneg_is _ _ (sym e) (mul_nonneg _ _ (weaken_lt _ _ (mul_pos _ _ pk pc)) la)) in
    let next : pos 0 <ℤ (pos 1 +ℤ z) = pos_of_mul c (pos 1 +ℤ z) pc (pos_is _ _ (up c r z) (left_pos _ _ (gap_pos _ _ hr) low)) in
    let high : pos 0 <ℤ (k *ℤ c +ℤ neg_ℤ w) =
    pos_of_mul d (k *ℤ c +ℤ neg_ℤ w) pd (pos_is _ _ (across d (k *ℤ c) w ∙ (ap (λ (x : ℤ). d *ℤ (k *ℤ c) +ℤ neg_ℤ x) (sym e) ∙ back d (k *ℤ c) a)) (mul_pos _ _ (mul_pos _ _ pk pc) (gap_pos _ _ ha))) in
    let room : pos 0 <ℤ (k +ℤ neg_ℤ z) = pos_of_mul c (k +ℤ neg_ℤ z) pc (pos_is _ _ (down k c r z) (left_pos _ _ high lr)) in
    record { low = at_least z next; high = below z k room }
  where
    up : (c r z : ℤ) → c *ℤ (pos 1 +ℤ z) ≡ (c +ℤ neg_ℤ r) +ℤ (r +ℤ c *ℤ z)
    up c r z = by_integers (c ∷ r ∷ z ∷ []) (var 0 :* (con (pos 1) :+ var 2)) (var 0 :- var 1 :+ (var 1 :+ var 0 :* var 2)) refl

    across : (d x w : ℤ) → d *ℤ (x +ℤ neg_ℤ w) ≡ d *ℤ x +ℤ neg_ℤ (d *ℤ w)
    across d x w = by_integers (d ∷ x ∷ w ∷ []) (var 0 :* (var 1 :- var 2)) (var 0 :* var 1 :- var 0 :* var 2) refl

    back : (d x a : ℤ) → d *ℤ x +ℤ neg_ℤ (x *ℤ a) ≡ x *ℤ (d +ℤ neg_ℤ a)
    back d x a = by_integers (d ∷ x ∷ a ∷ []) (var 0 :* var 1 :- var 1 :* var 2) (var 1 :* (var 0 :- var 2)) refl

    down : (k c r z : ℤ) → c *ℤ (k +ℤ neg_ℤ z) ≡ (k *ℤ c +ℤ neg_ℤ (r +ℤ c *ℤ z)) +ℤ r
    down k c r z = by_integers (k ∷ c ∷ r ∷ z ∷ []) (var 1 :* (var 0 :- var 3)) (var 0 :* var 1 :- (var 2 :+ var 1 :* var 3) :+ var 2) refl

    at_least : (z : ℤ) → pos 0 <ℤ (pos 1 +ℤ z) → pos 0 ≤ℤ z
    at_least z h = omega (arith, ints)

    below : (z k : ℤ) → pos 0 <ℤ (k +ℤ neg_ℤ z) → z <ℤ k
    below z k h = omega (arith, ints)

-- and back: 0 ≤ (r + cz)/kc < 1
inside : (k c r z : ℤ) → pos 0 <ℤ c → pos 0 ≤ℤ r → r <ℤ c → IsBelow k z → IsBelow (k *ℤ c) (r +ℤ c *ℤ z)
inside k c r z pc lr hr b = record {
  low = add_nonneg _ _ lr (mul_nonneg _ _ (weaken_lt _ _ pc) b.low);
  high = below _ _ (pos_is _ _ (split k c r z) (left_pos _ _ (gap_pos _ _ hr) (mul_nonneg _ _ (weaken_lt _ _ pc) (room z k b.high))));
}
  where
    split : (k c r z : ℤ) → k *ℤ c +ℤ neg_ℤ (r +ℤ c *ℤ z) ≡ (c +ℤ neg_ℤ r) +ℤ c *ℤ (k +ℤ neg_ℤ (pos 1 +ℤ z))
    split k c r z = by_integers (k ∷ c ∷ r ∷ z ∷ []) (var 0 :* var 1 :- (var 2 :+ var 1 :* var 3)) (var 1 :- var 2 :+ var 1 :* (var 0 :- (con (pos 1) :+ var 3))) refl

    below : (z k : ℤ) → pos 0 <ℤ (k +ℤ neg_ℤ z) → z <ℤ k
    below z k h = omega (arith, ints)

    room : (z k : ℤ) → z <ℤ k → pos 0 ≤ℤ (k +ℤ neg_ℤ (pos 1 +ℤ z))
    room z k h = omega (arith, ints)

abbrev times_k : ℤ → Point → Point
times_k k p = point (multiple k p.numerators) p.denominator

-- r is the point of the cell that differs from b by whole translations
pub record IsReduced (b r : Point) : Type 0 where
  pub is_point : IsPoint r
  pub of_point : IsPoint b
  pub in_cell : IsInCell r
  pub floors : Triple
  pub is : InUnits r.denominator b (sum_of (multiple r.denominator floors) r.numerators)

-- b in finer units
finer : (d k : ℤ) (b : Point) (u : Triple) → InUnits d b u → InUnits (k *ℤ d) b (multiple k u)
finer d k b u a = record { is = out d k b.numerators ∙ (ap (multiple k) a.is ∙ swap k b.denominator u) }
  where
    out : (d k : ℤ) (v : Triple) → multiple (k *ℤ d) v ≡ multiple k (multiple d v)
    out d k v = by_triples (d ∷ k ∷ coordinates v) (formulas.multiple quoted (var 1 :* var 0) (vector_of_variables 2)) (formulas.multiple quoted (var 1) (formulas.multiple quoted (var 0) (vector_of_variables 2))) refl

    swap : (a b : ℤ) (z : Triple) → multiple a (multiple b z) ≡ multiple b (multiple a z)
    swap a b z = by_triples (a ∷ b ∷ coordinates z) (formulas.multiple quoted (var 0) (formulas.multiple quoted (var 1) (vector_of_variables 2))) (formulas.multiple quoted (var 1) (formulas.multiple quoted (var 0) (vector_of_variables 2))) refl

-- each of the k³ points is balanced and in the cell
pub place_balanced : (k : ℤ) (b r : Point) (z : Triple) → pos 0 <ℤ k → IsReduced b r → IsPlace k z → IsPoint (origin_at r k z) × (IsInCell (origin_at r k z) × SameModuloOne (times_k k (origin_at r k z)) b)
place_balanced k b r z pk i h =
    let c = r.denominator in
    let x = inside k c r.numerators.x z.x i.is_point.positive i.in_cell.x_low i.in_cell.x_high h.x in
    let y = inside k c r.numerators.y z.y i.is_point.positive i.in_cell.y_low i.in_cell.y_high h.y in
    let w = inside k c r.numerators.z z.z i.is_point.positive i.in_cell.z_low i.in_cell.z_high h.z in
    let u : Triple = multiple k (sum_of r.numerators (multiple c z)) in
    let v : Triple = multiple k (sum_of (multiple c i.floors) r.numerators) in
    (record { positive = mul_pos _ _ pk i.is_point.positive }, (record { x_low = x.low; x_high = x.high; y_low = y.low; y_high = y.high; z_low = w.low; z_high = w.high }, same_from (k *ℤ c) (times_k k (origin_at r k z)) b u v (mul_pos _ _ pk i.is_point.positive) (record { is = refl }) (finer c k b _ i.is) (record { quotient = difference z i.floors; is = apart k c r.numerators z i.floors })))
  where
    apart : (k c : ℤ) (r z f : Triple) → difference (multiple k (sum_of r (multiple c z))) (multiple k (sum_of (multiple c f) r)) ≡ multiple (k *ℤ c) (difference z f)
    apart k c r z f = by_triples (k ∷ c ∷ (coordinates r ++ coordinates z ++ coordinates f)) (formulas.difference quoted (formulas.multiple quoted (var 0) (formulas.sum_of quoted (vector_of_variables 2) (formulas.multiple quoted (var 1) (vector_of_variables 5)))) (formulas.multiple quoted (var 0) (formulas.sum_of quoted (formulas.multiple quoted (var 1) (vector_of_variables 8)) (vector_of_variables 2)))) (formulas.multiple quoted (var 0 :* var 1) (formulas.difference quoted (vector_of_variables 5) (vector_of_variables 8))) refl

-- each balanced point of the cell is one of them
pub balanced_place : (k : ℤ) (b r p : Point) → pos 0 <ℤ k → IsReduced b r → IsPoint p → IsInCell p → SameModuloOne (times_k k p) b → (z : Triple) × (IsPlace k z × Equal p (origin_at r k z))
balanced_place k b r p pk i tp cp s =
    let c = r.denominator in
    let a = p.denominator in
    let w = same_to (a *ℤ c) (times_k k p) b (multiple c (multiple k p.numerators)) (multiple a (sum_of (multiple c i.floors) r.numerators)) (record { positive = tp.positive }) i.of_point (record { is = split a c (multiple k p.numerators) }) (finer c a b _ i.is) s in
    let z : Triple = sum_of w.quotient i.floors in
    let e : multiple (k *ℤ c) p.numerators ≡ multiple a (sum_of r.numerators (multiple c z)) =
    regroup k c a p.numerators r.numerators w.quotient i.floors w.is in (
      z,
      (
        record {
          x = number k c a p.numerators.x r.numerators.x z.x pk i.is_point.positive tp.positive cp.x_low cp.x_high i.in_cell.x_low i.in_cell.x_high (ap (λ v. v.x) e);
          y = number k c a p.numerators.y r.numerators.y z.y pk i.is_point.positive tp.positive cp.y_low cp.y_high i.in_cell.y_low i.in_cell.y_high (ap (λ v. v.y) e);
          z = number k c a p.numerators.z r.numerators.z z.z pk i.is_point.positive tp.positive cp.z_low cp.z_high i.in_cell.z_low i.in_cell.z_high (ap (λ v. v.z) e);
        },
        record { is = e },
      ),
    )
  where
    split : (a c : ℤ) (v : Triple) → multiple (a *ℤ c) v ≡ multiple a (multiple c v)
    split a c v = by_triples (a ∷ c ∷ coordinates v) (formulas.multiple quoted (var 0 :* var 1) (vector_of_variables 2)) (formulas.multiple quoted (var 0) (formulas.multiple quoted (var 1) (vector_of_variables 2))) refl

    -- c k a - d (c f + r) = d c q gives k c a = d (r + c (q + f))
    regroup : (k c d : ℤ) (a r q f : Triple) → difference (multiple c (multiple k a)) (multiple d (sum_of (multiple c f) r)) ≡ multiple (d *ℤ c) q → multiple (k *ℤ c) a ≡ multiple d (sum_of r (multiple c (sum_of q f)))
    regroup k c d a r q f e =
        by_triples (k ∷ c ∷ d ∷ (coordinates a ++ coordinates r ++ coordinates f)) (formulas.multiple quoted (var 0 :* var 1) (vector_of_variables 3)) (formulas.sum_of quoted (formulas.difference quoted (formulas.multiple quoted (var 1) (formulas.multiple quoted (var 0) (vector_of_variables 3))) (formulas.multiple quoted (var 2) (formulas.sum_of quoted (formulas.multiple quoted (var 1) (vector_of_variables 9)) (vector_of_variables 6)))) (formulas.multiple quoted (var 2) (formulas.sum_of quoted (formulas.multiple quoted (var 1) (vector_of_variables 9)) (vector_of_variables 6)))) refl ∙ (ap (λ w. sum_of w (multiple d (sum_of (multiple c f) r))) e ∙ by_triples (c ∷ d ∷ (coordinates r ++ coordinates q ++ coordinates f)) (formulas.sum_of quoted (formulas.multiple quoted (var 1 :* var 0) (vector_of_variables 5)) (formulas.multiple quoted (var 1) (formulas.sum_of quoted (formulas.multiple quoted (var 0) (vector_of_variables 8)) (vector_of_variables 2)))) (formulas.multiple quoted (var 1) (formulas.sum_of quoted (vector_of_variables 2) (formulas.multiple quoted (var 0) (formulas.sum_of quoted (vector_of_variables 5) (vector_of_variables 8))))) refl)

-- and different z give different triples
pub places_differ : (k : ℤ) (r : Point) (y z : Triple) → pos 0 <ℤ k → IsPoint r → Equal (origin_at r k y) (origin_at r k z) → y ≡ z
places_differ k r y z pk t e =
    cancel_v r.denominator y z (not_zero _ t.positive) (left r.numerators y ∙ (ap (λ w. difference w r.numerators) (cancel_v (k *ℤ r.denominator) _ _ (not_zero _ (mul_pos _ _ pk t.positive)) e.is) ∙ sym (left r.numerators z)))
  where
    left : (a y : Triple) → multiple r.denominator y ≡ difference (sum_of a (multiple r.denominator y)) a
    left a y = by_triples (r.denominator ∷ (coordinates a ++ coordinates y)) (formulas.multiple quoted (var 0) (vector_of_variables 4)) (formulas.difference quoted (formulas.sum_of quoted (vector_of_variables 1) (formulas.multiple quoted (var 0) (vector_of_variables 4))) (vector_of_variables 1)) refl
