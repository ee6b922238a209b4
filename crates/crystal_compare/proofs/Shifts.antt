-- Translation parts in steps, and as fractions.
--   IsRatio t n f      f is t / n
--   AreRatios t n f    so it is in each coordinate
use Rattle.std.proofs.Common.{◌≡◌, ℤ, pos, negsuc, ◌+ℤ◌, ◌*ℤ◌, neg_ℤ, ◌≤ℤ◌, ◌<ℤ◌, [], ◌∷◌, refl, sym, ap, subst, ◌∙◌, arith}
use Rattle.std.specs.Int.{int_rem_euclid, int_div_euclid}
use Rattle.std.specs.declared.cmp.Ordering.{Ordering}
use Rattle.std.specs.declared.cmp.Ordering.TheVariants.{Less, Equal, Greater}
use Rattle.std.specs.Ordering.{int_cmp}
use Rattle.std.specs.Ordering.{MatchOrdering}
use Rattle.std.specs.Cmp.{int_cmp_is, int_ranks}
use Rattle.std.proofs.lemmas.Int.{ints}
use Rattle.ring.specs.Ring.{var, ◌:*◌, ◌:+◌, ◌:-◌}
use Rattle.ring.proofs.IntOrder.{mul_pos, mul_nonneg, nonneg_of_mul}
use Rattle.numbers.specs.Fraction.{Fraction, fraction, IsLowest, lowest}
use Rattle.numbers.proofs.FractionLemmas.{cancel, lowest_parts, lowest_is, lowest_same, lowest_fixed}
use Rattle.matrix3.specs.declared.vector.Vec3.{Vec3}
use Rattle.matrix3.specs.Matrices.{EachCoordinate}
use Rattle.crystal_spec.specs.Matrices.{Triple, multiple, sum_of, difference}
use Rattle.crystal_spec.proofs.Entrywise.{triple_same}
use Rattle.crystal_spec.proofs.Identities.{by_integers}
use Rattle.basis_spec.proofs.Positive.{pos_of_mul}
use Rattle.positions.proofs.Residues.{euclid, remainder_within}
use Rattle.crystal_compare.specs.Maps.{IsMoreBy, IsMovedBy, IsWithinOne}
use Rattle.crystal_compare.specs.AnyMaps.{modulo_one}
use Rattle.crystal_compare.specs.Lists.{fraction_order}

-- f is t / n
pub record IsRatio (t n : ℤ) (f : Fraction) : Type 0 where
  pub cross : f.numerator *ℤ n ≡ t *ℤ f.denominator
  pub positive : pos 0 <ℤ f.denominator

-- ---- lowest terms
pub lowest_ratio : (t n : ℤ) → pos 0 <ℤ n → IsRatio t n (lowest t n)
lowest_ratio t n h =
    let p = lowest_parts t n h in
    let f = lowest t n in
    record {
      cross = ap (λ z. f.numerator *ℤ z) (sym p.lower) ∙ by_integers (f.numerator ∷ f.denominator ∷ p.factor ∷ []) (var 0 :* (var 1 :* var 2)) ((var 0 :* var 2) :* var 1) refl ∙ ap (λ z. z *ℤ f.denominator) p.upper;
      positive = (lowest_is t n h).positive;
    }

pub ratio_lowest : (t n : ℤ) (f : Fraction) → pos 0 <ℤ n → IsLowest f → IsRatio t n f → f ≡ lowest t n
ratio_lowest t n f h l r = sym (lowest_fixed f l) ∙ lowest_same f.numerator f.denominator t n r.positive h r.cross

-- ---- positions

-- e q = m x + t says that q / m is x / e and t / (e m)
pub more_by : (x e t q m : ℤ) (f : Fraction) → IsRatio t (e *ℤ m) f → e *ℤ q ≡ m *ℤ x +ℤ t → IsMoreBy x e f q m
more_by x e t q m f r h =
    by_integers (q ∷ e ∷ f.denominator ∷ []) (var 0 :* (var 1 :* var 2)) ((var 1 :* var 0) :* var 2) refl
    ∙ ap (λ z. z *ℤ f.denominator) h
    ∙ by_integers (m ∷ x ∷ t ∷ f.denominator ∷ []) ((var 0 :* var 1 :+ var 2) :* var 3) ((var 0 :* var 1) :* var 3 :+ var 2 :* var 3) refl
    ∙ ap (λ z. (m *ℤ x) *ℤ f.denominator +ℤ z) (sym r.cross)
    ∙ by_integers (m ∷ x ∷ f.denominator ∷ f.numerator ∷ e ∷ []) ((var 0 :* var 1) :* var 2 :+ var 3 :* (var 4 :* var 0)) (var 0 :* (var 1 :* var 2 :+ var 4 :* var 3)) refl

pub less_by : (x e t q m : ℤ) (f : Fraction) → IsRatio t (e *ℤ m) f → IsMoreBy x e f q m → e *ℤ q ≡ m *ℤ x +ℤ t
less_by x e t q m f r h = cancel (e *ℤ q) (m *ℤ x +ℤ t) f.denominator r.positive (
    by_integers (q ∷ e ∷ f.denominator ∷ []) ((var 1 :* var 0) :* var 2) (var 0 :* (var 1 :* var 2)) refl
    ∙ h
    ∙ by_integers (m ∷ x ∷ f.denominator ∷ f.numerator ∷ e ∷ []) (var 0 :* (var 1 :* var 2 :+ var 4 :* var 3)) ((var 0 :* var 1) :* var 2 :+ var 3 :* (var 4 :* var 0)) refl
    ∙ ap (λ z. (m *ℤ x) *ℤ f.denominator +ℤ z) r.cross
    ∙ by_integers (m ∷ x ∷ t ∷ f.denominator ∷ []) ((var 0 :* var 1) :* var 3 :+ var 2 :* var 3) ((var 0 :* var 1 :+ var 2) :* var 3) refl)

-- one atom tells the translation part in steps
pub ratio_of : (x e q m : ℤ) (f : Fraction) → pos 0 <ℤ f.denominator → IsMoreBy x e f q m → IsRatio (e *ℤ q +ℤ neg_ℤ (m *ℤ x)) (e *ℤ m) f
ratio_of x e q m f p h = record {
  cross = by_integers (m ∷ x ∷ f.denominator ∷ f.numerator ∷ e ∷ []) (var 3 :* (var 4 :* var 0)) (var 0 :* (var 1 :* var 2 :+ var 4 :* var 3) :- var 0 :* (var 1 :* var 2)) refl
      ∙ ap (λ z. z +ℤ neg_ℤ (m *ℤ (x *ℤ f.denominator))) (sym h)
      ∙ by_integers (m ∷ x ∷ f.denominator ∷ q ∷ e ∷ []) (var 3 :* (var 4 :* var 2) :- var 0 :* (var 1 :* var 2)) ((var 4 :* var 3 :- var 0 :* var 1) :* var 2) refl;
  positive = p;
}

-- ---- within one cell
apart : (a b : ℤ) → a <ℤ b → pos 0 <ℤ (b +ℤ neg_ℤ a)
apart a b h = omega (arith, ints)

closer : (a b : ℤ) → pos 0 <ℤ (b +ℤ neg_ℤ a) → a <ℤ b
closer a b h = omega (arith, ints)

-- a fraction from 0 to below 1 is from 0 to n - 1 steps
pub steps_within : (t n : ℤ) (f : Fraction) → pos 0 <ℤ n → IsRatio t n f → pos 0 ≤ℤ f.numerator → f.numerator <ℤ f.denominator → (pos 0 ≤ℤ t) × (t <ℤ n)
steps_within t n f h r low high = (
  nonneg_of_mul f.denominator t r.positive (subst (λ z. pos 0 ≤ℤ z) (r.cross ∙ by_integers (t ∷ f.denominator ∷ []) (var 0 :* var 1) (var 1 :* var 0) refl) (mul_nonneg f.numerator n low (omega (arith, ints, h)))),
  closer t n (pos_of_mul f.denominator (n +ℤ neg_ℤ t) r.positive (subst (λ z. pos 0 <ℤ z) turned (mul_pos n (f.denominator +ℤ neg_ℤ f.numerator) h (apart f.numerator f.denominator high)))),
)
  where
    turned : n *ℤ (f.denominator +ℤ neg_ℤ f.numerator) ≡ f.denominator *ℤ (n +ℤ neg_ℤ t)
    turned = by_integers (n ∷ f.denominator ∷ f.numerator ∷ []) (var 0 :* (var 1 :- var 2)) (var 0 :* var 1 :- var 2 :* var 0) refl
        ∙ ap (λ z. n *ℤ f.denominator +ℤ neg_ℤ z) r.cross
        ∙ by_integers (n ∷ f.denominator ∷ t ∷ []) (var 0 :* var 1 :- var 2 :* var 1) (var 1 :* (var 0 :- var 2)) refl

-- and the other way round
pub fraction_within : (t n : ℤ) → pos 0 <ℤ n → pos 0 ≤ℤ t → t <ℤ n → IsWithinOne (lowest t n)
fraction_within t n h low high =
    let r = lowest_ratio t n h in
    let f = lowest t n in
    record {
      lowest = lowest_is t n h;
      at_least = nonneg_of_mul n f.numerator h (subst (λ z. pos 0 ≤ℤ z) (sym r.cross ∙ by_integers (f.numerator ∷ n ∷ []) (var 0 :* var 1) (var 1 :* var 0) refl) (mul_nonneg t f.denominator low (omega (arith, ints, r.positive))));
      below = closer f.numerator f.denominator (pos_of_mul n (f.denominator +ℤ neg_ℤ f.numerator) h (subst (λ z. pos 0 <ℤ z) (turned f r) (mul_pos f.denominator (n +ℤ neg_ℤ t) r.positive (apart t n high))));
    }
  where
    turned : (f : Fraction) → IsRatio t n f → f.denominator *ℤ (n +ℤ neg_ℤ t) ≡ n *ℤ (f.denominator +ℤ neg_ℤ f.numerator)
    turned f r = by_integers (n ∷ f.denominator ∷ t ∷ []) (var 1 :* (var 0 :- var 2)) (var 0 :* var 1 :- var 2 :* var 1) refl
        ∙ ap (λ z. n *ℤ f.denominator +ℤ neg_ℤ z) (sym r.cross)
        ∙ by_integers (n ∷ f.denominator ∷ f.numerator ∷ []) (var 0 :* var 1 :- var 2 :* var 0) (var 0 :* (var 1 :- var 2)) refl

-- ---- modulo 1

-- a fraction modulo 1, in steps within one cell
pub record Rest (t n : ℤ) (f : Fraction) : Type 0 where
  pub cells : ℤ
  pub steps : ℤ
  pub same : t ≡ steps +ℤ n *ℤ cells
  pub at_least : pos 0 ≤ℤ steps
  pub below : steps <ℤ n
  pub is : modulo_one f ≡ lowest steps n

pub rest_of : (t n : ℤ) (f : Fraction) → pos 0 <ℤ n → IsRatio t n f → Rest t n f
rest_of t n f h r = by f.numerator f.denominator r.cross r.positive
  where
    by : (a d : ℤ) → a *ℤ n ≡ t *ℤ d → pos 0 <ℤ d → Rest t n (fraction a d)
    by a (negsuc d) e p = absurd p.lt
    by a (pos d) e p =
        let k = int_div_euclid a (pos d) in
        let rest = int_rem_euclid a (pos d) in
        let u = t +ℤ neg_ℤ (n *ℤ k) in
        let division = euclid a d p in
        let within = remainder_within a d p in
        let cross : rest *ℤ n ≡ u *ℤ pos d =
        by_integers (rest ∷ n ∷ pos d ∷ k ∷ []) (var 0 :* var 1) ((var 0 :+ var 2 :* var 3) :* var 1 :- (var 1 :* var 3) :* var 2) refl ∙ ap (λ z. z *ℤ n +ℤ neg_ℤ ((n *ℤ k) *ℤ pos d)) (sym division) ∙ ap (λ z. z +ℤ neg_ℤ ((n *ℤ k) *ℤ pos d)) e
        ∙ by_integers (t ∷ n ∷ pos d ∷ k ∷ []) (var 0 :* var 2 :- (var 1 :* var 3) :* var 2) ((var 0 :- var 1 :* var 3) :* var 2) refl in
        let in_cell = steps_within u n (fraction rest (pos d)) h (record { cross = cross; positive = p }) within.0 within.1 in
        record {
          cells = k;
          steps = u;
          same = by_integers (t ∷ n ∷ k ∷ []) (var 0) ((var 0 :- var 1 :* var 2) :+ var 1 :* var 2) refl;
          at_least = in_cell.0;
          below = in_cell.1;
          is = lowest_same rest (pos d) u n p h cross;
        }

-- ---- the order
rank_more : (o : Ordering) {A B C A' B' C' : Type 0} → (A → A') → (B → B') → (C → C') → MatchOrdering o A B C → MatchOrdering o A' B' C'
rank_more Less f g h m = f m
rank_more Equal f g h m = g m
rank_more Greater f g h m = h m

-- a positive factor leaves the order
pub order_scaled : (x y k : ℤ) → pos 0 <ℤ k → int_cmp (x *ℤ k) (y *ℤ k) ≡ int_cmp x y
order_scaled x y k h = sym (int_cmp_is (x *ℤ k) (y *ℤ k) (int_cmp x y) (rank_more (int_cmp x y) (more x y) (ap (λ z. z *ℤ k)) (more y x) (int_ranks x y)))
  where
    more : (x y : ℤ) → x <ℤ y → (x *ℤ k) <ℤ (y *ℤ k)
    more x y p = closer (x *ℤ k) (y *ℤ k) (subst (λ z. pos 0 <ℤ z) (by_integers (x ∷ y ∷ k ∷ []) ((var 1 :- var 0) :* var 2) (var 1 :* var 2 :- var 0 :* var 2) refl) (mul_pos (y +ℤ neg_ℤ x) k (apart x y p) h))

-- fractions of one number of steps are in the order of the steps
pub fraction_order-lowest : (a b n : ℤ) → pos 0 <ℤ n → fraction_order (lowest a n) (lowest b n) ≡ int_cmp a b
fraction_order-lowest a b n h =
    let p = lowest_parts a n h in
    let q = lowest_parts b n h in
    let f = lowest a n in
    let g = lowest b n in
    let k = p.factor *ℤ q.factor in
    let left : (f.numerator *ℤ g.denominator) *ℤ k ≡ a *ℤ n =
    by_integers (f.numerator ∷ g.denominator ∷ p.factor ∷ q.factor ∷ []) ((var 0 :* var 1) :* (var 2 :* var 3)) ((var 0 :* var 2) :* (var 1 :* var 3)) refl ∙ ap (λ z. z *ℤ (g.denominator *ℤ q.factor)) p.upper ∙ ap (λ z. a *ℤ z) q.lower in
    let right : (g.numerator *ℤ f.denominator) *ℤ k ≡ b *ℤ n =
    by_integers (g.numerator ∷ f.denominator ∷ p.factor ∷ q.factor ∷ []) ((var 0 :* var 1) :* (var 2 :* var 3)) ((var 0 :* var 3) :* (var 1 :* var 2)) refl ∙ ap (λ z. z *ℤ (f.denominator *ℤ p.factor)) q.upper ∙ ap (λ z. b *ℤ z) p.lower in
    sym (order_scaled (f.numerator *ℤ g.denominator) (g.numerator *ℤ f.denominator) k (mul_pos p.factor q.factor p.positive q.positive)) ∙ (λ i. int_cmp (left i) (right i)) ∙ order_scaled a b n h

-- ---- coordinate by coordinate
pub record AreRatios (t : Triple) (n : ℤ) (f : Vec3 Fraction) : Type 0 where
  pub x : IsRatio t.x n f.x
  pub y : IsRatio t.y n f.y
  pub z : IsRatio t.z n f.z

pub moved_by : (p t q : Triple) (e m : ℤ) (f : Vec3 Fraction) → AreRatios t (e *ℤ m) f → multiple e q ≡ sum_of (multiple m p) t → IsMovedBy p e f q m
moved_by p t q e m f r h = record {
  x = more_by p.x e t.x q.x m f.x r.x (ap (λ (v : Triple). v.x) h);
  y = more_by p.y e t.y q.y m f.y r.y (ap (λ (v : Triple). v.y) h);
  z = more_by p.z e t.z q.z m f.z r.z (ap (λ (v : Triple). v.z) h);
}

pub moved_from : (p t q : Triple) (e m : ℤ) (f : Vec3 Fraction) → AreRatios t (e *ℤ m) f → IsMovedBy p e f q m → multiple e q ≡ sum_of (multiple m p) t
moved_from p t q e m f r h = triple_same (less_by p.x e t.x q.x m f.x r.x h.x) (less_by p.y e t.y q.y m f.y r.y h.y) (less_by p.z e t.z q.z m f.z r.z h.z)

pub ratios_of : (p q : Triple) (e m : ℤ) (f : Vec3 Fraction) → EachCoordinate (λ (g : Fraction). pos 0 <ℤ g.denominator) f → IsMovedBy p e f q m → AreRatios (difference (multiple e q) (multiple m p)) (e *ℤ m) f
ratios_of p q e m f d h = record { x = ratio_of p.x e q.x m f.x d.x h.x; y = ratio_of p.y e q.y m f.y d.y h.y; z = ratio_of p.z e q.z m f.z d.z h.z }
