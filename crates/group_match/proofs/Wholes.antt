-- The congruences of pairs, one pair more; and what the least place at which they hold says of origins.
use Rattle.std.proofs.Common.{◌≡◌, refl, sym, ap, subst, ◌∙◌, inl, inr, ℕ, ◌+◌, ◌*◌, ◌^◌, ◌<◌, ◌≤◌, ℤ, pos, negsuc, ◌+ℤ◌, ◌-ℤ◌, ◌*ℤ◌, ◌≤ℤ◌, ◌<ℤ◌, List, [], ◌∷◌, take, map, get_or, length, arith}
use Rattle.std.specs.Prelude.{◌↔◌}
use Rattle.std.specs.Int.{int_rem_euclid, int_div_euclid}
use Rattle.std.proofs.lemmas.Int.{ints}
use Rattle.ring.specs.Ring.{var, ◌:+◌, ◌:*◌, ◌:-◌}
use Rattle.ring.specs.Size.{AtMost}
use Rattle.ring.proofs.IntOrder.{mul_pos}
use Rattle.numbers.specs.Fraction.{Fraction, lowest}
use Rattle.numbers.proofs.FractionLemmas.{Parts, lowest_parts, lowest_is}
use Rattle.lists.proofs.Members.{member_front, member_last, each_pushed}
use Rattle.lists.proofs.Walks.{take_read}
use Rattle.matrix3.specs.declared.vector.Vec3.{Vec3}
use Rattle.matrix3.specs.Matrices.{EachCoordinate, coordinates}
use Rattle.crystal_spec.specs.Matrices.{Triple, Matrix, difference}
use Rattle.crystal_spec.proofs.Identities.{by_integers}
use Rattle.crystal_spec.proofs.Entrywise.{triple_same}
use Rattle.positions.specs.Positions.{triple}
use Rattle.positions.proofs.Residues.{euclid, remainder_within}
use Rattle.match_spec.specs.Points.{point, IsWhole, Equal}
use Rattle.match_spec.specs.Fractions.{point_of}
use Rattle.match_spec.specs.Maps.{Pair}
use Rattle.match_spec.specs.FirstMap.{IsBefore}
use Rattle.match_spec.specs.BalancedPoints.{origin_at, IsBelow, IsPlace}
use Rattle.match_spec.specs.Searching.{gap_sum, excess_at, AllWhole}
use Rattle.match_spec.proofs.Bridge.{IsCoordinate, bridge}
use Rattle.group_match.specs.declared.pair.Matched.{Matched}
use Rattle.group_match.specs.declared.row.Rows.{Rows}
use Rattle.group_match.specs.Matching.{pair_of}
use Rattle.group_match.specs.Rows.{Passes, place, NoneBelow, SomeBelow, IsLeastPlace}
use Rattle.group_match.specs.Origins.{IsStart, HasPlace, HasNoPlace}
use Rattle.std.proofs.lemmas.List.{map_push}

-- one pair more
pub more_pairs : {A B : Type 0} (q : Matrix) (n : ℤ) (r : Triple) (k : ℤ) (xs : List Matched) (i : ℕ) (x : Matched) (z : Triple) → i < length xs → x ≡ get_or xs i x → A ↔ (IsWhole (k *ℤ (n *ℤ pos 12)) (excess_at q n r k z (pair_of x)) × B) → B ↔ AllWhole q n r k (map pair_of (take i xs)) z → A ↔ AllWhole q n r k (map pair_of (take (i + 1) xs)) z
more_pairs {A} {B} q n r k xs i x z below is step before =
    subst (λ cs. A ↔ AllWhole q n r k cs z) (sym (ap (map pair_of) (take_read xs i x below is) ∙ map_push pair_of (take i xs) x)) (
      (λ a. (let s = step.0 a in each_pushed (λ c. IsWhole (k *ℤ (n *ℤ pos 12)) (excess_at q n r k z c)) (map pair_of (take i xs)) (pair_of x) (before.0 s.1) s.0)),
      (λ w. step.1 (w (pair_of x) (member_last (map pair_of (take i xs)) (pair_of x)), before.1 (λ c m. w c (member_front (map pair_of (take i xs)) (pair_of x) c m)))),
    )

-- the rows say at which places the excess of each pair is whole
abbrev pub IsFor : Matrix → ℕ → Triple → ℕ → List Pair → Rows → Type 0
IsFor q n r k cs rows = (x y z : ℕ) → Passes k rows x y z ↔ AllWhole q (pos n) r (pos k) cs (place x y z)

-- ---- the start

pub start_is : (q : Matrix) (n : ℕ) (ds : List Pair) (b r : Triple) (d : ℤ) → 1 ≤ n → d ≡ pos n *ℤ pos 12 → b ≡ gap_sum q (pos n) ds → r.x ≡ int_rem_euclid b.x d → r.y ≡ int_rem_euclid b.y d → r.z ≡ int_rem_euclid b.z d → IsStart q (pos n) ds r
start_is q n ds b r d at_least ed eb ex ey ez = record {
  in_cell = record { x_low = (low b.x r.x ex).0; x_high = (low b.x r.x ex).1; y_low = (low b.y r.y ey).0; y_high = (low b.y r.y ey).1; z_low = (low b.z r.z ez).0; z_high = (low b.z r.z ez).1 };
  whole = subst (λ v. IsWhole (pos n *ℤ pos 12) (difference v r)) eb (record {
    quotient = triple (int_div_euclid b.x m) (int_div_euclid b.y m) (int_div_euclid b.z m);
    is = triple_same (apart b.x r.x ex) (apart b.y r.y ey) (apart b.z r.z ez);
  });
}
  where
    m : ℤ
    m = pos (n * 12)

    product : pos n *ℤ pos 12 ≡ pos (n * 12)
    product = omega (arith, ints)

    some : pos 0 <ℤ pos (n * 12)
    some = omega (arith, ints, at_least)

    low : (z s : ℤ) → s ≡ int_rem_euclid z d → (pos 0 ≤ℤ s) × (s <ℤ (pos n *ℤ pos 12))
    low z s e = subst (λ (c : ℤ). (pos 0 ≤ℤ s) × (s <ℤ c)) (sym product) (subst (λ (t : ℤ). (pos 0 ≤ℤ t) × (t <ℤ pos (n * 12))) (sym (e ∙ ap (int_rem_euclid z) (ed ∙ product))) (remainder_within z (n * 12) some))

    apart : (z s : ℤ) → s ≡ int_rem_euclid z d → z -ℤ s ≡ (pos n *ℤ pos 12) *ℤ int_div_euclid z (pos (n * 12))
    apart z s e =
        ap (λ (t : ℤ). z -ℤ t) (e ∙ ap (int_rem_euclid z) (ed ∙ product)) ∙ (ap (λ (t : ℤ). t -ℤ int_rem_euclid z (pos (n * 12))) (euclid z (n * 12) some) ∙ (by_integers (int_rem_euclid z (pos (n * 12)) ∷ pos (n * 12) ∷ int_div_euclid z (pos (n * 12)) ∷ []) ((var 0 :+ var 1 :* var 2) :- var 0) (var 1 :* var 2) refl ∙ ap (λ (c : ℤ). c *ℤ int_div_euclid z (pos (n * 12))) (sym product)))

pub start_size : (q : Matrix) (n : ℕ) (ds : List Pair) (r : Triple) → n ≤ 10 ^ 6 → IsStart q (pos n) ds r → EachCoordinate (AtMost (12 * 10 ^ 6)) r
start_size q n ds r most s = record { x = size r.x s.in_cell.x_low s.in_cell.x_high; y = size r.y s.in_cell.y_low s.in_cell.y_high; z = size r.z s.in_cell.z_low s.in_cell.z_high }
  where
    size : (z : ℤ) → pos 0 ≤ℤ z → z <ℤ (pos n *ℤ pos 12) → AtMost (12 * 10 ^ 6) z
    size (pos m) l h = record { size = omega (arith, ints, h, most) }
    size (negsuc m) l h = absurd l.le

-- ---- the least place

record IsNatural (k : ℕ) (z : ℤ) : Type 0 where
  value : ℕ
  below : value < k
  is : z ≡ pos value

natural : (k : ℕ) (z : ℤ) → IsBelow (pos k) z → IsNatural k z
natural k (pos n) b = record { value = n; below = less n b.high; is = refl }
  where
    less : (n : ℕ) → pos n <ℤ pos k → n < k
    less n h = omega (arith, ints, h)
natural k (negsuc n) b = absurd b.low.le

is_below : (k x : ℕ) → x < k → IsBelow (pos k) (pos x)
is_below k x h = record { low = omega (arith, ints); high = omega (arith, ints, h) }

less_of : (a x : ℕ) → pos a <ℤ pos x → a < x
less_of a x h = omega (arith, ints, h)

same_of : (a x : ℕ) → pos a ≡ pos x → a ≡ x
same_of a x h = omega (arith, ints, h)

no_earlier : (k : ℕ) (P : ℕ → ℕ → ℕ → Type 0) (x y z : ℕ) → IsLeastPlace k P x y z → (a b c : ℕ) → a < k → b < k → c < k → IsBefore (coordinates (place a b c)) (coordinates (place x y z)) → P a b c → ⊥
no_earlier k P x y z l a b c ha hb hc (inl h) p = l.first.earlier a (less_of a x h) (b, (hb, (c, (hc, p))))
no_earlier k P x y z l a b c ha hb hc (inr (e, inl h)) p = l.second.earlier b (less_of b y h) (c, (hc, subst (λ v. P v b c) (same_of a x e) p))
no_earlier k P x y z l a b c ha hb hc (inr (e, inr (f, inl h))) p = l.third.earlier c (less_of c z h) (subst (λ v. P x v c) (same_of b y f) (subst (λ v. P v b c) (same_of a x e) p))
no_earlier k P x y z l a b c ha hb hc (inr (e, inr (f, inr (g, h)))) p = absurd h

-- where the congruences of a pair cannot hold there is no place
pub no_place_at : (q : Matrix) (n : ℕ) (cs ds : List Pair) (r : Triple) → IsStart q (pos n) ds r → (k : ℕ) → k ≡ length ds → ((x y z : ℕ) → AllWhole q (pos n) r (pos k) cs (place x y z) → ⊥) → HasNoPlace q (pos n) cs ds
no_place_at q n cs ds r st k ek h = record { start = r; is_start = st; none = λ z iz w. none z (subst (λ (l : ℕ). IsPlace (pos l) z) (sym ek) iz) (subst (λ (l : ℕ). AllWhole q (pos n) r (pos l) cs z) (sym ek) w) }
  where
    none : (z : Triple) → IsPlace (pos k) z → AllWhole q (pos n) r (pos k) cs z → ⊥
    none z iz w =
        let a = natural k z.x iz.x in
        let b = natural k z.y iz.y in
        let c = natural k z.z iz.z in
        h a.value b.value c.value (subst (λ (t : Triple). AllWhole q (pos n) r (pos k) cs t) (triple_same a.is b.is c.is) w)

module _ (q : Matrix) (n : ℕ) (cs ds : List Pair) (r : Triple) (st : IsStart q (pos n) ds r) (k : ℕ) (ek : k ≡ length ds) (rows : Rows) (iff : (x y z : ℕ) → Passes k rows x y z ↔ AllWhole q (pos n) r (pos k) cs (place x y z)) where
  pub no_place : NoneBelow k (λ a. SomeBelow k (λ b. SomeBelow k (Passes k rows a b))) → HasNoPlace q (pos n) cs ds
  no_place h = record { start = r; is_start = st; none = λ z iz w. none z (subst (λ (l : ℕ). IsPlace (pos l) z) (sym ek) iz) (subst (λ (l : ℕ). AllWhole q (pos n) r (pos l) cs z) (sym ek) w) }
    where
      none : (z : Triple) → IsPlace (pos k) z → AllWhole q (pos n) r (pos k) cs z → ⊥
      none z iz w =
          let a = natural k z.x iz.x in
          let b = natural k z.y iz.y in
          let c = natural k z.z iz.z in
          h.none a.value a.below (b.value, (b.below, (c.value, (c.below, (iff a.value b.value c.value).1 (subst (λ (t : Triple). AllWhole q (pos n) r (pos k) cs t) (triple_same a.is b.is c.is) w)))))

  module _ (x y z : ℕ) (l : IsLeastPlace k (Passes k rows) x y z) (f : Vec3 Fraction) (ex : f.x ≡ lowest (r.x +ℤ (pos n *ℤ pos 12) *ℤ pos x) (pos k *ℤ (pos n *ℤ pos 12))) (ey : f.y ≡ lowest (r.y +ℤ (pos n *ℤ pos 12) *ℤ pos y) (pos k *ℤ (pos n *ℤ pos 12))) (ez : f.z ≡ lowest (r.z +ℤ (pos n *ℤ pos 12) *ℤ pos z) (pos k *ℤ (pos n *ℤ pos 12))) (some : 1 ≤ n) where
    passes : Passes k rows x y z
    passes = l.third.holds

    positive : pos 0 <ℤ (pos k *ℤ (pos n *ℤ pos 12))
    positive = mul_pos (pos k) (pos n *ℤ pos 12) (above k (below_some x k l.first.below)) (mul_pos (pos n) (pos 12) (above n some) (omega (arith, ints)))
      where
        above : (m : ℕ) → 1 ≤ m → pos 0 <ℤ pos m
        above m h = omega (arith, ints, h)

        below_some : (x k : ℕ) → x < k → 1 ≤ k
        below_some x k h = omega (arith, h)

    -- a denominator is positive
    below_one : (g : Fraction) (t : ℤ) → g ≡ lowest t (pos k *ℤ (pos n *ℤ pos 12)) → pos 0 <ℤ g.denominator
    below_one g t e = subst (λ (p : Fraction). pos 0 <ℤ p.denominator) (sym e) (lowest_is t (pos k *ℤ (pos n *ℤ pos 12)) positive).positive

    coordinate : (g : Fraction) (t : ℤ) → g ≡ lowest t (pos k *ℤ (pos n *ℤ pos 12)) → IsCoordinate t (pos k *ℤ (pos n *ℤ pos 12)) g
    coordinate g t e =
        let p : Fraction = lowest t (pos k *ℤ (pos n *ℤ pos 12)) in
        subst (IsCoordinate t (pos k *ℤ (pos n *ℤ pos 12))) (sym e) (record { is = ap (λ (c : ℤ). p.numerator *ℤ c) (sym w.lower) ∙ (by_integers (p.numerator ∷ p.denominator ∷ w.factor ∷ []) (var 0 :* (var 1 :* var 2)) ((var 0 :* var 2) :* var 1) refl ∙ ap (λ (c : ℤ). c *ℤ p.denominator) w.upper) })
      where
        w : Parts t (pos k *ℤ (pos n *ℤ pos 12)) (lowest t (pos k *ℤ (pos n *ℤ pos 12)))
        w = lowest_parts t (pos k *ℤ (pos n *ℤ pos 12)) positive

    pub place_is : HasPlace q (pos n) cs ds f
    place_is = record {
      start = r;
      is_start = st;
      z = place x y z;
      is_place = subst (λ (m : ℕ). IsPlace (pos m) (place x y z)) ek (record { x = is_below k x l.first.below; y = is_below k y l.second.below; z = is_below k z l.third.below });
      whole = subst (λ (m : ℕ). AllWhole q (pos n) r (pos m) cs (place x y z)) ek ((iff x y z).0 passes);
      earlier = λ v iv b w. none v (subst (λ (m : ℕ). IsPlace (pos m) v) (sym ek) iv) b (subst (λ (m : ℕ). AllWhole q (pos n) r (pos m) cs v) (sym ek) w);
      is_point = record { positive = mul_pos _ _ (below_one f.x _ ex) (mul_pos _ _ (below_one f.y _ ey) (below_one f.z _ ez)) };
      same = subst (λ (m : ℕ). Equal (origin_at (point r (pos n *ℤ pos 12)) (pos m) (place x y z)) (point_of f)) ek (bridge (origin_at (point r (pos n *ℤ pos 12)) (pos k) (place x y z)) f (record { x = coordinate f.x _ ex; y = coordinate f.y _ ey; z = coordinate f.z _ ez }));
    }
      where
        none : (v : Triple) → IsPlace (pos k) v → IsBefore (coordinates v) (coordinates (place x y z)) → AllWhole q (pos n) r (pos k) cs v → ⊥
        none v iv b w =
            let a = natural k v.x iv.x in
            let e = natural k v.y iv.y in
            let c = natural k v.z iv.z in
            let is : v ≡ place a.value e.value c.value = triple_same a.is e.is c.is in
            no_earlier k (Passes k rows) x y z l a.value e.value c.value a.below e.below c.below (subst (λ (t : Triple). IsBefore (coordinates t) (coordinates (place x y z))) is b) ((iff a.value e.value c.value).1 (subst (λ (t : Triple). AllWhole q (pos n) r (pos k) cs t) is w))
