-- A least balanced origin in other terms is one.
use Rattle.std.proofs.Common.{◌≡◌, inl, inr, ℤ, pos, ◌+ℤ◌, ◌*ℤ◌, neg_ℤ, ◌≤ℤ◌, ◌<ℤ◌, List, [], ◌∷◌, length, refl, sym, ◌∙◌, ap, subst, arith}
use Rattle.std.proofs.lemmas.Int.{ints}
use Rattle.ring.specs.Ring.{var, quoted, ◌:*◌, ◌:-◌}
use Rattle.ring.proofs.IntOrder.{mul_pos, mul_nonneg, nonneg_of_mul, weaken_lt}
use Rattle.matrix3.specs.Matrices.{coordinates, vector_of_variables}
use Rattle.matrix3.specs.Matrices as formulas
use Rattle.crystal_spec.specs.Matrices.{Triple, Matrix, product, multiple}
use Rattle.crystal_spec.specs.Operations.{Operation}
use Rattle.crystal_spec.proofs.Identities.{by_integers, by_triples}
use Rattle.match_spec.specs.Points.{Point, point, IsPoint, IsInCell, SameModuloOne, Equal}
use Rattle.match_spec.specs.Maps.{balance}
use Rattle.match_spec.specs.FirstMap.{IsLess, IsLeastOrigin}
use Rattle.match_spec.proofs.Wholes.{cancel, not_zero}
use Rattle.match_spec.proofs.Units.{InUnits, same_to, same_from}
use Rattle.match_spec.proofs.Candidates.{pos_of_mul}
use Rattle.match_spec.proofs.Firsts.{in_equal, carries_equal}
use Rattle.match_spec.proofs.Balances.{balance_point}

split : (a b : ℤ) (v : Triple) → multiple (a *ℤ b) v ≡ multiple a (multiple b v)
split a b v = by_triples (a ∷ b ∷ coordinates v) (formulas.multiple quoted (var 0 :* var 1) (vector_of_variables 2)) (formulas.multiple quoted (var 0) (formulas.multiple quoted (var 1) (vector_of_variables 2))) refl

swap : (a b : ℤ) (v : Triple) → multiple (a *ℤ b) v ≡ multiple b (multiple a v)
swap a b v = by_triples (a ∷ b ∷ coordinates v) (formulas.multiple quoted (var 0 :* var 1) (vector_of_variables 2)) (formulas.multiple quoted (var 1) (formulas.multiple quoted (var 0) (vector_of_variables 2))) refl

turn : (a b : ℤ) (v : Triple) → multiple a (multiple b v) ≡ multiple b (multiple a v)
turn a b v = by_triples (a ∷ b ∷ coordinates v) (formulas.multiple quoted (var 0) (formulas.multiple quoted (var 1) (vector_of_variables 2))) (formulas.multiple quoted (var 1) (formulas.multiple quoted (var 0) (vector_of_variables 2))) refl

-- points that differ by a whole translation, one of them in other terms
pub same_equal : (p s b : Point) → IsPoint p → IsPoint b → Equal p s → SameModuloOne p b → IsPoint s → SameModuloOne s b
same_equal p s b ip ib e w is =
    let d = p.denominator *ℤ b.denominator in
    let one : InUnits d p (multiple b.denominator p.numerators) = record { is = split p.denominator b.denominator p.numerators } in
    let two : InUnits d b (multiple p.denominator b.numerators) = record { is = swap p.denominator b.denominator b.numerators } in
    same_from d s b (multiple b.denominator p.numerators) (multiple p.denominator b.numerators) (mul_pos _ _ ip.positive ib.positive) (in_equal d p s _ ip e one) two (same_to d p b _ _ ip ib one two w)

-- one coordinate: x / d = y / f
low : (d f x y : ℤ) → pos 0 <ℤ d → pos 0 <ℤ f → f *ℤ x ≡ d *ℤ y → pos 0 ≤ℤ x → pos 0 ≤ℤ y
low d f x y pd pf e h = nonneg_of_mul d y pd (subst (λ (z : ℤ). pos 0 ≤ℤ z) e (mul_nonneg f x (weaken_lt _ _ pf) h))

high : (d f x y : ℤ) → pos 0 <ℤ d → pos 0 <ℤ f → f *ℤ x ≡ d *ℤ y → x <ℤ d → y <ℤ f
high d f x y pd pf e h =
    below y f (pos_of_mul d (f +ℤ neg_ℤ y) pd (subst (λ (z : ℤ). pos 0 <ℤ z) (there f d x ∙ (ap (λ (z : ℤ). f *ℤ d +ℤ neg_ℤ z) e ∙ back f d y)) (mul_pos f (d +ℤ neg_ℤ x) pf (above x d h))))
  where
    there : (f d x : ℤ) → f *ℤ (d +ℤ neg_ℤ x) ≡ f *ℤ d +ℤ neg_ℤ (f *ℤ x)
    there f d x = by_integers (f ∷ d ∷ x ∷ []) (var 0 :* (var 1 :- var 2)) (var 0 :* var 1 :- var 0 :* var 2) refl

    back : (f d y : ℤ) → f *ℤ d +ℤ neg_ℤ (d *ℤ y) ≡ d *ℤ (f +ℤ neg_ℤ y)
    back f d y = by_integers (f ∷ d ∷ y ∷ []) (var 0 :* var 1 :- var 1 :* var 2) (var 1 :* (var 0 :- var 2)) refl

    above : (x d : ℤ) → x <ℤ d → pos 0 <ℤ (d +ℤ neg_ℤ x)
    above x d h = omega (arith, ints, h)

    below : (y f : ℤ) → pos 0 <ℤ (f +ℤ neg_ℤ y) → y <ℤ f
    below y f h = omega (arith, ints, h)

in_cell_equal : (p s : Point) → IsPoint p → IsPoint s → Equal p s → IsInCell p → IsInCell s
in_cell_equal p s ip is e c = record {
  x_low = low p.denominator s.denominator p.numerators.x s.numerators.x ip.positive is.positive (ap (λ v. v.x) e.is) c.x_low;
  x_high = high p.denominator s.denominator p.numerators.x s.numerators.x ip.positive is.positive (ap (λ v. v.x) e.is) c.x_high;
  y_low = low p.denominator s.denominator p.numerators.y s.numerators.y ip.positive is.positive (ap (λ v. v.y) e.is) c.y_low;
  y_high = high p.denominator s.denominator p.numerators.y s.numerators.y ip.positive is.positive (ap (λ v. v.y) e.is) c.y_high;
  z_low = low p.denominator s.denominator p.numerators.z s.numerators.z ip.positive is.positive (ap (λ v. v.z) e.is) c.z_low;
  z_high = high p.denominator s.denominator p.numerators.z s.numerators.z ip.positive is.positive (ap (λ v. v.z) e.is) c.z_high;
}

-- u / g against x / d = y / f
less_other : (d f g x y u : ℤ) → pos 0 <ℤ d → pos 0 <ℤ f → f *ℤ x ≡ d *ℤ y → (f *ℤ u) <ℤ (g *ℤ y) → (d *ℤ u) <ℤ (g *ℤ x)
less_other d f g x y u pd pf e h =
    below (d *ℤ u) (g *ℤ x) (pos_of_mul f (g *ℤ x +ℤ neg_ℤ (d *ℤ u)) pf (subst (λ (z : ℤ). pos 0 <ℤ z) (there d f g y u ∙ (ap (λ (z : ℤ). g *ℤ z +ℤ neg_ℤ (f *ℤ (d *ℤ u))) (sym e) ∙ back d f g x u)) (mul_pos d (g *ℤ y +ℤ neg_ℤ (f *ℤ u)) pd (above (f *ℤ u) (g *ℤ y) h))))
  where
    there : (d f g y u : ℤ) → d *ℤ (g *ℤ y +ℤ neg_ℤ (f *ℤ u)) ≡ g *ℤ (d *ℤ y) +ℤ neg_ℤ (f *ℤ (d *ℤ u))
    there d f g y u = by_integers (d ∷ f ∷ g ∷ y ∷ u ∷ []) (var 0 :* (var 2 :* var 3 :- var 1 :* var 4)) (var 2 :* (var 0 :* var 3) :- var 1 :* (var 0 :* var 4)) refl

    back : (d f g x u : ℤ) → g *ℤ (f *ℤ x) +ℤ neg_ℤ (f *ℤ (d *ℤ u)) ≡ f *ℤ (g *ℤ x +ℤ neg_ℤ (d *ℤ u))
    back d f g x u = by_integers (d ∷ f ∷ g ∷ x ∷ u ∷ []) (var 2 :* (var 1 :* var 3) :- var 1 :* (var 0 :* var 4)) (var 1 :* (var 2 :* var 3 :- var 0 :* var 4)) refl

    above : (x d : ℤ) → x <ℤ d → pos 0 <ℤ (d +ℤ neg_ℤ x)
    above x d h = omega (arith, ints, h)

    below : (y f : ℤ) → pos 0 <ℤ (f +ℤ neg_ℤ y) → y <ℤ f
    below y f h = omega (arith, ints, h)

same_other : (d f g x y u : ℤ) → pos 0 <ℤ f → f *ℤ x ≡ d *ℤ y → f *ℤ u ≡ g *ℤ y → d *ℤ u ≡ g *ℤ x
same_other d f g x y u pf e h =
    cancel f (d *ℤ u) (g *ℤ x) (not_zero f pf) (exchange f d u ∙ (ap (λ (z : ℤ). d *ℤ z) h ∙ (exchange d g y ∙ (ap (λ (z : ℤ). g *ℤ z) (sym e) ∙ exchange g f x))))
  where
    exchange : (a b c : ℤ) → a *ℤ (b *ℤ c) ≡ b *ℤ (a *ℤ c)
    exchange a b c = by_integers (a ∷ b ∷ c ∷ []) (var 0 :* (var 1 :* var 2)) (var 1 :* (var 0 :* var 2)) refl

less_equal : (o p s : Point) → IsPoint p → IsPoint s → Equal p s → IsLess o s → IsLess o p
less_equal o p s ip is e h = by h
  where
    lx : (s.denominator *ℤ o.numerators.x) <ℤ (o.denominator *ℤ s.numerators.x) → (p.denominator *ℤ o.numerators.x) <ℤ (o.denominator *ℤ p.numerators.x)
    lx = less_other p.denominator s.denominator o.denominator p.numerators.x s.numerators.x o.numerators.x ip.positive is.positive (ap (λ v. v.x) e.is)

    ly : (s.denominator *ℤ o.numerators.y) <ℤ (o.denominator *ℤ s.numerators.y) → (p.denominator *ℤ o.numerators.y) <ℤ (o.denominator *ℤ p.numerators.y)
    ly = less_other p.denominator s.denominator o.denominator p.numerators.y s.numerators.y o.numerators.y ip.positive is.positive (ap (λ v. v.y) e.is)

    lz : (s.denominator *ℤ o.numerators.z) <ℤ (o.denominator *ℤ s.numerators.z) → (p.denominator *ℤ o.numerators.z) <ℤ (o.denominator *ℤ p.numerators.z)
    lz = less_other p.denominator s.denominator o.denominator p.numerators.z s.numerators.z o.numerators.z ip.positive is.positive (ap (λ v. v.z) e.is)

    sx : s.denominator *ℤ o.numerators.x ≡ o.denominator *ℤ s.numerators.x → p.denominator *ℤ o.numerators.x ≡ o.denominator *ℤ p.numerators.x
    sx = same_other p.denominator s.denominator o.denominator p.numerators.x s.numerators.x o.numerators.x is.positive (ap (λ v. v.x) e.is)

    sy : s.denominator *ℤ o.numerators.y ≡ o.denominator *ℤ s.numerators.y → p.denominator *ℤ o.numerators.y ≡ o.denominator *ℤ p.numerators.y
    sy = same_other p.denominator s.denominator o.denominator p.numerators.y s.numerators.y o.numerators.y is.positive (ap (λ v. v.y) e.is)

    by : IsLess o s → IsLess o p
    by (inl a) = inl (lx a)
    by (inr (a, inl b)) = inr (sx a, inl (ly b))
    by (inr (a, inr (b, inl c))) = inr (sx a, inr (sy b, inl (lz c)))
    by (inr (a, inr (b, inr (c, none)))) = absurd none

-- the least balanced origin in other terms
pub least_origin_equal : (s : Matrix) (h : List Operation) (n : ℤ) (m : List Operation) (c : Matrix) (p t : Point) → pos 0 <ℤ n → IsLeastOrigin s h n m c p → Equal p t → IsPoint t → IsLeastOrigin s h n m c t
least_origin_equal s h n m c p t pn l e it =
    let q = product c s in
    let k = pos (length l.pairs) in
    record {
      is_point = it;
      in_cell = in_cell_equal p t l.is_point it e l.in_cell;
      pairs = l.pairs;
      are_pairs = l.are_pairs;
      balanced = same_equal (point (multiple k p.numerators) p.denominator) (point (multiple k t.numerators) t.denominator) (balance q n l.pairs) (record { positive = l.is_point.positive }) (balance_point q n l.pairs pn) (record { is = turn t.denominator k p.numerators ∙ (ap (multiple k) e.is ∙ turn k p.denominator t.numerators) }) l.balanced (record { positive = it.positive });
      carries = carries_equal q p t h n m pn l.is_point e l.carries;
      least = λ o io co bo ca less. l.least o io co bo ca (less_equal o p t l.is_point it e less);
    }
