-- An origin shift in other numbers: what is defined by it stays the same. And one whose denominator is large makes places fine.
use Rattle.std.proofs.Common.{◌≡◌, ℕ, ◌*◌, ◌^◌, ◌<◌, ◌≤◌, ℤ, pos, negsuc, ◌+ℤ◌, ◌*ℤ◌, neg_ℤ, ◌<ℤ◌, ◌≤ℤ◌, List, [], ◌∷◌, ◌++◌, refl, sym, ap, subst, ◌∙◌, arith, mul-le-mul}
use Rattle.std.specs.Prelude.{unsigned_abs}
use Rattle.std.specs.Int.{◌∣◌}
use Rattle.std.proofs.lemmas.Int.{ints, unsigned_abs-mul}
use Rattle.lists.specs.Increasing.{IsMember}
use Rattle.matrix3.specs.Matrices as formulas
use Rattle.ring.specs.Ring.{var, con, quoted, ◌:-◌, ◌:*◌}
use Rattle.ring.specs.Size.{AtMost}
use Rattle.ring.proofs.IntOrder.{mul_pos, mul_nonneg, nonneg_of_mul, weaken_lt}
use Rattle.numbers.specs.Gcd.{gcd}
use Rattle.numbers.proofs.GcdLemmas.{gcd-swap, gauss}
use Rattle.matrix3.specs.declared.vector.Vec3.{Vec3}
use Rattle.matrix3.specs.Matrices.{entries, coordinates, matrix_of_variables, vector_of_variables, vector_map, EachCoordinate}
use Rattle.exact_num.specs.Meanings.{fraction_of}
use Rattle.exact_num.specs.declared.frac.Frac.{Frac}
use Rattle.crystal_spec.specs.Matrices.{Triple, Matrix, image, determinant, multiple, sum_of, difference}
use Rattle.crystal_spec.specs.Crystals.{Atom, Structure}
use Rattle.crystal_spec.proofs.Identities.{by_integers, by_triples}
use Rattle.crystal_spec.proofs.Entrywise.{triple_same}
use Rattle.basis_spec.proofs.Cancelling.{mul_cancel, multiple_cancel}
use Rattle.positions.specs.Positions.{origin}
use Rattle.match_spec.specs.Points.{Point, point, IsInCell}
use Rattle.match_spec.specs.Fractions.{point_of}
use Rattle.standard_cell.specs.declared.origin.Origin.{Origin}
use Rattle.standard_cell.specs.declared.frame.Frame.{Frame}
use Rattle.standard_cell.specs.Frames.{origin_of}
use Rattle.standard_cell.specs.BasisPlaces.{IsPlaceOf, IsCommonDenominator, IsLeastDenominator}
use Rattle.standard_cell.specs.StandardCells.{IsAtomOf, IsBlock, AreBlocks, IsStandard, IsWithinLimits}
use Rattle.standard_cell.specs.Origins.{DenominatorsDivide, IsOrigin}
use Rattle.standard_cell.proofs.Links.{IsLink}
use Rattle.standard_cell.proofs.Placed.{placed}
use Rattle.standard_cell.proofs.Commons.{to_natural}

-- ---- one origin shift in two ways

link_origin : (q : Matrix) (u v : Triple) (d e n m : ℤ) (x y : Triple) → pos 0 <ℤ d → multiple e u ≡ multiple d v → IsLink q u d n m x y → IsLink q v e n m x y
link_origin q u v d e n m x y above same l =
    multiple_cancel d (multiple n (sum_of (multiple e (image q x)) (multiple m v))) (multiple (m *ℤ e) y) above
    (left (image q x) ∙ ap (λ w. multiple n (sum_of (multiple (d *ℤ e) (image q x)) (multiple m w))) (sym same) ∙ middle (image q x) ∙ ap (multiple e) l ∙ right)
  where
    left : (w : Triple) → multiple d (multiple n (sum_of (multiple e w) (multiple m v))) ≡ multiple n (sum_of (multiple (d *ℤ e) w) (multiple m (multiple d v)))
    left w = by_triples (d ∷ e ∷ n ∷ m ∷ coordinates w ++ coordinates v) (formulas.multiple quoted (var 0) (formulas.multiple quoted (var 2) (formulas.sum_of quoted (formulas.multiple quoted (var 1) (vector_of_variables 4)) (formulas.multiple quoted (var 3) (vector_of_variables 7)))))
        (formulas.multiple quoted (var 2) (formulas.sum_of quoted (formulas.multiple quoted (var 0 :* var 1) (vector_of_variables 4)) (formulas.multiple quoted (var 3) (formulas.multiple quoted (var 0) (vector_of_variables 7))))) refl

    middle : (w : Triple) → multiple n (sum_of (multiple (d *ℤ e) w) (multiple m (multiple e u))) ≡ multiple e (multiple n (sum_of (multiple d w) (multiple m u)))
    middle w = by_triples (d ∷ e ∷ n ∷ m ∷ coordinates w ++ coordinates u) (formulas.multiple quoted (var 2) (formulas.sum_of quoted (formulas.multiple quoted (var 0 :* var 1) (vector_of_variables 4)) (formulas.multiple quoted (var 3) (formulas.multiple quoted (var 1) (vector_of_variables 7)))))
        (formulas.multiple quoted (var 1) (formulas.multiple quoted (var 2) (formulas.sum_of quoted (formulas.multiple quoted (var 0) (vector_of_variables 4)) (formulas.multiple quoted (var 3) (vector_of_variables 7))))) refl

    right : multiple e (multiple (m *ℤ d) y) ≡ multiple d (multiple (m *ℤ e) y)
    right = by_triples (d ∷ e ∷ m ∷ coordinates y) (formulas.multiple quoted (var 1) (formulas.multiple quoted (var 2 :* var 0) (vector_of_variables 3))) (formulas.multiple quoted (var 0) (formulas.multiple quoted (var 2 :* var 1) (vector_of_variables 3))) refl

place_at : (c : Structure) (q : Matrix) (p r : Point) → pos 0 <ℤ p.denominator → multiple r.denominator p.numerators ≡ multiple p.denominator r.numerators → (a : Atom) (x : Point) → IsPlaceOf c q p a x → IsPlaceOf c q r a x
place_at c q p r above same a x h = record {
  is_point = h.is_point;
  in_cell = h.in_cell;
  position = h.position;
  away = h.away;
  is = record { is = link_origin q p.numerators r.numerators p.denominator r.denominator (pos c.n) x.denominator x.numerators h.position above same h.is.is };
}

module _ (c : Structure) (q : Matrix) (p r : Point) (p_above : pos 0 <ℤ p.denominator) (r_above : pos 0 <ℤ r.denominator) (same : multiple r.denominator p.numerators ≡ multiple p.denominator r.numerators) where
  common_at : (n : ℕ) → IsCommonDenominator c q p n → IsCommonDenominator c q r n
  common_at n h a x of_cell place = h a x of_cell (place_at c q r p r_above (sym same) a x place)

  common_back : (n : ℕ) → IsCommonDenominator c q r n → IsCommonDenominator c q p n
  common_back n h a x of_cell place = h a x of_cell (place_at c q p r p_above same a x place)

  least_at : (n : ℕ) → IsLeastDenominator c q p n → IsLeastDenominator c q r n
  least_at n h = record { positive = h.positive; common = common_at n h.common; least = λ m m_above k. h.least m m_above (common_back m k) }

  atom_at : (n : ℕ) (a b : Atom) → IsAtomOf c q p n a b → IsAtomOf c q r n a b
  atom_at n a b h = record { species = h.species; place = place_at c q p r p_above same a (point b.position (pos n)) h.place; moment = h.moment }

  atom_back : (n : ℕ) (a b : Atom) → IsAtomOf c q r n a b → IsAtomOf c q p n a b
  atom_back n a b h = record { species = h.species; place = place_at c q r p r_above (sym same) a (point b.position (pos n)) h.place; moment = h.moment }

  block_at : (n : ℕ) (a : Atom) (copies : List Atom) → IsBlock c q p n a copies → IsBlock c q r n a copies
  block_at n a copies h = record { increasing = h.increasing; exact = λ b. ((λ m. atom_at n a b ((h.exact b).0 m)), (λ k. (h.exact b).1 (atom_back n a b k))) }

  blocks_at : (n : ℕ) (atoms copies : List Atom) → AreBlocks c q p n atoms copies → AreBlocks c q r n atoms copies
  blocks_at n [] copies h = h
  blocks_at n (a ∷ atoms) copies (block, (rest, (is, (one, more)))) = (block, (rest, (is, (block_at n a block one, blocks_at n atoms rest more))))

  -- the standard cell is the same
  pub standard_at : (s : Structure) → IsStandard c q p s → IsStandard c q r s
  standard_at s h = record { names = h.names; scale = h.scale; metric = h.metric; n = least_at s.n h.n; k = h.k; kind = h.kind; atoms = blocks_at s.n c.atoms s.atoms h.atoms }

-- ---- three fractions over one denominator

one_coordinate : (u dx num parts w : ℤ) → u *ℤ dx ≡ num *ℤ parts → parts *ℤ (num *ℤ w) ≡ (dx *ℤ w) *ℤ u
one_coordinate u dx num parts w e =
    by_integers (parts ∷ num ∷ w ∷ []) (var 0 :* (var 1 :* var 2)) ((var 1 :* var 0) :* var 2) refl ∙ ap (λ (z : ℤ). z *ℤ w) (sym e) ∙ by_integers (u ∷ dx ∷ w ∷ []) ((var 0 :* var 1) :* var 2) ((var 1 :* var 2) :* var 0) refl

pub origin_same : (f : Vec3 Frac) (o : Origin) → IsOrigin f o → multiple o.parts (point_of (vector_map fraction_of f)).numerators ≡ multiple (point_of (vector_map fraction_of f)).denominator o.shift
origin_same f o h =
    let dx = (fraction_of f.x).denominator in
    let dy = (fraction_of f.y).denominator in
    let dz = (fraction_of f.z).denominator in
    triple_same (one_coordinate o.shift.x dx (fraction_of f.x).numerator o.parts (dy *ℤ dz) h.x)
    (one_coordinate o.shift.y dy (fraction_of f.y).numerator o.parts (dx *ℤ dz) h.y ∙ ap (λ (z : ℤ). z *ℤ o.shift.y) (by_integers (dx ∷ dy ∷ dz ∷ []) (var 1 :* (var 0 :* var 2)) (var 0 :* (var 1 :* var 2)) refl))
    (one_coordinate o.shift.z dz (fraction_of f.z).numerator o.parts (dx *ℤ dy) h.z ∙ ap (λ (z : ℤ). z *ℤ o.shift.z) (by_integers (dx ∷ dy ∷ dz ∷ []) (var 2 :* (var 0 :* var 1)) (var 0 :* (var 1 :* var 2)) refl))

pub denominator_above : (f : Vec3 Frac) → pos 0 <ℤ (point_of (vector_map fraction_of f)).denominator
denominator_above f = mul_pos (fraction_of f.x).denominator ((fraction_of f.y).denominator *ℤ (fraction_of f.z).denominator) f.x.lowest.positive (mul_pos (fraction_of f.y).denominator (fraction_of f.z).denominator f.y.lowest.positive f.z.lowest.positive)

-- u / d within the cell has u from 0 and below d
between : (num d u parts : ℤ) (bound : ℕ) → pos 0 <ℤ d → pos 0 <ℤ parts → pos 0 ≤ℤ num → num <ℤ d → parts *ℤ num ≡ d *ℤ u → AtMost bound parts → AtMost bound u
between num d u parts bound d_above p_above low high e small =
    sized u parts bound (nonneg_of_mul d u d_above (subst (λ (z : ℤ). pos 0 ≤ℤ z) e (mul_nonneg parts num (weaken_lt (pos 0) parts p_above) low)))
    (nonneg_of_mul d (parts +ℤ neg_ℤ u) d_above (subst (λ (z : ℤ). pos 0 ≤ℤ z) (sym apart) (mul_nonneg parts (d +ℤ neg_ℤ num) (weaken_lt (pos 0) parts p_above) (room num d high)))) small
  where
    room : (a b : ℤ) → a <ℤ b → pos 0 ≤ℤ (b +ℤ neg_ℤ a)
    room a b h = omega (arith, ints)

    apart : d *ℤ (parts +ℤ neg_ℤ u) ≡ parts *ℤ (d +ℤ neg_ℤ num)
    apart = by_integers (d ∷ parts ∷ u ∷ []) (var 0 :* (var 1 :- var 2)) (var 1 :* var 0 :- var 0 :* var 2) refl ∙ ap (λ (z : ℤ). parts *ℤ d +ℤ neg_ℤ z) (sym e) ∙ by_integers (d ∷ parts ∷ num ∷ []) (var 1 :* var 0 :- var 1 :* var 2) (var 1 :* (var 0 :- var 2)) refl

    sized : (u parts : ℤ) (bound : ℕ) → pos 0 ≤ℤ u → pos 0 ≤ℤ (parts +ℤ neg_ℤ u) → AtMost bound parts → AtMost bound u
    sized (pos n) (pos m) bound h k a = let s = a.size in record { size = omega (arith, ints, k, s) }
    sized (pos n) (negsuc m) bound h k a = absurd (omega (arith, ints, k))
    sized (negsuc n) parts bound h k a = absurd h.le

pub shift_small : (f : Vec3 Frac) (o : Origin) → IsOrigin f o → IsInCell (point_of (vector_map fraction_of f)) → EachCoordinate (AtMost (10 ^ 12)) o.shift
shift_small f o h c =
    let p = point_of (vector_map fraction_of f) in
    let e = origin_same f o h in
    let above = denominator_above f in record {
      x = between p.numerators.x p.denominator o.shift.x o.parts (10 ^ 12) above h.positive c.x_low c.x_high (ap (λ (t : Triple). t.x) e) h.small;
      y = between p.numerators.y p.denominator o.shift.y o.parts (10 ^ 12) above h.positive c.y_low c.y_high (ap (λ (t : Triple). t.y) e) h.small;
      z = between p.numerators.z p.denominator o.shift.z o.parts (10 ^ 12) above h.positive c.z_low c.z_high (ap (λ (t : Triple). t.z) e) h.small;
    }

-- ---- a large denominator

-- from n m u = d k with u = a w and d = b w: b divides n m, where a and b have no common factor
divides_units : (n m : ℕ) (a b w k : ℤ) → pos 0 <ℤ w → (pos n *ℤ pos m) *ℤ (a *ℤ w) ≡ (b *ℤ w) *ℤ k → gcd (unsigned_abs a) (unsigned_abs b) ≡ 1 → unsigned_abs b ∣ n * m
divides_units n m a b w k above e one =
    gauss (unsigned_abs b) (unsigned_abs a) (n * m) (gcd-swap (unsigned_abs b) (unsigned_abs a) ∙ one)
    (subst (λ (i : ℕ). unsigned_abs b ∣ i) (unsigned_abs-mul a (pos n *ℤ pos m) ∙ ap (λ (i : ℕ). unsigned_abs a * i) (unsigned_abs-mul (pos n) (pos m))) (to_natural b (a *ℤ (pos n *ℤ pos m)) (k, cancelled)))
  where
    cancelled : a *ℤ (pos n *ℤ pos m) ≡ b *ℤ k
    cancelled = mul_cancel w (a *ℤ (pos n *ℤ pos m)) (b *ℤ k) above
        (by_integers (pos n ∷ pos m ∷ a ∷ w ∷ []) (var 3 :* (var 2 :* (var 0 :* var 1))) ((var 0 :* var 1) :* (var 2 :* var 3)) refl ∙ e ∙ by_integers (b ∷ w ∷ k ∷ []) ((var 0 :* var 1) :* var 2) (var 1 :* (var 0 :* var 2)) refl)

-- a link read as such an equation
link_units : (q : Matrix) (u : Triple) (d n m : ℤ) (x y : Triple) → IsLink q u d n m x y → multiple (n *ℤ m) u ≡ multiple d (difference (multiple m y) (multiple n (image q x)))
link_units q u d n m x y l = left (image q x) ∙ ap (λ v. difference v (multiple (n *ℤ d) (image q x))) l ∙ right (image q x)
  where
    left : (w : Triple) → multiple (n *ℤ m) u ≡ difference (multiple n (sum_of (multiple d w) (multiple m u))) (multiple (n *ℤ d) w)
    left w = by_triples (d ∷ n ∷ m ∷ coordinates w ++ coordinates u) (formulas.multiple quoted (var 1 :* var 2) (vector_of_variables 6)) (formulas.difference quoted (formulas.multiple quoted (var 1) (formulas.sum_of quoted (formulas.multiple quoted (var 0) (vector_of_variables 3)) (formulas.multiple quoted (var 2) (vector_of_variables 6)))) (formulas.multiple quoted (var 1 :* var 0) (vector_of_variables 3))) refl

    right : (w : Triple) → difference (multiple (m *ℤ d) y) (multiple (n *ℤ d) w) ≡ multiple d (difference (multiple m y) (multiple n w))
    right w = by_triples (d ∷ n ∷ m ∷ coordinates w ++ coordinates y) (formulas.difference quoted (formulas.multiple quoted (var 2 :* var 0) (vector_of_variables 6)) (formulas.multiple quoted (var 1 :* var 0) (vector_of_variables 3))) (formulas.multiple quoted (var 0) (formulas.difference quoted (formulas.multiple quoted (var 2) (vector_of_variables 6)) (formulas.multiple quoted (var 1) (vector_of_variables 3)))) refl

-- no cells apart
pub itself : (n : ℤ) (x : Triple) → x ≡ sum_of x (multiple n origin)
itself n x = by_triples (n ∷ coordinates x) (vector_of_variables 1) (formulas.sum_of quoted (vector_of_variables 1) (formulas.multiple quoted (var 0) (record { x = con (pos 0); y = con (pos 0); z = con (pos 0) }))) refl

-- each denominator of the origin shift divides n times a common denominator of the places
denominators_divide : (c : Structure) (q : Matrix) (f : Vec3 Frac) (m : ℕ) → pos 0 <ℤ pos m → IsCommonDenominator c q (point_of (vector_map fraction_of f)) m → pos 0 <ℤ determinant q → pos 0 <ℤ pos c.n → (a : Atom) → IsMember a c.atoms → DenominatorsDivide f (c.n * m)
denominators_divide c q f m positive common above some a of_cell =
    let p = point_of (vector_map fraction_of f) in
    let r = placed c q p m positive common above some (record { positive = denominator_above f }) a a.position of_cell (record { cells = origin; is = itself (pos c.n) a.position }) in
    let k = difference (multiple (pos m) r.place.position) (multiple (pos c.n) (image q r.rest)) in
    let e : multiple (pos c.n *ℤ pos m) p.numerators ≡ multiple p.denominator k = link_units q p.numerators p.denominator (pos c.n) (pos m) r.rest r.place.position r.place.is.is in
    let dx = (fraction_of f.x).denominator in
    let dy = (fraction_of f.y).denominator in
    let dz = (fraction_of f.z).denominator in
    record {
      x = divides_units c.n m (fraction_of f.x).numerator dx (dy *ℤ dz) k.x (mul_pos dy dz f.y.lowest.positive f.z.lowest.positive) (ap (λ (t : Triple). t.x) e) f.x.lowest.coprime;
      y = divides_units c.n m (fraction_of f.y).numerator dy (dx *ℤ dz) k.y (mul_pos dx dz f.x.lowest.positive f.z.lowest.positive) (ap (λ (t : Triple). t.y) e ∙ ap (λ (z : ℤ). z *ℤ k.y) (by_integers (dx ∷ dy ∷ dz ∷ []) (var 0 :* (var 1 :* var 2)) (var 1 :* (var 0 :* var 2)) refl)) f.y.lowest.coprime;
      z = divides_units c.n m (fraction_of f.z).numerator dz (dx *ℤ dy) k.z (mul_pos dx dy f.x.lowest.positive f.y.lowest.positive) (ap (λ (t : Triple). t.z) e ∙ ap (λ (z : ℤ). z *ℤ k.z) (by_integers (dx ∷ dy ∷ dz ∷ []) (var 0 :* (var 1 :* var 2)) (var 2 :* (var 0 :* var 1)) refl)) f.z.lowest.coprime;
    }

-- so a standard cell is too wide where all such numbers pass 10^12
pub too_fine : (c s : Structure) (q : Matrix) (f : Vec3 Frac) → IsStandard c q (point_of (vector_map fraction_of f)) s → IsWithinLimits s → pos 0 <ℤ determinant q → pos 0 <ℤ pos c.n → c.n ≤ 10 ^ 6 → (a : Atom) → IsMember a c.atoms → ((k : ℕ) → 0 < k → DenominatorsDivide f k → 10 ^ 12 < k) → ⊥
too_fine c s q f st fits above some few a of_cell large =
    past c.n s.n few fits.n (large (c.n * s.n) (product c.n s.n some st.n.positive) (denominators_divide c q f s.n st.n.positive st.n.common above some a of_cell))
  where
    product : (n m : ℕ) → pos 0 <ℤ pos n → pos 0 <ℤ pos m → 0 < n * m
    product n m h k = as_natural (n * m) (subst (λ (z : ℤ). pos 0 <ℤ z) (natural n m) (mul_pos (pos n) (pos m) h k))
      where
        natural : (n m : ℕ) → pos n *ℤ pos m ≡ pos (n * m)
        natural n m = omega (arith, ints)

        as_natural : (k : ℕ) → pos 0 <ℤ pos k → 0 < k
        as_natural k h = omega (arith, ints)

    past : (n m : ℕ) → n ≤ 10 ^ 6 → m ≤ 10 ^ 6 → 10 ^ 12 < n * m → ⊥
    past n m h k l = let both : n * m ≤ 10 ^ 6 * 10 ^ 6 = mul-le-mul h k in omega (arith, both, l)

-- ---- the frame that the program makes of an origin shift

frame_at : (c s : Structure) (q r : Matrix) (u v : Triple) (d e : ℤ) → r ≡ q → v ≡ u → e ≡ d → IsStandard c r (point v e) s → IsStandard c q (point u d) s
frame_at c s q r u v d e turn shift parts st = subst (λ (z : ℤ). IsStandard c q (point u z) s) parts (subst (λ (w : Triple). IsStandard c q (point w e) s) shift (subst (λ (m : Matrix). IsStandard c m (point v e) s) turn st))

pub standard_moved : (c s : Structure) (q : Matrix) (f : Vec3 Frac) (o : Origin) (frame : Frame) → IsOrigin f o → frame.turn ≡ q → frame.shift ≡ o.shift → frame.parts ≡ o.parts → IsStandard c frame.turn (origin_of frame) s → IsStandard c q (point_of (vector_map fraction_of f)) s
standard_moved c s q f o frame h turn shift parts st =
    standard_at c q (point o.shift o.parts) (point_of (vector_map fraction_of f)) h.positive (denominator_above f) (sym (origin_same f o h)) s (frame_at c s q frame.turn o.shift frame.shift o.parts frame.parts turn shift parts st)

pub standard_back : (c s : Structure) (q : Matrix) (f : Vec3 Frac) (o : Origin) (frame : Frame) → IsOrigin f o → frame.turn ≡ q → frame.shift ≡ o.shift → frame.parts ≡ o.parts → IsStandard c q (point_of (vector_map fraction_of f)) s → IsStandard c frame.turn (origin_of frame) s
standard_back c s q f o frame h turn shift parts st =
    frame_at c s frame.turn q frame.shift o.shift frame.parts o.parts (sym turn) (sym shift) (sym parts) (standard_at c q (point_of (vector_map fraction_of f)) (point o.shift o.parts) (denominator_above f) h.positive (origin_same f o h) s st)
