-- How large the entries of a basis change are.
--   DiagonalAtMost n s      the squared lengths of the three axes are at most n
--   last_most, coordinates  how large the coordinates of a vector are, by its squared length
--   tensor_at_most          all entries of a definite metric are at most n where its diagonal is
--   change_at_most          the entries of a basis change, by the diagonals of the two metrics
--   inverse_at_most         those of its inverse
--
-- The columns of a basis change have the new diagonal as squared lengths in the old metric, the columns of the inverse the
-- old diagonal in the new one. With D = aa bb - ab², h the determinant and q the squared length of (x, y, z),
--   z² ≤ h z² ≤ D q ≤ aa bb q,
-- since h is a positive integer. So |z| ≤ r where aa bb ≤ m, q ≤ n and m n < (r + 1)²; the other two coordinates follow
-- by exchanging axes.
use Rattle.std.proofs.Common.{◌≡◌, ℕ, zero, suc, ◌*◌, ◌≤◌, ◌<◌, [], ◌∷◌, ◌++◌, ℤ, pos, negsuc, ◌+ℤ◌, ◌*ℤ◌, neg_ℤ, unsigned_abs, ◌≤ℤ◌, ◌<ℤ◌, refl, sym, ◌∙◌, ap, subst, arith, mul-le-mul}
use Rattle.std.proofs.lemmas.Int.{ints, unsigned_abs-mul}
use Rattle.ring.specs.Ring.{int_ops, var, con, opposite, quoted, ◌:+◌, ◌:*◌, ◌:-◌}
use Rattle.ring.specs.Size.{AtMost}
use Rattle.ring.proofs.IntOrder.{mul_nonneg, sq_nonneg, le_by, ≤ℤ_trans}
use Rattle.ring.proofs.Sizes.{at_most_mul}
use Rattle.matrix3.specs.Matrices.{determinant, entries, matrix_of_variables, EachEntry}
use Rattle.crystal_spec.specs.Matrices.{Matrix}
use Rattle.crystal_spec.specs.Crystals.{IsPositive}
use Rattle.crystal_spec.proofs.Identities.{by_integers}
use Rattle.lattice_spec.specs.Tensor.{Tensor, tensor_matrix, squared_length}
use Rattle.lattice_spec.proofs.Steps.{tensor_of_variables, tensor_entries, congruent, IsBasisChange, change_back}
use Rattle.lattice_spec.proofs.Definite.{minor_d, height_bound, IsDefinite, length_positive, aa_positive, bb_positive, cc_positive, bc_most, ac_most, ab_most, definite, definite-congruent}

-- the squared lengths of the axes are at most n
pub record DiagonalAtMost (n : ℕ) (s : Tensor ℤ) : Type 0 where
  pub aa : s.aa ≤ℤ pos n
  pub bb : s.bb ≤ℤ pos n
  pub cc : s.cc ≤ℤ pos n

abbrev determinant_of : Tensor ℤ → ℤ
determinant_of s = determinant int_ops (tensor_matrix s)

-- ---- the coordinates of a vector

-- a D > 0, the squared length of (ab, -aa, 0)
d_positive : (s : Tensor ℤ) → IsDefinite s → pos 0 <ℤ minor_d int_ops s
d_positive s d =
    let e : squared_length int_ops s s.ab (neg_ℤ s.aa) (pos 0) ≡ s.aa *ℤ minor_d int_ops s = by_integers (tensor_entries s) (squared_length quoted tensor_of_variables (var 5) (opposite (var 0)) (con (pos 0))) (var 0 :* minor_d quoted tensor_of_variables) refl in
    let p = aa_positive s d in
    pos_of_mul s.aa _ p (subst (λ (t : ℤ). pos 0 <ℤ t) e (length_positive s d s.ab (neg_ℤ s.aa) (pos 0) (λ h. absurd (omega (arith, ints, h.y_zero, p)))))
  where
    pos_of_mul : (a x : ℤ) → pos 0 <ℤ a → pos 0 <ℤ (a *ℤ x) → pos 0 <ℤ x
    pos_of_mul a (pos (suc n)) p h = omega (arith, ints)
    pos_of_mul a (pos zero) p h = absurd (omega (arith, ints))
    pos_of_mul (pos zero) (negsuc n) p h = absurd p.lt
    pos_of_mul (pos (suc a)) (negsuc n) p h = absurd (omega (arith, ints))
    pos_of_mul (negsuc a) (negsuc n) p h = absurd p.lt

weaken_pos : (a : ℤ) → pos 0 <ℤ a → pos 0 ≤ℤ a
weaken_pos a h = omega (arith, ints)

-- z² ≤ h z²
times_height : (h z : ℤ) → pos 0 <ℤ h → (z *ℤ z) ≤ℤ (h *ℤ (z *ℤ z))
times_height h z p =
    let q : pos 0 ≤ℤ (h +ℤ neg_ℤ (pos 1)) = omega (arith, ints) in
    le_by (z *ℤ z) (h *ℤ (z *ℤ z)) ((h +ℤ neg_ℤ (pos 1)) *ℤ (z *ℤ z)) (by_integers (h ∷ z ∷ []) (var 0 :* (var 1 :* var 1)) (var 1 :* var 1 :+ (var 0 :- con (pos 1)) :* (var 1 :* var 1)) refl) (mul_nonneg _ _ q (sq_nonneg z))

-- D q ≤ aa bb q
minor_most : (a b c q : ℤ) → pos 0 ≤ℤ q → ((a *ℤ b +ℤ neg_ℤ (c *ℤ c)) *ℤ q) ≤ℤ (a *ℤ b *ℤ q)
minor_most a b c q h =
    le_by _ _ ((c *ℤ c) *ℤ q) (by_integers (a ∷ b ∷ c ∷ q ∷ []) (var 0 :* var 1 :* var 3) ((var 0 :* var 1 :- var 2 :* var 2) :* var 3 :+ (var 2 :* var 2) :* var 3) refl) (mul_nonneg _ _ (sq_nonneg c) h)

abs-le : (a b : ℤ) → pos 0 ≤ℤ a → a ≤ℤ b → unsigned_abs a ≤ unsigned_abs b
abs-le a b h k = omega (arith, ints)

-- k² < (r + 1)²
root : (k r : ℕ) → k * k < suc r * suc r → k ≤ r
root k r h = grind (arith, mul-le-mul)

-- the last coordinate of a vector of squared length at most n is at most r, where the product of the squared lengths of
-- the first two axes is at most m and m n < (r + 1)²
pub last_most : (s : Tensor ℤ) → IsDefinite s → pos 0 <ℤ determinant_of s → (x y z : ℤ) (m n r : ℕ) → pos 0 ≤ℤ squared_length int_ops s x y z → AtMost m (s.aa *ℤ s.bb) → AtMost n (squared_length int_ops s x y z) → m * n < suc r * suc r → AtMost r z
last_most s d p x y z m n r q ab f h =
    let one = ≤ℤ_trans _ _ _ (times_height (determinant_of s) z p) (≤ℤ_trans _ _ _ (height_bound s x y z (aa_positive s d) (weaken_pos _ (d_positive s d))) (minor_most s.aa s.bb s.ab (squared_length int_ops s x y z) q)) in
    let two = abs-le (z *ℤ z) (s.aa *ℤ s.bb *ℤ squared_length int_ops s x y z) (sq_nonneg z) one in
    let three = (at_most_mul ab f).size in
    let four : unsigned_abs (z *ℤ z) ≡ unsigned_abs z * unsigned_abs z = unsigned_abs-mul z z in
    let five : unsigned_abs z * unsigned_abs z < suc r * suc r = omega (arith, two, three, four, h) in
    record { size = root (unsigned_abs z) r five }

-- ---- the other two coordinates, by exchanging axes

abbrev exchange_last : {R : Type 0} → Tensor R → Tensor R
exchange_last s = record { aa = s.aa; bb = s.cc; cc = s.bb; bc = s.bc; ac = s.ab; ab = s.ac }

abbrev exchange_ends : {R : Type 0} → Tensor R → Tensor R
exchange_ends s = record { aa = s.cc; bb = s.bb; cc = s.aa; bc = s.ab; ac = s.ac; ab = s.bc }

last-squared_length : (s : Tensor ℤ) (x y z : ℤ) → squared_length int_ops (exchange_last s) x z y ≡ squared_length int_ops s x y z
last-squared_length s x y z = by_integers (tensor_entries s ++ x ∷ y ∷ z ∷ []) (squared_length quoted (exchange_last tensor_of_variables) (var 6) (var 8) (var 7)) (squared_length quoted tensor_of_variables (var 6) (var 7) (var 8)) refl

ends-squared_length : (s : Tensor ℤ) (x y z : ℤ) → squared_length int_ops (exchange_ends s) z y x ≡ squared_length int_ops s x y z
ends-squared_length s x y z = by_integers (tensor_entries s ++ x ∷ y ∷ z ∷ []) (squared_length quoted (exchange_ends tensor_of_variables) (var 8) (var 7) (var 6)) (squared_length quoted tensor_of_variables (var 6) (var 7) (var 8)) refl

last-determinant : (s : Tensor ℤ) → determinant_of (exchange_last s) ≡ determinant_of s
last-determinant s = by_integers (tensor_entries s) (determinant quoted (tensor_matrix (exchange_last tensor_of_variables))) (determinant quoted (tensor_matrix tensor_of_variables)) refl

ends-determinant : (s : Tensor ℤ) → determinant_of (exchange_ends s) ≡ determinant_of s
ends-determinant s = by_integers (tensor_entries s) (determinant quoted (tensor_matrix (exchange_ends tensor_of_variables))) (determinant quoted (tensor_matrix tensor_of_variables)) refl

last_definite : (s : Tensor ℤ) → IsDefinite s → IsDefinite (exchange_last s)
last_definite s d x z y h =
    let q = d x y z (subst (λ (t : ℤ). t ≤ℤ pos 0) (last-squared_length s x y z) h) in
    record { x_zero = q.x_zero; y_zero = q.z_zero; z_zero = q.y_zero }

ends_definite : (s : Tensor ℤ) → IsDefinite s → IsDefinite (exchange_ends s)
ends_definite s d z y x h =
    let q = d x y z (subst (λ (t : ℤ). t ≤ℤ pos 0) (ends-squared_length s x y z) h) in
    record { x_zero = q.z_zero; y_zero = q.y_zero; z_zero = q.x_zero }

-- three numbers of size at most r
pub record ThreeAtMost (r : ℕ) (x y z : ℤ) : Type 0 where
  pub first : AtMost r x
  pub second : AtMost r y
  pub third : AtMost r z

-- the products of two squared lengths of axes
pub record ProductsAtMost (m : ℕ) (s : Tensor ℤ) : Type 0 where
  pub ab : AtMost m (s.aa *ℤ s.bb)
  pub ac : AtMost m (s.aa *ℤ s.cc)
  pub bc : AtMost m (s.cc *ℤ s.bb)

-- and so are all three
pub coordinates : (s : Tensor ℤ) → IsDefinite s → pos 0 <ℤ determinant_of s → (x y z : ℤ) (m n r : ℕ) → pos 0 ≤ℤ squared_length int_ops s x y z → ProductsAtMost m s → AtMost n (squared_length int_ops s x y z) → m * n < suc r * suc r → ThreeAtMost r x y z
coordinates s d p x y z m n r q b f h = record {
  first = last_most (exchange_ends s) (ends_definite s d) (subst (λ (t : ℤ). pos 0 <ℤ t) (sym (ends-determinant s)) p) z y x m n r (subst (λ (t : ℤ). pos 0 ≤ℤ t) (sym (ends-squared_length s x y z)) q) b.bc (subst (λ (t : ℤ). AtMost n t) (sym (ends-squared_length s x y z)) f) h;
  second = last_most (exchange_last s) (last_definite s d) (subst (λ (t : ℤ). pos 0 <ℤ t) (sym (last-determinant s)) p) x z y m n r (subst (λ (t : ℤ). pos 0 ≤ℤ t) (sym (last-squared_length s x y z)) q) b.ac (subst (λ (t : ℤ). AtMost n t) (sym (last-squared_length s x y z)) f) h;
  third = last_most s d p x y z m n r q b.ab f h;
}

-- the squared lengths of the columns are the diagonal of the metric that the basis change leads to
columns : (g s : Tensor ℤ) (w : Matrix) → congruent int_ops w (tensor_matrix g) ≡ tensor_matrix s → IsDefinite g → pos 0 <ℤ determinant_of g → (m n r : ℕ) → ProductsAtMost m g → pos 0 ≤ℤ s.aa → pos 0 ≤ℤ s.bb → pos 0 ≤ℤ s.cc → AtMost n s.aa → AtMost n s.bb → AtMost n s.cc → m * n < suc r * suc r → EachEntry (AtMost r) w
columns g s w e d p m n r gp na nb nc sa sb sc h =
    let u : squared_length int_ops g w.a11 w.a21 w.a31 ≡ s.aa = by_integers (tensor_entries g ++ entries w) (squared_length quoted tensor_of_variables (var 6) (var 9) (var 12)) (congruent quoted (matrix_of_variables 6) (tensor_matrix tensor_of_variables)).a11 refl ∙ ap (λ (m : Matrix). m.a11) e in
    let v : squared_length int_ops g w.a12 w.a22 w.a32 ≡ s.bb = by_integers (tensor_entries g ++ entries w) (squared_length quoted tensor_of_variables (var 7) (var 10) (var 13)) (congruent quoted (matrix_of_variables 6) (tensor_matrix tensor_of_variables)).a22 refl ∙ ap (λ (m : Matrix). m.a22) e in
    let x : squared_length int_ops g w.a13 w.a23 w.a33 ≡ s.cc = by_integers (tensor_entries g ++ entries w) (squared_length quoted tensor_of_variables (var 8) (var 11) (var 14)) (congruent quoted (matrix_of_variables 6) (tensor_matrix tensor_of_variables)).a33 refl ∙ ap (λ (m : Matrix). m.a33) e in
    let j = coordinates g d p w.a11 w.a21 w.a31 m n r (subst (λ (t : ℤ). pos 0 ≤ℤ t) (sym u) na) gp (subst (λ (t : ℤ). AtMost n t) (sym u) sa) h in
    let k = coordinates g d p w.a12 w.a22 w.a32 m n r (subst (λ (t : ℤ). pos 0 ≤ℤ t) (sym v) nb) gp (subst (λ (t : ℤ). AtMost n t) (sym v) sb) h in
    let l = coordinates g d p w.a13 w.a23 w.a33 m n r (subst (λ (t : ℤ). pos 0 ≤ℤ t) (sym x) nc) gp (subst (λ (t : ℤ). AtMost n t) (sym x) sc) h in
    record { a11 = j.first; a21 = j.second; a31 = j.third; a12 = k.first; a22 = k.second; a32 = k.third; a13 = l.first; a23 = l.second; a33 = l.third }

-- ---- the entries of a metric

at_most_of : (a : ℤ) (n : ℕ) → pos 0 <ℤ a → a ≤ℤ pos n → AtMost n a
at_most_of a n h k = record { size = omega (arith, ints) }

half : (x a b : ℤ) (n : ℕ) → pos (unsigned_abs (x +ℤ x)) ≤ℤ (a +ℤ b) → a ≤ℤ pos n → b ≤ℤ pos n → AtMost n x
half x a b n h k l = record { size = omega (arith, ints) }

-- each entry is at most n where those of the diagonal are
pub tensor_at_most : (s : Tensor ℤ) (n : ℕ) → IsDefinite s → DiagonalAtMost n s → EachEntry (AtMost n) (tensor_matrix s)
tensor_at_most s n d h =
    let bc = half s.bc s.bb s.cc n (bc_most s d) h.bb h.cc in
    let ac = half s.ac s.aa s.cc n (ac_most s d) h.aa h.cc in
    let ab = half s.ab s.aa s.bb n (ab_most s d) h.aa h.bb in
    record {
      a11 = at_most_of s.aa n (aa_positive s d) h.aa;
      a12 = ab;
      a13 = ac;
      a21 = ab;
      a22 = at_most_of s.bb n (bb_positive s d) h.bb;
      a23 = bc;
      a31 = ac;
      a32 = bc;
      a33 = at_most_of s.cc n (cc_positive s d) h.cc;
    }

products_at_most : (s : Tensor ℤ) (n : ℕ) → EachEntry (AtMost n) (tensor_matrix s) → ProductsAtMost (n * n) s
products_at_most s n h = record { ab = at_most_mul h.a11 h.a22; ac = at_most_mul h.a11 h.a33; bc = at_most_mul h.a33 h.a22 }

-- ---- the entries of a basis change and of its inverse

-- det(WᵀGW) = det(W)² det(G)
determinant_positive : (g s : Tensor ℤ) (w : Matrix) → congruent int_ops w (tensor_matrix g) ≡ tensor_matrix s → determinant int_ops w ≡ pos 1 → pos 0 <ℤ determinant_of g → pos 0 <ℤ determinant_of s
determinant_positive g s w e h p =
    let k : determinant int_ops (congruent int_ops w (tensor_matrix g)) ≡ determinant int_ops w *ℤ determinant int_ops w *ℤ determinant_of g = by_integers (tensor_entries g ++ entries w) (determinant quoted (congruent quoted (matrix_of_variables 6) (tensor_matrix tensor_of_variables))) (determinant quoted (matrix_of_variables 6) :* determinant quoted (matrix_of_variables 6) :* determinant quoted (tensor_matrix tensor_of_variables)) refl in
    let l : determinant_of s ≡ pos 1 *ℤ pos 1 *ℤ determinant_of g = ap (λ (m : Matrix). determinant int_ops m) (sym e) ∙ k ∙ ap (λ (t : ℤ). t *ℤ t *ℤ determinant_of g) h in
    omega (arith, ints, l, p)

-- the new metric is definite
pub changed_definite : (g s : Tensor ℤ) (p q : Matrix) → IsPositive (tensor_matrix g) → IsBasisChange (tensor_matrix g) (tensor_matrix s) p q → IsDefinite s
changed_definite g s p q h r = definite-congruent g s p q r.metric r.inverse_left (definite g h)

-- the entries of the basis change are at most r where the old diagonal is at most m, the new one at most n and
-- m² n < (r + 1)²
pub change_at_most : (g s : Tensor ℤ) (p q : Matrix) (m n r : ℕ) → IsPositive (tensor_matrix g) → IsBasisChange (tensor_matrix g) (tensor_matrix s) p q → DiagonalAtMost m g → DiagonalAtMost n s → m * m * n < suc r * suc r → EachEntry (AtMost r) p
change_at_most g s p q m n r h c a b k =
    let old = definite g h in
    let new = changed_definite g s p q h c in
    let t = tensor_at_most s n new b in
    columns g s p c.metric old h.third (m * m) n r (products_at_most g m (tensor_at_most g m old a)) (weaken_pos _ (aa_positive s new)) (weaken_pos _ (bb_positive s new)) (weaken_pos _ (cc_positive s new)) t.a11 t.a22 t.a33 k

-- and those of the inverse where n² m < (r + 1)²
pub inverse_at_most : (g s : Tensor ℤ) (p q : Matrix) (m n r : ℕ) → IsPositive (tensor_matrix g) → IsBasisChange (tensor_matrix g) (tensor_matrix s) p q → DiagonalAtMost m g → DiagonalAtMost n s → n * n * m < suc r * suc r → EachEntry (AtMost r) q
inverse_at_most g s p q m n r h c a b k =
    let old = definite g h in
    let new = changed_definite g s p q h c in
    let t = tensor_at_most g m old a in
    columns s g q (change_back (tensor_matrix g) (tensor_matrix s) p q c) new (determinant_positive g s p c.metric c.unit_determinant h.third) (n * n) m r (products_at_most s n (tensor_at_most s n new b)) (weaken_pos _ (aa_positive g old)) (weaken_pos _ (bb_positive g old)) (weaken_pos _ (cc_positive g old)) t.a11 t.a22 t.a33 k
