-- There are as many pure translations as the index says.
--
-- Each s_i divides n, n = a_i s_i, since n times each axis is in the lattice. A pure translation goes to the floors of
-- x / s1, y / s2 and z / s3, which are below a1, a2 and a3. It is told by them: z differs by a multiple of s3, so it is the
-- same, and then so y and x. Each three floors are reached, by bringing coordinates to rest. So the count is a1 a2 a3,
-- which is the determinant, since both times s1 s2 s3 are n³.
use Rattle.std.proofs.Common.{◌≡◌, ℕ, ◌+◌, ◌*◌, ◌/◌, ◌<◌, suc, ℤ, pos, negsuc, ◌+ℤ◌, ◌*ℤ◌, neg_ℤ, ◌≤ℤ◌, ◌<ℤ◌, unsigned_abs, List, [], ◌∷◌, length, refl, sym, ap, subst, ◌∙◌, arith}
use Rattle.std.specs.Prelude.{◌↔◌}
use Rattle.std.proofs.lemmas.Int.{ints}
use Rattle.std.proofs.Math.Nat.{add-mul-div_left, div-lt_iff_lt-mul}
use Rattle.std.proofs.lemmas.Nat.{div-mul-add}
use Rattle.ring.specs.Ring.{var, con, ◌:+◌, ◌:-◌, ◌:*◌}
use Rattle.ring.proofs.IntOrder.{mul_pos}
use Rattle.lists.specs.Increasing.{IsMember, IsDistinct}
use Rattle.lists.proofs.Counting.{length_by_digits, mixed}
use Rattle.crystal_spec.specs.Matrices.{Triple, Matrix, image, determinant, multiple, sum_of}
use Rattle.crystal_spec.specs.Operations.{IsWithinCell}
use Rattle.basis_spec.specs.StepBases.{IsLattice, IsStepBasis}
use Rattle.positions.specs.Positions.{triple}
use Rattle.crystal_spec.proofs.Entrywise.{triple_same}
use Rattle.basis_spec.proofs.MatrixLaws.{axis1, axis2, axis3}
use Rattle.basis_spec.proofs.Cancelling.{mul_cancel}
use Rattle.basis_spec.proofs.StepBases.{divided, coordinates, spanned, back}
use Rattle.basis_spec.proofs.StepIndex.{index_cube}
use Rattle.crystal_spec.proofs.Identities.{by_integers}

-- a number and so many times m, as natural numbers
above_is : (m x x' k : ℕ) → pos x ≡ pos x' +ℤ pos m *ℤ pos k → x ≡ x' + m * k
above_is m x x' k e = omega (arith, ints)

below_is : (m x x' k : ℕ) → pos x ≡ pos x' +ℤ pos m *ℤ negsuc k → x' ≡ x + m * suc k
below_is m x x' k e = omega (arith, ints)

no_more : (m x k : ℕ) → k ≡ 0 → x + m * k ≡ x
no_more m x k e = ap (λ n. x + m * n) e ∙ omega arith

-- two numbers with one quotient by m that differ by a multiple of m are one
pub floor_same : (m x x' : ℕ) (k : ℤ) → 0 < m → x / m ≡ x' / m → pos x ≡ pos x' +ℤ pos m *ℤ k → x ≡ x'
floor_same m x x' (pos k) p e d =
    let f = above_is m x x' k d in
    let g : x / m ≡ x' / m + k = ap (λ n. n / m) f ∙ add-mul-div_left x' k p in
    f ∙ no_more m x' k (omega arith)
floor_same m x x' (negsuc k) p e d =
    let f = below_is m x x' k d in
    let g : x' / m ≡ x / m + suc k = ap (λ n. n / m) f ∙ add-mul-div_left x (suc k) p in
    absurd (omega arith)

floor_same_z : (m : ℕ) (z z' k : ℤ) → 0 < m → pos 0 ≤ℤ z → pos 0 ≤ℤ z' → unsigned_abs z / m ≡ unsigned_abs z' / m → z ≡ z' +ℤ pos m *ℤ k → z ≡ z'
floor_same_z m (pos x) (pos x') k p h h' e d = ap pos (floor_same m x x' k p e d)
floor_same_z m (pos x) (negsuc x') k p h h' e d = absurd h'.le
floor_same_z m (negsuc x) z' k p h h' e d = absurd h.le

-- a number within n, divided by m
floor_small : (m a n : ℕ) (z : ℤ) → 0 < m → a * m ≡ n → pos 0 ≤ℤ z → z <ℤ pos n → unsigned_abs z / m < a
floor_small m a n (negsuc x) p e h k = absurd h.le
floor_small m a n (pos x) p e h k = let l : x < a * m = omega (arith, ints) in (div-lt_iff_lt-mul p).1 l

-- the number with this quotient and rest
record Joined (m a n i : ℕ) (z : ℤ) : Type 0 where
  from_zero : pos 0 ≤ℤ z
  below : z <ℤ pos n
  floor : i ≡ unsigned_abs z / m

joined_pos : (m a n i r : ℕ) → 0 < m → a * m ≡ n → i < a → r < m → Joined m a n i (pos (i * m + r))
joined_pos m a n i r p e h k =
    let q = mixed a m i r h k in
    record { from_zero = omega (arith, ints); below = omega (arith, ints); floor = sym (div-mul-add i m r k) }

sum_pos : (m i r : ℕ) → pos m *ℤ pos i +ℤ pos r ≡ pos (i * m + r)
sum_pos m i r = omega (arith, ints)

joined : (m a n i : ℕ) (r : ℤ) → 0 < m → a * m ≡ n → i < a → pos 0 ≤ℤ r → r <ℤ pos m → Joined m a n i (pos m *ℤ pos i +ℤ r)
joined m a n i (pos r) p e h k l = let q : r < m = omega (arith, ints) in subst (Joined m a n i) (sym (sum_pos m i r)) (joined_pos m a n i r p e h q)
joined m a n i (negsuc r) p e h k l = absurd k.le

-- a positive whole number, as a natural one
record Natural (z : ℤ) : Type 0 where
  number : ℕ
  is : z ≡ pos number
  some : 0 < number

-- n is a multiple of it
record Times (n : ℕ) (s : ℤ) : Type 0 where
  times : ℕ
  step : Natural s
  is : times * step.number ≡ n

times_of : (n : ℕ) (s q : ℤ) → 0 < n → pos 0 <ℤ s → pos n ≡ s *ℤ q → Times n s
times_of n (negsuc s) q p h e = absurd h.lt
times_of n (pos s) (pos q) p h e = record { times = q; step = record { number = s; is = refl; some = omega (arith, ints) }; is = turned s q e }
  where
    turned : (s q : ℕ) → pos n ≡ pos s *ℤ pos q → q * s ≡ n
    turned s q e = omega (arith, ints)
times_of n (pos s) (negsuc q) p h e = absurd (omega (arith, ints))

module _ (n : ℕ) (in_it : Triple → Type 0) (l : IsLattice n in_it) (b : Matrix) (s : IsStepBasis in_it b) where
  third_of : (y : Triple) → (image b y).z ≡ b.a33 *ℤ y.z
  third_of y = (λ i. (s.zeros.1 i *ℤ y.x +ℤ s.zeros.2 i *ℤ y.y) +ℤ b.a33 *ℤ y.z) ∙ by_integers (y.x ∷ y.y ∷ y.z ∷ b.a33 ∷ []) ((con (pos 0) :* var 0 :+ con (pos 0) :* var 1) :+ var 3 :* var 2) (var 3 :* var 2) refl

  second_of : (y : Triple) → (image b y).y ≡ b.a22 *ℤ y.y +ℤ b.a23 *ℤ y.z
  second_of y = (λ i. (s.zeros.0 i *ℤ y.x +ℤ b.a22 *ℤ y.y) +ℤ b.a23 *ℤ y.z) ∙ by_integers (y.x ∷ y.y ∷ y.z ∷ b.a22 ∷ b.a23 ∷ []) ((con (pos 0) :* var 0 :+ var 3 :* var 1) :+ var 4 :* var 2) (var 3 :* var 1 :+ var 4 :* var 2) refl

  first_of_it : (y : Triple) → (image b y).x ≡ b.a11 *ℤ y.x +ℤ (b.a12 *ℤ y.y +ℤ b.a13 *ℤ y.z)
  first_of_it y = by_integers (y.x ∷ y.y ∷ y.z ∷ b.a11 ∷ b.a12 ∷ b.a13 ∷ []) ((var 3 :* var 0 :+ var 4 :* var 1) :+ var 5 :* var 2) (var 3 :* var 0 :+ (var 4 :* var 1 :+ var 5 :* var 2)) refl

  zero_factor : (k v : ℤ) → pos 0 <ℤ k → pos 0 ≡ k *ℤ v → v ≡ pos 0
  zero_factor k v p e = mul_cancel k v (pos 0) p (sym e ∙ by_integers (k ∷ []) (con (pos 0)) (var 0 :* con (pos 0)) refl)

  nothing_added : (a b : ℤ) (v : ℤ) → v ≡ pos 0 → a +ℤ b *ℤ v ≡ a
  nothing_added a b v e = ap (λ w. a +ℤ b *ℤ w) e ∙ by_integers (a ∷ b ∷ []) (var 0 :+ var 1 :* con (pos 0)) (var 0) refl

  -- the last coordinate of a member is a multiple of s3
  z_multiple : (t : Triple) → in_it t → (k : ℤ) × (t.z ≡ b.a33 *ℤ k)
  z_multiple t h = let y = coordinates n in_it l b s t h in (y.0.z, ap (λ (v : Triple). v.z) y.1 ∙ third_of y.0)

  -- the second coordinate of a member whose last is 0 is a multiple of s2
  pub y_multiple : (t : Triple) → in_it t → t.z ≡ pos 0 → (k : ℤ) × (t.y ≡ b.a22 *ℤ k)
  y_multiple t h z =
      let y = coordinates n in_it l b s t h in
      let o = zero_factor b.a33 y.0.z s.third.positive (sym z ∙ ap (λ (v : Triple). v.z) y.1 ∙ third_of y.0) in
      (y.0.y, ap (λ (v : Triple). v.y) y.1 ∙ second_of y.0 ∙ nothing_added (b.a22 *ℤ y.0.y) b.a23 y.0.z o)

  -- the first coordinate of a member whose others are 0 is a multiple of s1
  pub x_multiple : (t : Triple) → in_it t → t.z ≡ pos 0 → t.y ≡ pos 0 → (k : ℤ) × (t.x ≡ b.a11 *ℤ k)
  x_multiple t h z e =
      let y = coordinates n in_it l b s t h in
      let o = zero_factor b.a33 y.0.z s.third.positive (sym z ∙ ap (λ (v : Triple). v.z) y.1 ∙ third_of y.0) in
      let p = zero_factor b.a22 y.0.y s.second.positive (sym e ∙ ap (λ (v : Triple). v.y) y.1 ∙ second_of y.0 ∙ nothing_added (b.a22 *ℤ y.0.y) b.a23 y.0.z o) in
      (y.0.x, ap (λ (v : Triple). v.x) y.1 ∙ first_of_it y.0 ∙ both_nothing (b.a11 *ℤ y.0.x) b.a12 b.a13 y.0.y y.0.z p o)
    where
      both_nothing : (a b c u v : ℤ) → u ≡ pos 0 → v ≡ pos 0 → a +ℤ (b *ℤ u +ℤ c *ℤ v) ≡ a
      both_nothing a b c u v p o = (λ i. a +ℤ (b *ℤ p i +ℤ c *ℤ o i)) ∙ by_integers (a ∷ b ∷ c ∷ []) (var 0 :+ (var 1 :* con (pos 0) :+ var 2 :* con (pos 0))) (var 0) refl

  module _ (some : 0 < n) where
    cells_at : (d : Triple) → in_it (triple (pos n *ℤ d.x) (pos n *ℤ d.y) (pos n *ℤ d.z))
    cells_at d = l.cells d

    by_one : (k : ℤ) → k *ℤ pos 1 ≡ k
    by_one k = by_integers (k ∷ []) (var 0 :* con (pos 1)) (var 0) refl

    by_none : (k : ℤ) → k *ℤ pos 0 ≡ pos 0
    by_none k = by_integers (k ∷ []) (var 0 :* con (pos 0)) (con (pos 0)) refl

    times1 : Times n b.a11
    times1 = let m = x_multiple (triple (pos n *ℤ pos 1) (pos n *ℤ pos 0) (pos n *ℤ pos 0)) (cells_at axis1) (by_none (pos n)) (by_none (pos n)) in times_of n b.a11 m.0 some s.first.positive (sym (by_one (pos n)) ∙ m.1)

    times2 : Times n b.a22
    times2 = let m = y_multiple (triple (pos n *ℤ pos 0) (pos n *ℤ pos 1) (pos n *ℤ pos 0)) (cells_at axis2) (by_none (pos n)) in times_of n b.a22 m.0 some s.second.positive (sym (by_one (pos n)) ∙ m.1)

    times3 : Times n b.a33
    times3 = let m = z_multiple (triple (pos n *ℤ pos 0) (pos n *ℤ pos 0) (pos n *ℤ pos 1)) (cells_at axis3) in times_of n b.a33 m.0 some s.third.positive (sym (by_one (pos n)) ∙ m.1)

    floor1 : Triple → ℕ
    floor1 t = unsigned_abs t.x / times1.step.number

    floor2 : Triple → ℕ
    floor2 t = unsigned_abs t.y / times2.step.number

    floor3 : Triple → ℕ
    floor3 t = unsigned_abs t.z / times3.step.number

    -- the difference of two members is one
    pub difference_in : (t u : Triple) → in_it t → in_it u → in_it (sum_of t (multiple (negsuc 0) u))
    difference_in t u h k = l.sums t (multiple (negsuc 0) u) h (l.opposites u k)

    apart : (a c s k : ℤ) → a +ℤ negsuc 0 *ℤ c ≡ s *ℤ k → a ≡ c +ℤ s *ℤ k
    apart a c s k e = by_integers (a ∷ c ∷ []) (var 0) (var 1 :+ (var 0 :+ con (negsuc 0) :* var 1)) refl ∙ ap (λ v. c +ℤ v) e

    step_apart : (a c s k m : ℤ) → s ≡ m → a +ℤ negsuc 0 *ℤ c ≡ s *ℤ k → a ≡ c +ℤ m *ℤ k
    step_apart a c s k m e f = apart a c s k f ∙ ap (λ v. c +ℤ v *ℤ k) e

    nothing_apart : (a c : ℤ) → a ≡ c → a +ℤ negsuc 0 *ℤ c ≡ pos 0
    nothing_apart a c e = ap (λ v. v +ℤ negsuc 0 *ℤ c) e ∙ by_integers (c ∷ []) (var 0 :+ con (negsuc 0) :* var 0) (con (pos 0)) refl

    -- two members within one cell with the same three floors are one
    one_each : (t u : Triple) → IsWithinCell n t → IsWithinCell n u → in_it t → in_it u → floor1 t ≡ floor1 u → floor2 t ≡ floor2 u → floor3 t ≡ floor3 u → t ≡ u
    unfolding floor1 floor2 floor3
    one_each t u p q h k e f g =
        let d = difference_in t u h k in
        let z = z_multiple (sum_of t (multiple (negsuc 0) u)) d in
        let same_z : t.z ≡ u.z = floor_same_z times3.step.number t.z u.z z.0 times3.step.some p.z.0 q.z.0 g (step_apart t.z u.z b.a33 z.0 (pos times3.step.number) times3.step.is z.1) in
        let y = y_multiple (sum_of t (multiple (negsuc 0) u)) d (nothing_apart t.z u.z same_z) in
        let same_y : t.y ≡ u.y = floor_same_z times2.step.number t.y u.y y.0 times2.step.some p.y.0 q.y.0 f (step_apart t.y u.y b.a22 y.0 (pos times2.step.number) times2.step.is y.1) in
        let x = x_multiple (sum_of t (multiple (negsuc 0) u)) d (nothing_apart t.z u.z same_z) (nothing_apart t.y u.y same_y) in
        let same_x : t.x ≡ u.x = floor_same_z times1.step.number t.x u.x x.0 times1.step.some p.x.0 q.x.0 e (step_apart t.x u.x b.a11 x.0 (pos times1.step.number) times1.step.is x.1) in
        triple_same same_x same_y same_z

    -- and there is one with these floors
    record WithFloors (i j k : ℕ) : Type 0 where
      translation : Triple
      within : IsWithinCell n translation
      of_lattice : in_it translation
      x_is : i ≡ floor1 translation
      y_is : j ≡ floor2 translation
      z_is : k ≡ floor3 translation

    -- a multiple of s brings this number to rest on j·s
    resting : (s m j v r q : ℤ) → v ≡ r +ℤ s *ℤ q → s *ℤ (j +ℤ neg_ℤ q) +ℤ v ≡ s *ℤ j +ℤ r
    resting s m j v r q e = ap (λ w. s *ℤ (j +ℤ neg_ℤ q) +ℤ w) e ∙ by_integers (s ∷ j ∷ r ∷ q ∷ []) (var 0 :* (var 1 :- var 3) :+ (var 2 :+ var 0 :* var 3)) (var 0 :* var 1 :+ var 2) refl

    floors_at : (i j k : ℕ) → i < times1.times → j < times2.times → k < times3.times → WithFloors i j k
    unfolding floor1 floor2 floor3
    floors_at i j k p q r =
        let dy = divided (b.a23 *ℤ pos k) b.a22 s.second.positive in
        let y2 = pos j +ℤ neg_ℤ dy.quotient in
        let dx = divided (b.a12 *ℤ y2 +ℤ b.a13 *ℤ pos k) b.a11 s.first.positive in
        let y1 = pos i +ℤ neg_ℤ dx.quotient in
        let y = triple y1 y2 (pos k) in
        let x_at : (image b y).x ≡ pos times1.step.number *ℤ pos i +ℤ dx.rest = first_of_it y ∙ resting b.a11 b.a11 (pos i) (b.a12 *ℤ y2 +ℤ b.a13 *ℤ pos k) dx.rest dx.quotient dx.is ∙ ap (λ v. v *ℤ pos i +ℤ dx.rest) times1.step.is in
        let y_at : (image b y).y ≡ pos times2.step.number *ℤ pos j +ℤ dy.rest = second_of y ∙ resting b.a22 b.a22 (pos j) (b.a23 *ℤ pos k) dy.rest dy.quotient dy.is ∙ ap (λ v. v *ℤ pos j +ℤ dy.rest) times2.step.is in
        let z_at : (image b y).z ≡ pos times3.step.number *ℤ pos k +ℤ pos 0 = third_of y ∙ ap (λ v. v *ℤ pos k) times3.step.is ∙ by_integers ((pos times3.step.number *ℤ pos k) ∷ []) (var 0) (var 0 :+ con (pos 0)) refl in
        let jx = subst (Joined times1.step.number times1.times n i) (sym x_at) (joined times1.step.number times1.times n i dx.rest times1.step.some times1.is p dx.from_zero (subst (λ v. dx.rest <ℤ v) times1.step.is dx.below)) in
        let jy = subst (Joined times2.step.number times2.times n j) (sym y_at) (joined times2.step.number times2.times n j dy.rest times2.step.some times2.is q dy.from_zero (subst (λ v. dy.rest <ℤ v) times2.step.is dy.below)) in
        let jz = subst (Joined times3.step.number times3.times n k) (sym z_at) (joined times3.step.number times3.times n k (pos 0) times3.step.some times3.is r zero_within (above times3.step.number times3.step.some)) in
        record {
          translation = image b y;
          within = record { x = (jx.from_zero, jx.below); y = (jy.from_zero, jy.below); z = (jz.from_zero, jz.below) };
          of_lattice = spanned n in_it l b s y;
          x_is = jx.floor;
          y_is = jy.floor;
          z_is = jz.floor;
        }
      where
        zero_within : pos 0 ≤ℤ pos 0
        zero_within = omega (arith, ints)

        above : (m : ℕ) → 0 < m → pos 0 <ℤ pos m
        above m h = omega (arith, ints)

    -- ---- the count
    module _ (ws : List Triple) (once : IsDistinct ws) (exact : (t : Triple) → IsMember t ws ↔ (IsWithinCell n t × in_it t)) where
      length_is : length ws ≡ times1.times * times2.times * times3.times
      unfolding floor1 floor2 floor3
      length_is = length_by_digits floor1 floor2 floor3 times1.times times2.times times3.times ws once
          (λ t m. let h = ((exact t).0 m).0 in (
            floor_small times1.step.number times1.times n t.x times1.step.some times1.is h.x.0 h.x.1,
            (floor_small times2.step.number times2.times n t.y times2.step.some times2.is h.y.0 h.y.1, floor_small times3.step.number times3.times n t.z times3.step.some times3.is h.z.0 h.z.1),
          ))
          (λ t u m k. let h = (exact t).0 m in let g = (exact u).0 k in one_each t u h.0 g.0 h.1 g.1)
          (λ i j k p q r. let f = floors_at i j k p q r in record { item = f.translation; of_list = (exact f.translation).1 (f.within, f.of_lattice); f_is = f.x_is; g_is = f.y_is; h_is = f.z_is })

      cube : (a1 a2 a3 s1 s2 s3 : ℕ) → a1 * s1 ≡ n → a2 * s2 ≡ n → a3 * s3 ≡ n → (pos s1 *ℤ (pos s2 *ℤ pos s3)) *ℤ pos (a1 * a2 * a3) ≡ pos n *ℤ (pos n *ℤ pos n)
      cube a1 a2 a3 s1 s2 s3 e f g =
          ap (λ v. (pos s1 *ℤ (pos s2 *ℤ pos s3)) *ℤ v) (as_product a1 a2 a3)
          ∙ by_integers (pos a1 ∷ pos a2 ∷ pos a3 ∷ pos s1 ∷ pos s2 ∷ pos s3 ∷ []) ((var 3 :* (var 4 :* var 5)) :* (var 0 :* (var 1 :* var 2))) ((var 0 :* var 3) :* ((var 1 :* var 4) :* (var 2 :* var 5))) refl
          ∙ (λ i. one_product a1 s1 e i *ℤ (one_product a2 s2 f i *ℤ one_product a3 s3 g i))
        where
          as_product : (a b c : ℕ) → pos (a * b * c) ≡ pos a *ℤ (pos b *ℤ pos c)
          as_product a b c = omega (arith, ints)

          one_product : (a m : ℕ) → a * m ≡ n → pos a *ℤ pos m ≡ pos n
          one_product a m e = omega (arith, ints)

      -- the number of pure translations is the determinant of the matrix to the basis
      pub count_is_index : pos (length ws) ≡ determinant (back n in_it l b s)
      count_is_index =
          ap pos length_is ∙ mul_cancel (b.a11 *ℤ (b.a22 *ℤ b.a33)) (pos (times1.times * times2.times * times3.times)) (determinant (back n in_it l b s))
          (mul_pos b.a11 (b.a22 *ℤ b.a33) s.first.positive (mul_pos b.a22 b.a33 s.second.positive s.third.positive))
          ((λ i. (times1.step.is i *ℤ (times2.step.is i *ℤ times3.step.is i)) *ℤ pos (times1.times * times2.times * times3.times))
          ∙ cube times1.times times2.times times3.times times1.step.number times2.step.number times3.step.number times1.is times2.is times3.is
          ∙ sym (index_cube n in_it l b s) ∙ by_integers (determinant (back n in_it l b s) ∷ (b.a11 *ℤ (b.a22 *ℤ b.a33)) ∷ []) (var 0 :* var 1) (var 1 :* var 0) refl)
