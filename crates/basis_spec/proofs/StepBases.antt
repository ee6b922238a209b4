-- A lattice is what its triangular basis spans.
--
-- Divide the last coordinate of a member by s3: what is left is a member whose last coordinate is the rest, which is less
-- than the least, so it is 0. So with the second coordinate and the first. n times each triple is in the lattice, so the
-- basis times some matrix is n, and this matrix, on the other side too, takes coordinates to those in the basis.
use Rattle.std.proofs.Common.{◌≡◌, ℕ, suc, zero, ℤ, pos, negsuc, ◌+ℤ◌, ◌*ℤ◌, neg_ℤ, ◌≤ℤ◌, ◌<ℤ◌, [], ◌∷◌, refl, sym, ap, subst, ◌∙◌, arith}
use Rattle.std.specs.Int.{int_rem_euclid, int_div_euclid}
use Rattle.std.proofs.lemmas.Int.{ints}
use Rattle.ring.specs.Ring.{var, con, ◌:+◌, ◌:-◌, ◌:*◌, opposite}
use Rattle.ring.proofs.IntOrder.{mul_pos}
use Rattle.crystal_spec.specs.Matrices.{Triple, Matrix, product, image, determinant, multiple, sum_of, identity}
use Rattle.basis_spec.specs.Metrics.{matrix_multiple}
use Rattle.positions.specs.Positions.{origin, triple}
use Rattle.basis_spec.specs.StepBases.{IsLattice, IsStepBasis}
use Rattle.basis_spec.proofs.MatrixLaws.{Factor, factor, image-identity, image-multiple, image-product, image-matrix_multiple, multiple-multiple, multiple-zero, multiple-origin, sum_of-origin, sum_comm, same_images}
use Rattle.crystal_spec.proofs.Entrywise.{triple_same}
use Rattle.basis_spec.proofs.Cancelling.{image_cancel}
use Rattle.positions.proofs.Residues.{euclid, remainder_within}
use Rattle.crystal_spec.proofs.Identities.{by_integers}

-- an integer divided by a positive one: quotient and rest
pub record Divided (z s : ℤ) : Type 0 where
  pub quotient : ℤ
  pub rest : ℤ
  pub is : z ≡ rest +ℤ s *ℤ quotient
  pub from_zero : pos 0 ≤ℤ rest
  pub below : rest <ℤ s

-- each integer has a quotient and a rest
pub divided : (z s : ℤ) → pos 0 <ℤ s → Divided z s
divided z (pos n) p = record { quotient = int_div_euclid z (pos n); rest = int_rem_euclid z (pos n); is = euclid z n p; from_zero = (remainder_within z n p).0; below = (remainder_within z n p).1 }
divided z (negsuc n) p = absurd p.lt

-- a rest below the least positive number is 0
pub no_rest : (s r : ℤ) → pos 0 ≤ℤ r → r <ℤ s → (pos 0 <ℤ r → s ≤ℤ r) → r ≡ pos 0
no_rest s (pos zero) h k least = refl
no_rest s (pos (suc r)) h k least = absurd (let p : pos 0 <ℤ pos (suc r) = omega (arith, ints) in let q = least p in omega (arith, ints))
no_rest s (negsuc r) h k least = absurd h.le

-- one more of t
pub once_more : (k : ℕ) (t : Triple) → sum_of t (multiple (pos k) t) ≡ multiple (pos (suc k)) t
once_more k t = triple_same (by k t.x) (by k t.y) (by k t.z)
  where
    grown : (k : ℕ) → pos (suc k) ≡ pos 1 +ℤ pos k
    grown k = omega (arith, ints)

    by : (k : ℕ) (a : ℤ) → a +ℤ pos k *ℤ a ≡ pos (suc k) *ℤ a
    by k a = by_integers (pos k ∷ a ∷ []) (var 1 :+ var 0 :* var 1) ((con (pos 1) :+ var 0) :* var 1) refl ∙ ap (λ v. v *ℤ a) (sym (grown k))

-- q times c taken away
pub taken_away : (z c q r : ℤ) → z ≡ r +ℤ c *ℤ q → z +ℤ neg_ℤ q *ℤ c ≡ r
taken_away z c q r e = ap (λ v. v +ℤ neg_ℤ q *ℤ c) e ∙ by_integers (r ∷ c ∷ q ∷ []) ((var 0 :+ var 1 :* var 2) :+ opposite (var 2) :* var 1) (var 0) refl

-- nothing taken away
pub nothing_off : (z q : ℤ) → z +ℤ neg_ℤ q *ℤ pos 0 ≡ z
nothing_off z q = by_integers (z ∷ q ∷ []) (var 0 :+ opposite (var 1) :* con (pos 0)) (var 0) refl

module _ (n : ℕ) (in_it : Triple → Type 0) (l : IsLattice n in_it) where
  zero_in : in_it origin
  zero_in = subst in_it (multiple-origin (pos n)) (l.cells origin)

  multiples : (k : ℕ) (t : Triple) → in_it t → in_it (multiple (pos k) t)
  multiples zero t h = subst in_it (sym (multiple-zero t)) zero_in
  multiples (suc k) t h = subst in_it (once_more k t) (l.sums t (multiple (pos k) t) h (multiples k t h))

  negative : (k : ℕ) (t : Triple) → multiple (negsuc 0) (multiple (pos (suc k)) t) ≡ multiple (negsuc k) t
  negative k t = multiple-multiple (negsuc 0) (pos (suc k)) t ∙ ap (λ v. multiple v t) (by k)
    where
      by : (k : ℕ) → negsuc 0 *ℤ pos (suc k) ≡ negsuc k
      by k = omega (arith, ints)

  -- multiples of members are members
  pub multiple_in : (k : ℤ) (t : Triple) → in_it t → in_it (multiple k t)
  multiple_in (pos k) t h = multiples k t h
  multiple_in (negsuc k) t h = subst in_it (negative k t) (l.opposites (multiple (pos (suc k)) t) (multiples (suc k) t h))

  module _ (b : Matrix) (s : IsStepBasis in_it b) where
    column1 : Triple
    column1 = triple b.a11 (pos 0) (pos 0)

    column2 : Triple
    column2 = triple b.a12 b.a22 (pos 0)

    column3 : Triple
    column3 = triple b.a13 b.a23 b.a33

    -- the triple with these coordinates in the basis
    combined : (x y z : ℤ) → sum_of (sum_of (multiple x column1) (multiple y column2)) (multiple z column3) ≡ image b (triple x y z)
    unfolding column1 column2 column3
    combined x y z = triple_same
        (by_integers (x ∷ y ∷ z ∷ b.a11 ∷ b.a12 ∷ b.a13 ∷ []) ((var 0 :* var 3 :+ var 1 :* var 4) :+ var 2 :* var 5) ((var 3 :* var 0 :+ var 4 :* var 1) :+ var 5 :* var 2) refl)
        (by_integers (x ∷ y ∷ z ∷ b.a22 ∷ b.a23 ∷ []) ((var 0 :* con (pos 0) :+ var 1 :* var 3) :+ var 2 :* var 4) ((con (pos 0) :* var 0 :+ var 3 :* var 1) :+ var 4 :* var 2) refl
        ∙ ap (λ (k : ℤ). (k *ℤ x +ℤ b.a22 *ℤ y) +ℤ b.a23 *ℤ z) (sym s.zeros.0))
        (by_integers (x ∷ y ∷ z ∷ b.a33 ∷ []) ((var 0 :* con (pos 0) :+ var 1 :* con (pos 0)) :+ var 2 :* var 3) ((con (pos 0) :* var 0 :+ con (pos 0) :* var 1) :+ var 3 :* var 2) refl
        ∙ (λ i. (sym s.zeros.1 i *ℤ x +ℤ sym s.zeros.2 i *ℤ y) +ℤ b.a33 *ℤ z))

    -- each combination of the columns is a member
    pub spanned : (y : Triple) → in_it (image b y)
    unfolding column1 column2 column3
    spanned y = subst in_it (combined y.x y.y y.z)
        (l.sums (sum_of (multiple y.x column1) (multiple y.y column2)) (multiple y.z column3)
        (l.sums (multiple y.x column1) (multiple y.y column2) (multiple_in y.x column1 s.first.it_holds) (multiple_in y.y column2 s.second_in)) (multiple_in y.z column3 s.third_in))

    -- what is left of t where q times the column is taken away
    left : (t v : Triple) (q : ℤ) → in_it t → in_it v → in_it (sum_of t (multiple (neg_ℤ q) v))
    left t v q h k = l.sums t (multiple (neg_ℤ q) v) h (multiple_in (neg_ℤ q) v k)

    put_back : (t v : Triple) (q : ℤ) → sum_of (sum_of t (multiple (neg_ℤ q) v)) (multiple q v) ≡ t
    put_back t v q = triple_same (by t.x v.x) (by t.y v.y) (by t.z v.z)
      where
        by : (a c : ℤ) → (a +ℤ neg_ℤ q *ℤ c) +ℤ q *ℤ c ≡ a
        by a c = by_integers (a ∷ c ∷ q ∷ []) ((var 0 :+ opposite (var 2) :* var 1) :+ var 2 :* var 1) (var 0) refl

    record Peeled (v : Triple) (P : Triple → Type 0) (t : Triple) : Type 0 where
      quotient : ℤ
      rest : Triple
      rest_in : in_it rest
      shape : P rest
      is : t ≡ sum_of rest (multiple quotient v)

    peel3 : (t : Triple) → in_it t → Peeled column3 (λ u. u.z ≡ pos 0) t
    unfolding column3
    peel3 t h =
        let d = divided t.z b.a33 s.third.positive in
        let u = sum_of t (multiple (neg_ℤ d.quotient) column3) in
        let e = taken_away t.z b.a33 d.quotient d.rest d.is in
        let k : in_it u = left t column3 d.quotient h s.third_in in
        let r : d.rest ≡ pos 0 = no_rest b.a33 d.rest d.from_zero d.below (λ p. s.third.least d.rest p (u.x, (u.y, subst (λ (a : ℤ). in_it (triple u.x u.y a)) e k))) in
        record { quotient = d.quotient; rest = u; rest_in = k; shape = e ∙ r; is = sym (put_back t column3 d.quotient) }

    peel2 : (t : Triple) → in_it t → t.z ≡ pos 0 → Peeled column2 (λ u. (u.y ≡ pos 0) × (u.z ≡ pos 0)) t
    unfolding column2
    peel2 t h z =
        let d = divided t.y b.a22 s.second.positive in
        let u = sum_of t (multiple (neg_ℤ d.quotient) column2) in
        let e = taken_away t.y b.a22 d.quotient d.rest d.is in
        let k : in_it u = left t column2 d.quotient h s.second_in in
        let f : u.z ≡ pos 0 = nothing_off t.z d.quotient ∙ z in
        let r : d.rest ≡ pos 0 = no_rest b.a22 d.rest d.from_zero d.below (λ p. s.second.least d.rest p (u.x, subst in_it (triple_same refl e f) k)) in
        record { quotient = d.quotient; rest = u; rest_in = k; shape = (e ∙ r, f); is = sym (put_back t column2 d.quotient) }

    peel1 : (t : Triple) → in_it t → (t.y ≡ pos 0) × (t.z ≡ pos 0) → Peeled column1 (λ u. u ≡ origin) t
    unfolding column1
    peel1 t h o =
        let d = divided t.x b.a11 s.first.positive in
        let u = sum_of t (multiple (neg_ℤ d.quotient) column1) in
        let e = taken_away t.x b.a11 d.quotient d.rest d.is in
        let k : in_it u = left t column1 d.quotient h s.first.it_holds in
        let f : u.y ≡ pos 0 = nothing_off t.y d.quotient ∙ o.0 in
        let g : u.z ≡ pos 0 = nothing_off t.z d.quotient ∙ o.1 in
        let r : d.rest ≡ pos 0 = no_rest b.a11 d.rest d.from_zero d.below (λ p. s.first.least d.rest p (subst in_it (triple_same e f g) k)) in
        record { quotient = d.quotient; rest = u; rest_in = k; shape = triple_same (e ∙ r) f g; is = sym (put_back t column1 d.quotient) }

    -- each member is a combination of the columns
    pub coordinates : (t : Triple) → in_it t → (y : Triple) × (t ≡ image b y)
    coordinates t h =
        let p = peel3 t h in
        let q = peel2 p.rest p.rest_in p.shape in
        let r = peel1 q.rest q.rest_in q.shape in (
          triple r.quotient q.quotient p.quotient,
          p.is ∙ ap (λ v. sum_of v (multiple p.quotient column3)) (q.is ∙ ap (λ v. sum_of v (multiple q.quotient column2)) (r.is ∙ ap (λ v. sum_of v (multiple r.quotient column1)) r.shape ∙ sum_comm origin (multiple r.quotient column1) ∙ sum_of-origin (multiple r.quotient column1)))
              ∙ combined r.quotient q.quotient p.quotient,
        )

    -- ---- the determinant of the basis, and the matrix to coordinates in the basis
    -- the determinant of the basis is the product of its diagonal
    pub determinant_basis : determinant b ≡ b.a11 *ℤ (b.a22 *ℤ b.a33)
    determinant_basis = (λ i. (b.a11 *ℤ (b.a22 *ℤ b.a33 +ℤ neg_ℤ (b.a23 *ℤ s.zeros.2 i)) +ℤ neg_ℤ (b.a12 *ℤ (s.zeros.0 i *ℤ b.a33 +ℤ neg_ℤ (b.a23 *ℤ s.zeros.1 i)))) +ℤ b.a13 *ℤ (s.zeros.0 i *ℤ s.zeros.2 i +ℤ neg_ℤ (b.a22 *ℤ s.zeros.1 i)))
        ∙ by_integers (b.a11 ∷ b.a12 ∷ b.a13 ∷ b.a22 ∷ b.a23 ∷ b.a33 ∷ [])
        ((var 0 :* (var 3 :* var 5 :- var 4 :* con (pos 0)) :- var 1 :* (con (pos 0) :* var 5 :- var 4 :* con (pos 0))) :+ var 2 :* (con (pos 0) :* con (pos 0) :- var 3 :* con (pos 0)))
        (var 0 :* (var 3 :* var 5)) refl

    -- so it is positive
    pub basis_above : pos 0 <ℤ determinant b
    basis_above = subst (λ (z : ℤ). pos 0 <ℤ z) (sym determinant_basis) (mul_pos b.a11 (b.a22 *ℤ b.a33) s.first.positive (mul_pos b.a22 b.a33 s.second.positive s.third.positive))

    times_n : (y : Triple) → image (matrix_multiple (pos n) identity) y ≡ multiple (pos n) y
    times_n y = image-matrix_multiple (pos n) identity y ∙ ap (multiple (pos n)) (image-identity y)

    -- n times each triple is in the lattice, so the basis times some matrix is n
    to_steps : Factor (matrix_multiple (pos n) identity) b
    to_steps = factor (matrix_multiple (pos n) identity) b (λ v. let c = coordinates (multiple (pos n) v) (l.cells v) in (c.0, times_n v ∙ c.1))

    -- the matrix that takes coordinates to those in the basis
    pub back : Matrix
    back = to_steps.matrix

    -- the basis and this matrix undo one another, but for n
    pub basis-back : (v : Triple) → image b (image back v) ≡ multiple (pos n) v
    unfolding back
    basis-back v = sym (image-product b to_steps.matrix v) ∙ ap (λ a. image a v) (sym to_steps.is) ∙ times_n v

    -- and the other way round
    pub back-basis : (v : Triple) → image back (image b v) ≡ multiple (pos n) v
    back-basis v = image_cancel b (image back (image b v)) (multiple (pos n) v) basis_above (basis-back (image b v) ∙ sym (image-multiple b (pos n) v))

    -- the matrix times the basis is n
    pub back_whole : product back b ≡ matrix_multiple (pos n) identity
    back_whole = same_images (product back b) (matrix_multiple (pos n) identity) (λ v. image-product back b v ∙ back-basis v ∙ sym (times_n v))
