-- The laws of the matrices that act on moments, for each kind. What is proved above rests on these, and on no case of kinds.
--   moment_after-identity    the identity leaves moments
--   moment_after-product     one map after another acts as their product does
--   moment_source            each triple is what a map with an inverse makes of one
--   cancel_moment            such a map takes two moments to two
--   moment_after-turned      in another basis a map does what it does here
--   moment_after-whole       a map with fractions acts as the map of integers that it is
--   turn-positive, turn-injective, turn-of_kind    a change of basis is one to moments too, and keeps their kind
use Rattle.std.proofs.Common.{◌≡◌, refl, sym, ap, ◌∙◌, ℕ, Bool, true, false, [], ◌∷◌, ◌++◌, arith}
use Rattle.std.specs.Prelude.{ℤ, pos, ◌*ℤ◌, ◌<ℤ◌, if◌then◌else◌}
use Rattle.std.proofs.lemmas.Int.{ints}
use Rattle.ring.specs.Ring.{quoted, var, ◌:*◌}
use Rattle.matrix3.specs.Matrices.{entries, coordinates, matrix_of_variables, vector_of_variables}
use Rattle.matrix3.specs.Matrices as formulas
use Rattle.crystal_spec.specs.declared.MomentKind.{MomentKind}
use Rattle.crystal_spec.specs.Matrices.{Matrix, Triple, product, determinant, adjugate, identity, image, multiple, matrix_multiple}
use Rattle.crystal_spec.specs.Moments.{axial_vectors, axial_factor, turn_matrix, moment_matrix, divisor, IsScalar, IsOfKind}
use Rattle.crystal_spec.specs.Crystals.{moment_after}
use Rattle.crystal_spec.proofs.Identities.{by_integers, by_triples}
use Rattle.crystal_spec.proofs.MatrixLaws.{quoted_multiple, image-product, image-identity, image-matrix_multiple, multiple_swap, product-matrix_multiples, product-matrix_multiple_left, product-matrix_multiple_right}
use Rattle.crystal_spec.proofs.Isometries.{determinant-product, unit_product, multiple-one, cancel_multiple, cancel_image}

-- ---- identities

factors_regrouped : (t d s e : ℤ) → (t *ℤ d) *ℤ (s *ℤ e) ≡ (t *ℤ s) *ℤ (d *ℤ e)
factors_regrouped t d s e = by_integers (t ∷ d ∷ s ∷ e ∷ []) ((var 0 :* var 1) :* (var 2 :* var 3)) ((var 0 :* var 2) :* (var 1 :* var 3)) refl

-- a factor of square 1, a matrix whose determinant has the square 1, and both back again
there_and_back : (k : ℤ) (a : Matrix) (v : Triple) → k *ℤ k ≡ pos 1 → determinant a *ℤ determinant a ≡ pos 1 →
    image (matrix_multiple k a) (multiple (k *ℤ determinant a) (image (adjugate a) v)) ≡ v
there_and_back k a v k_one a_one =
    let x = matrix_of_variables 1 in
    let y = vector_of_variables 10 in
    let h = formulas.determinant quoted x in
    by_triples (k ∷ entries a ++ coordinates v)
    (formulas.image quoted (quoted_multiple (var 0) x) (formulas.multiple quoted (var 0 :* h) (formulas.image quoted (formulas.adjugate quoted x) y)))
    (formulas.multiple quoted ((var 0 :* var 0) :* (h :* h)) y) refl
    ∙ (λ i. multiple (k_one i *ℤ a_one i) v) ∙ multiple-one v

-- ---- the factor of axial moments

axial_factor-one : (kind : MomentKind) → axial_factor kind (pos 1) ≡ pos 1
unfolding axial_factor
axial_factor-one kind = by kind.axial
  where
    by : (axial : Bool) → (if axial then pos 1 else pos 1) ≡ pos 1
    by true = refl
    by false = refl

axial_factor-product : (kind : MomentKind) (h k : ℤ) → axial_factor kind (h *ℤ k) ≡ axial_factor kind h *ℤ axial_factor kind k
unfolding axial_factor
axial_factor-product kind h k = by kind.axial
  where
    by : (axial : Bool) → (if axial then h *ℤ k else pos 1) ≡ (if axial then h else pos 1) *ℤ (if axial then k else pos 1)
    by true = refl
    by false = refl

-- the factor of a map whose determinant has the square 1 has the square 1
pub axial_factor-unit : (kind : MomentKind) (h : ℤ) → h *ℤ h ≡ pos 1 → axial_factor kind h *ℤ axial_factor kind h ≡ pos 1
axial_factor-unit kind h one = sym (axial_factor-product kind h h) ∙ ap (axial_factor kind) one ∙ axial_factor-one kind

-- the factor by cases
pub axial_factor-axial : (kind : MomentKind) (h : ℤ) → kind.axial ≡ true → axial_factor kind h ≡ h
unfolding axial_factor
axial_factor-axial kind h e = ap (λ (axial : Bool). if axial then h else pos 1) e

pub axial_factor-plain : (kind : MomentKind) (h : ℤ) → kind.axial ≡ false → axial_factor kind h ≡ pos 1
unfolding axial_factor
axial_factor-plain kind h e = ap (λ (axial : Bool). if axial then h else pos 1) e

-- ---- what a change of basis is to moments

-- by cases
pub turn-vector : (kind : MomentKind) (r : Matrix) → kind.vector ≡ true → turn_matrix kind r ≡ r
unfolding turn_matrix
turn-vector kind r e = ap (λ (vector : Bool). if vector then r else identity) e

pub turn-scalar : (kind : MomentKind) (r : Matrix) → kind.vector ≡ false → turn_matrix kind r ≡ identity
unfolding turn_matrix
turn-scalar kind r e = ap (λ (vector : Bool). if vector then r else identity) e

turn-identity : (kind : MomentKind) → turn_matrix kind identity ≡ identity
unfolding turn_matrix
turn-identity kind = by kind.vector
  where
    by : (vector : Bool) → (if vector then identity else identity) ≡ identity
    by true = refl
    by false = refl

turn-product : (kind : MomentKind) (a b : Matrix) → turn_matrix kind (product a b) ≡ product (turn_matrix kind a) (turn_matrix kind b)
unfolding turn_matrix
turn-product kind a b = by kind.vector
  where
    by : (vector : Bool) → (if vector then product a b else identity) ≡ product (if vector then a else identity) (if vector then b else identity)
    by true = refl
    by false = refl

turn-unit : (kind : MomentKind) (w : Matrix) → determinant w *ℤ determinant w ≡ pos 1 → determinant (turn_matrix kind w) *ℤ determinant (turn_matrix kind w) ≡ pos 1
unfolding turn_matrix
turn-unit kind w one = by kind.vector
  where
    by : (vector : Bool) → determinant (if vector then w else identity) *ℤ determinant (if vector then w else identity) ≡ pos 1
    by true = one
    by false = refl

-- a matrix of positive determinant is one to moments too
pub turn-positive : (kind : MomentKind) (r : Matrix) → pos 0 <ℤ determinant r → pos 0 <ℤ determinant (turn_matrix kind r)
unfolding turn_matrix
turn-positive kind r above = by kind.vector
  where
    by : (vector : Bool) → pos 0 <ℤ determinant (if vector then r else identity)
    by true = above
    by false = omega (arith, ints)

-- a moment of the kind stays one
pub turn-of_kind : (kind : MomentKind) (r : Matrix) (m : Triple) → IsOfKind kind m → IsOfKind kind (image (turn_matrix kind r) m)
unfolding turn_matrix
turn-of_kind kind r m is scalar = by kind.vector scalar (is scalar)
  where
    by : (vector : Bool) → vector ≡ false → IsScalar m → IsScalar (image (if vector then r else identity) m)
    by true e s = absurd (cc e)
    by false e s = (ap (λ (v : Triple). v.y) (image-identity m) ∙ s.0, ap (λ (v : Triple). v.z) (image-identity m) ∙ s.1)

-- each triple is a moment of an axial vector
pub of_axial_vectors : (kind : MomentKind) (m : Triple) → kind ≡ axial_vectors → IsOfKind kind m
of_axial_vectors kind m is scalar = absurd (cc (sym (ap (λ (k : MomentKind). k.vector) is) ∙ scalar))

-- so many times a matrix
turn-multiple : (kind : MomentKind) (d : ℕ) (w : Matrix) → turn_matrix kind (matrix_multiple (pos d) w) ≡ matrix_multiple (pos (divisor kind d)) (turn_matrix kind w)
unfolding turn_matrix divisor
turn-multiple kind d w = by kind.vector
  where
    by : (vector : Bool) → (if vector then matrix_multiple (pos d) w else identity) ≡ matrix_multiple (pos (if vector then d else 1)) (if vector then w else identity)
    by true = refl
    by false = refl

-- what divides a moment is positive where d is
pub divisor-positive : (kind : MomentKind) (d : ℕ) → pos 0 <ℤ pos d → pos 0 <ℤ pos (divisor kind d)
unfolding divisor
divisor-positive kind d above = by kind.vector
  where
    by : (vector : Bool) → pos 0 <ℤ pos (if vector then d else 1)
    by true = above
    by false = omega (arith, ints)

-- a matrix that takes two triples to two takes two moments to two
pub turn-injective : (kind : MomentKind) (b : Matrix) → ((u v : Triple) → image b u ≡ image b v → u ≡ v) → (u v : Triple) → image (turn_matrix kind b) u ≡ image (turn_matrix kind b) v → u ≡ v
unfolding turn_matrix
turn-injective kind b told u v = by kind.vector
  where
    by : (vector : Bool) → image (if vector then b else identity) u ≡ image (if vector then b else identity) v → u ≡ v
    by true e = told u v e
    by false e = sym (image-identity u) ∙ e ∙ image-identity v

-- ---- the matrix of a map

pub moment_matrix-identity : (kind : MomentKind) → moment_matrix kind identity (pos 1) ≡ identity
unfolding moment_matrix
moment_matrix-identity kind = λ i. matrix_multiple (pos 1 *ℤ axial_factor-one kind i) (turn-identity kind i)

pub moment_matrix-product : (kind : MomentKind) (v w : Matrix) (t s : ℤ) → product (moment_matrix kind v t) (moment_matrix kind w s) ≡ moment_matrix kind (product v w) (t *ℤ s)
unfolding moment_matrix
moment_matrix-product kind v w t s =
    product-matrix_multiples (t *ℤ axial_factor kind (determinant v)) (s *ℤ axial_factor kind (determinant w)) (turn_matrix kind v) (turn_matrix kind w)
    ∙ (λ i. matrix_multiple (factors i) (sym (turn-product kind v w) i))
  where
    factors : (t *ℤ axial_factor kind (determinant v)) *ℤ (s *ℤ axial_factor kind (determinant w)) ≡ (t *ℤ s) *ℤ axial_factor kind (determinant (product v w))
    factors = factors_regrouped t (axial_factor kind (determinant v)) s (axial_factor kind (determinant w))
        ∙ ap (λ (x : ℤ). (t *ℤ s) *ℤ x) (sym (axial_factor-product kind (determinant v) (determinant w)) ∙ ap (axial_factor kind) (sym (determinant-product v w)))

-- where V Q = Q W, the map of V does in the other basis what that of W does here
pub moment_matrix-turned : (kind : MomentKind) (v w r : Matrix) (sign : ℤ) → product v r ≡ product r w → determinant v ≡ determinant w →
    product (moment_matrix kind v sign) (turn_matrix kind r) ≡ product (turn_matrix kind r) (moment_matrix kind w sign)
unfolding moment_matrix
moment_matrix-turned kind v w r sign turned same =
    product-matrix_multiple_left (sign *ℤ axial_factor kind (determinant v)) (turn_matrix kind v) (turn_matrix kind r)
    ∙ (λ i. matrix_multiple (sign *ℤ axial_factor kind (same i)) (both i))
    ∙ sym (product-matrix_multiple_right (sign *ℤ axial_factor kind (determinant w)) (turn_matrix kind r) (turn_matrix kind w))
  where
    both : product (turn_matrix kind v) (turn_matrix kind r) ≡ product (turn_matrix kind r) (turn_matrix kind w)
    both = sym (turn-product kind v r) ∙ ap (turn_matrix kind) turned ∙ turn-product kind r w

-- ---- moments

pub moment_after-identity : (kind : MomentKind) (m : Triple) → moment_after kind identity (pos 1) m ≡ m
moment_after-identity kind m = ap (λ (a : Matrix). image a m) (moment_matrix-identity kind) ∙ image-identity m

pub moment_after-product : (kind : MomentKind) (v w : Matrix) (t s : ℤ) (m : Triple) → moment_after kind v t (moment_after kind w s m) ≡ moment_after kind (product v w) (t *ℤ s) m
moment_after-product kind v w t s m = sym (image-product (moment_matrix kind v t) (moment_matrix kind w s) m) ∙ ap (λ (a : Matrix). image a m) (moment_matrix-product kind v w t s)

pub moment_after-turned : (kind : MomentKind) (v w r : Matrix) (sign : ℤ) → product v r ≡ product r w → determinant v ≡ determinant w → (m : Triple) →
    moment_after kind v sign (image (turn_matrix kind r) m) ≡ image (turn_matrix kind r) (moment_after kind w sign m)
moment_after-turned kind v w r sign turned same m =
    sym (image-product (moment_matrix kind v sign) (turn_matrix kind r) m) ∙ ap (λ (a : Matrix). image a m) (moment_matrix-turned kind v w r sign turned same) ∙ image-product (turn_matrix kind r) (moment_matrix kind w sign) m

-- where sign and determinant have the square 1, each triple is what the map makes of one
pub moment_source : (kind : MomentKind) (w : Matrix) (sign : ℤ) → sign *ℤ sign ≡ pos 1 → determinant w *ℤ determinant w ≡ pos 1 → (m : Triple) → (old : Triple) × (moment_after kind w sign old ≡ m)
unfolding moment_matrix
moment_source kind w sign sign_one one m =
    let k = sign *ℤ axial_factor kind (determinant w) in
    let a = turn_matrix kind w in (
      multiple (k *ℤ determinant a) (image (adjugate a) m),
      there_and_back k a m (unit_product sign (axial_factor kind (determinant w)) sign_one (axial_factor-unit kind (determinant w) one)) (turn-unit kind w one),
    )

-- and it takes two moments to two
pub cancel_moment : (kind : MomentKind) (w : Matrix) (sign : ℤ) (u v : Triple) → sign *ℤ sign ≡ pos 1 → determinant w *ℤ determinant w ≡ pos 1 → moment_after kind w sign u ≡ moment_after kind w sign v → u ≡ v
unfolding moment_matrix
cancel_moment kind w sign u v sign_one one e =
    let k = sign *ℤ axial_factor kind (determinant w) in
    let a = turn_matrix kind w in
    cancel_image a u v (turn-unit kind w one)
    (cancel_multiple k (image a u) (image a v) (unit_product sign (axial_factor kind (determinant w)) sign_one (axial_factor-unit kind (determinant w) one))
    (sym (image-matrix_multiple k a u) ∙ e ∙ image-matrix_multiple k a v))

-- A map with fractions b / d, h being 1 or -1 as its determinant is positive or negative, acts as the map of integers w
-- that it is.
pub moment_after-whole : (kind : MomentKind) (b w : Matrix) (d : ℕ) (h sign : ℤ) → b ≡ matrix_multiple (pos d) w → h ≡ determinant w → (m : Triple) →
    multiple (sign *ℤ axial_factor kind h) (image (turn_matrix kind b) m) ≡ multiple (pos (divisor kind d)) (moment_after kind w sign m)
unfolding moment_matrix
moment_after-whole kind b w d h sign b_is h_is m =
    let k = sign *ℤ axial_factor kind (determinant w) in
    let e = pos (divisor kind d) in
    (λ i. multiple (sign *ℤ axial_factor kind (h_is i)) (turned i))
    ∙ multiple_swap k e (image (turn_matrix kind w) m) ∙ ap (multiple e) (sym (image-matrix_multiple k (turn_matrix kind w) m))
  where
    turned : image (turn_matrix kind b) m ≡ multiple (pos (divisor kind d)) (image (turn_matrix kind w) m)
    turned = ap (λ (a : Matrix). image a m) (ap (turn_matrix kind) b_is ∙ turn-multiple kind d w) ∙ image-matrix_multiple (pos (divisor kind d)) (turn_matrix kind w) m
