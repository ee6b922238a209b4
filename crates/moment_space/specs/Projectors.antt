-- Which moments the operations of a site allow, and the projector onto them. Moments are columns of integers, a projector is
-- a matrix of fractions.
--   IsAllowed kind os m     each of the operations os carries the moment m to itself
--   matrix_of kind o        the matrix by which the operation o acts on moments of this kind
--   sum_over f xs           the sum of the matrices f x, for x of the list xs
--   moment_sum kind os      the sum of the matrices by which the operations os act on moments
--   projector_of kind os    the projector: that sum, divided by the number of operations
--   trace o a               the sum of the entries on the diagonal of a matrix, over the operations of a ring
--   IsProjected p m         p leaves the moment m as it is
--   IsAllowedCount kind p k k is the trace of p for vectors, and a third of it for scalars
--   AllowedMoments          a kind of moments, a projector, and the number of independent moments that it leaves
--   HasSmallParts p         numerators and denominators are of size up to 40,000, and denominators positive
-- The projector onto the moments that a site-symmetry group allows is the mean of its matrices; our own words.
use Rattle.std.specs.Prelude.{◌≡◌, ℕ, pos, ◌*◌, ◌<ℤ◌, if◌then◌else◌, List, [], ◌∷◌, length}
use Rattle.ring.specs.Ring.{Ops, int_ops}
use Rattle.ring.specs.Size.{AtMost}
use Rattle.numbers.specs.Fraction.{Fraction, fraction_ops, whole, quotient}
use Rattle.lists.specs.Increasing.{IsMember}
use Rattle.matrix3.specs.declared.matrix.Mat3.{Mat3}
use Rattle.matrix3.specs.Matrices.{EachEntry, matrix_map, vector_map, matrix_sum}
use Rattle.matrix3.specs.Matrices as formulas
use Rattle.crystal_spec.specs.declared.MomentKind.{MomentKind}
use Rattle.crystal_spec.specs.Matrices.{Triple, Matrix}
use Rattle.crystal_spec.specs.Moments.{moment_matrix}
use Rattle.crystal_spec.specs.Crystals.{moment_after}
use Rattle.crystal_spec.specs.Operations.{Operation, sign_factor}

-- each operation of the list carries the moment to itself
abbrev pub IsAllowed : MomentKind → List Operation → Triple → Type 0
IsAllowed kind os m = (o : Operation) → IsMember o os → moment_after kind o.matrix (sign_factor o.sign) m ≡ m

-- the matrix by which the operation acts on moments of this kind
abbrev pub matrix_of : MomentKind → Operation → Matrix
matrix_of kind o = moment_matrix kind o.matrix (sign_factor o.sign)

module _ {R : Type 0} (o : Ops R) where
  open o use {◌⊕◌}

  -- the sum of the entries on the diagonal
  abbrev pub trace : Mat3 R → R
  trace a = a.a11 ⊕ a.a22 ⊕ a.a33

-- the sum of the matrices f x, for x of the list
abbrev pub sum_over : {X : Type 0} → (X → Matrix) → List X → Matrix
sum_over f [] = formulas.scalar int_ops (pos 0)
sum_over f (x ∷ xs) = matrix_sum int_ops (f x) (sum_over f xs)

-- the sum of the matrices by which the operations act on moments
abbrev pub moment_sum : MomentKind → List Operation → Matrix
moment_sum kind os = sum_over (matrix_of kind) os

-- the projector: the sum over the number of operations, in lowest terms
abbrev pub projector_of : MomentKind → List Operation → Mat3 Fraction
projector_of kind os = matrix_map (λ x. quotient x (pos (length os))) (moment_sum kind os)

-- the moment as a column of fractions is left by p
abbrev pub IsProjected : Mat3 Fraction → Triple → Type 0
IsProjected p m = formulas.image fraction_ops p (vector_map whole m) ≡ vector_map whole m

-- a moment stands so many times on the diagonal: a vector once, and a scalar in each coordinate
abbrev pub times_on_diagonal : MomentKind → ℕ
times_on_diagonal kind = if kind.vector then 1 else 3

-- the trace of p, which for scalars is three times k
abbrev pub IsAllowedCount : MomentKind → Mat3 Fraction → ℕ → Type 0
IsAllowedCount kind p k = trace fraction_ops p ≡ whole (pos (times_on_diagonal kind * k))

-- a kind of moments, a projector, and the number of independent moments that it leaves
pub record AllowedMoments : Type 0 where
  pub kind : MomentKind
  pub projector : Mat3 Fraction
  pub count : ℕ

-- a fraction with a numerator and a positive denominator of size up to 40,000
pub record HasSmallParts (p : Fraction) : Type 0 where
  pub upper : AtMost 40000 p.numerator
  pub lower : AtMost 40000 p.denominator
  pub positive : pos 0 <ℤ p.denominator

-- each entry of the projector is such a fraction
abbrev pub HasSmallEntries : AllowedMoments → Type 0
HasSmallEntries a = EachEntry HasSmallParts a.projector
