-- Triangular bases of a lattice of translations, in Hermite form.
--   IsLattice n in_it               what in_it tells of is a lattice: sums, opposites, and n times every triple
--   IsLeastPositive holds s         s is the least positive number that holds
--   IsStepBasis in_it b             the columns of b are the triangular basis of the lattice
--   IsSteps n in_it index back fore the index of whole cells in the lattice, and the matrices to its triangular basis and back
--   InLattice n os t                t is a pure translation of the list os, but for whole cells
--   IsClosed n os                   the pure translations of os hold (0, 0, 0) and their sums modulo n
use Rattle.std.specs.Prelude.{◌≡◌, ℕ, ℤ, pos, negsuc, ◌*ℤ◌, ◌≤ℤ◌, ◌<ℤ◌, List}
use Rattle.lists.specs.Increasing.{IsMember}
use Rattle.crystal_spec.specs.Matrices.{Triple, Matrix, product, identity, multiple, sum_of}
use Rattle.crystal_spec.specs.Operations.{Operation}
use Rattle.positions.specs.Positions.{triple, origin, modulo}
use Rattle.basis_spec.specs.Metrics.{matrix_multiple}
use Rattle.basis_spec.specs.Translations.{pure_translation}

-- closed under sums and opposites, with n times every triple
pub record IsLattice (n : ℕ) (in_it : Triple → Type 0) : Type 0 where
  pub cells : (d : Triple) → in_it (multiple (pos n) d)
  pub sums : (t u : Triple) → in_it t → in_it u → in_it (sum_of t u)
  pub opposites : (t : Triple) → in_it t → in_it (multiple (negsuc 0) t)

-- s is the least positive number that holds
pub record IsLeastPositive (holds : ℤ → Type 0) (s : ℤ) : Type 0 where
  pub positive : pos 0 <ℤ s
  pub it_holds : holds s
  pub least : (t : ℤ) → pos 0 <ℤ t → holds t → s ≤ℤ t

-- The columns are (s1, 0, 0) with the least positive s1; (x2, s2, 0) with the least positive s2, and then the least x2
-- from 0; and (x3, y3, s3) with the least positive s3, y3 from 0 to s2 - 1 and x3 from 0 to s1 - 1.
pub record IsStepBasis (in_it : Triple → Type 0) (b : Matrix) : Type 0 where
  pub zeros : (b.a21 ≡ pos 0) × (b.a31 ≡ pos 0) × (b.a32 ≡ pos 0)
  pub first : IsLeastPositive (λ s. in_it (triple s (pos 0) (pos 0))) b.a11
  pub second : IsLeastPositive (λ s. (x : ℤ) × in_it (triple x s (pos 0))) b.a22
  pub second_in : in_it (triple b.a12 b.a22 (pos 0))
  pub second_from : pos 0 ≤ℤ b.a12
  pub second_least : (x : ℤ) → pos 0 ≤ℤ x → in_it (triple x b.a22 (pos 0)) → b.a12 ≤ℤ x
  pub third : IsLeastPositive (λ s. (x : ℤ) × ((y : ℤ) × in_it (triple x y s))) b.a33
  pub third_in : in_it (triple b.a13 b.a23 b.a33)
  pub third_y : (pos 0 ≤ℤ b.a23) × (b.a23 <ℤ b.a22)
  pub third_x : (pos 0 ≤ℤ b.a13) × (b.a13 <ℤ b.a11)

-- The index is n³ / (s1 s2 s3). The matrix back is Q, which takes coordinates to those in the triangular basis, and fore is
-- index · P.
pub record IsSteps (n : ℕ) (in_it : Triple → Type 0) (index : ℕ) (back fore : Matrix) : Type 0 where
  pub basis : Matrix
  pub is_basis : IsStepBasis in_it basis
  pub index_is : pos index *ℤ (basis.a11 *ℤ (basis.a22 *ℤ basis.a33)) ≡ pos n *ℤ (pos n *ℤ pos n)
  pub back_is : product back basis ≡ matrix_multiple (pos n) identity
  pub fore_is : product fore back ≡ matrix_multiple (pos index) identity

-- the pure translations of a list, and all triples that differ from one by whole cells
unfoldable pub InLattice : ℕ → List Operation → Triple → Type 0
InLattice n os t = IsMember (pure_translation (modulo n t)) os

-- the pure translations of the list hold (0, 0, 0), and with each two their sum modulo n
pub record IsClosed (n : ℕ) (os : List Operation) : Type 0 where
  pub zero_in : IsMember (pure_translation origin) os
  pub sums : (t u : Triple) → IsMember (pure_translation t) os → IsMember (pure_translation u) os → IsMember (pure_translation (modulo n (sum_of t u))) os
