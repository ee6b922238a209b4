-- Operations carried to another basis, and maps with fractions.
--   IsCarried n q os o              the list os has o in the basis to which Q takes coordinates
--   KeepsAny c b t d sign           the map ((B, t) / d, sign) is an isometry that carries the crystal onto itself
--   IsListed n os b t d sign        the map is one of integers, and the list os has it
use Rattle.std.specs.Prelude.{◌≡◌, ℕ, ℤ, pos, List}
use Rattle.lists.specs.Increasing.{IsMember}
use Rattle.crystal_spec.specs.declared.Sign.{Sign}
use Rattle.crystal_spec.specs.Matrices.{Triple, Matrix, product, image, multiple}
use Rattle.crystal_spec.specs.Crystals.{Structure}
use Rattle.crystal_spec.specs.Operations.{Operation, IsWithinCell}
use Rattle.positions.specs.Positions.{modulo}
use Rattle.basis_spec.specs.Metrics.{matrix_multiple}
use Rattle.basis_spec.specs.Maps.{TakesAny}

-- (W, w, sign) of which an integer V with V Q = Q W makes (V, Q w modulo n, sign) a member of the list
pub record IsCarried (n : ℕ) (q : Matrix) (os : List Operation) (o : Operation) : Type 0 where
  pub translation : IsWithinCell n o.translation
  pub matrix : Matrix
  pub turned : product matrix q ≡ product q o.matrix
  pub of_list : IsMember (record { matrix = matrix; translation = modulo n (image q o.translation); sign = o.sign }) os

-- an affine isometry with fractions that carries the crystal onto itself: a map onto itself
abbrev pub KeepsAny : Structure → Matrix → Triple → ℕ → ℤ → Type 0
KeepsAny c b t d sign = TakesAny c c b t d sign

-- d divides each entry of B and t, and (B / d, t / d modulo n, sign) is a member of the list
pub record IsListed (n : ℕ) (os : List Operation) (b : Matrix) (t : Triple) (d : ℕ) (sign : Sign) : Type 0 where
  pub matrix : Matrix
  pub whole_translation : Triple
  pub matrix_is : b ≡ matrix_multiple (pos d) matrix
  pub translation_is : t ≡ multiple (pos d) whole_translation
  pub of_list : IsMember (record { matrix = matrix; translation = modulo n whole_translation; sign = sign }) os
