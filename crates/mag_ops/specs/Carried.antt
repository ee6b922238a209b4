-- Operations of a primitive cell in the cell that it was made of. No public contract cites these words.
--   IsCarriedFrom n q v o     o is an operation within one cell which Q takes to the operation v of the other basis
--   translated n w t sign p   the operation of the matrix w, the sign, and t and the translation part of p modulo n
--   IsTranslated n w t sign ps o   o is this operation for a member p of the list
use Rattle.std.specs.Prelude.{◌≡◌, ℕ, List}
use Rattle.lists.specs.Any.{AnyOf}
use Rattle.crystal_spec.specs.declared.Sign.{Sign}
use Rattle.crystal_spec.specs.Matrices.{Triple, Matrix, product, image, sum_of}
use Rattle.crystal_spec.specs.Operations.{Operation, IsWithinCell}
use Rattle.positions.specs.Positions.{modulo}

-- V Q = Q W for the matrices V of v and W of o; Q takes the translation part of o to that of v, modulo n; and the time
-- signs are the same
pub record IsCarriedFrom (n : ℕ) (q : Matrix) (v o : Operation) : Type 0 where
  pub translation : IsWithinCell n o.translation
  pub turned : product v.matrix q ≡ product q o.matrix
  pub shifted : modulo n (image q o.translation) ≡ v.translation
  pub same_sign : o.sign ≡ v.sign

-- the matrix w, the translation part t and that of p, modulo n, and the sign
abbrev pub translated : ℕ → Matrix → Triple → Sign → Operation → Operation
translated n w t sign p = record { matrix = w; translation = modulo n (sum_of t p.translation); sign = sign }

-- one of the operations that the translation parts of the list make so
abbrev pub IsTranslated : ℕ → Matrix → Triple → Sign → List Operation → Operation → Type 0
IsTranslated n w t sign ps o = AnyOf ps (λ p. o ≡ translated n w t sign p)
