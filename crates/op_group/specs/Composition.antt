-- Operations one after the other, with translation parts modulo n.
--   identity_operation      the operation that leaves all as it is
--   IsComposed n a b r      r is the operation that does a and after it b
--   IsInverseModulo n a b   b undoes a, and a undoes b
use Rattle.std.specs.Prelude.{◌≡◌, ℕ, pos, ◌*ℤ◌}
use Rattle.crystal_spec.specs.declared.Sign.TheVariants.{Same}
use Rattle.crystal_spec.specs.Matrices.{product, identity}
use Rattle.crystal_spec.specs.Crystals.{position_after}
use Rattle.crystal_spec.specs.Operations.{Operation, IsWithinCell, sign_factor}
use Rattle.positions.specs.Positions.{IsModulo}

-- (I, 0, +1)
abbrev pub identity_operation : Operation
identity_operation = record { matrix = identity; translation = record { x = pos 0; y = pos 0; z = pos 0 }; sign = Same }

-- First (W, w, s) and after it (V, v, t) is (V W, V w + v modulo n, t s).
pub record IsComposed (n : ℕ) (first next result : Operation) : Type 0 where
  pub matrix : result.matrix ≡ product next.matrix first.matrix
  pub translation : IsModulo n (position_after next.matrix next.translation first.translation) result.translation
  pub sign : sign_factor result.sign ≡ sign_factor next.sign *ℤ sign_factor first.sign

-- each after the other is the identity, and the translation part of b is within one cell
pub record IsInverseModulo (n : ℕ) (a b : Operation) : Type 0 where
  pub within : IsWithinCell n b.translation
  pub after : IsComposed n a b identity_operation
  pub before : IsComposed n b a identity_operation
