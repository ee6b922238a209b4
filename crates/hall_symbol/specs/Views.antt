-- What the steps of the reader make of a symbol, and what is asked of its operations. Words for private functions.
--   with_token s t      the symbol with one more token
--   with_tokens s ts    the symbol with these tokens
--   with_shift s v      the symbol with this shift of the origin
--   AreSmall os         the matrix entries of these operations are -1, 0 and 1
use Rattle.std.specs.Prelude.{ℕ, List, [], ◌∷◌, ◌++◌}
use Rattle.ring.specs.Size.{AtMost}
use Rattle.lists.specs.Increasing.{IsMember}
use Rattle.matrix3.specs.Matrices.{EachEntry}
use Rattle.matrix3.specs.declared.vector.Vec3.{Vec3}
use Rattle.crystal_spec.specs.Operations.{Operation}
use Rattle.hall_symbol.specs.declared.symbol.Token.{Token}
use Rattle.hall_symbol.specs.Symbols.{HallSymbol}

abbrev pub with_tokens : HallSymbol → List Token → HallSymbol
with_tokens s ts = record { is_inverted = s.is_inverted; lattice = s.lattice; tokens = ts; shift = s.shift }

abbrev pub with_token : HallSymbol → Token → HallSymbol
with_token s t = with_tokens s (s.tokens ++ t ∷ [])

abbrev pub with_shift : HallSymbol → Vec3 ℕ → HallSymbol
with_shift s v = record { is_inverted = s.is_inverted; lattice = s.lattice; tokens = s.tokens; shift = v }

-- the entries of their matrices are -1, 0 and 1
pub record AreSmall (os : List Operation) : Type 0 where
  pub each : (o : Operation) → IsMember o os → EachEntry (AtMost 1) o.matrix
