-- What a Hall symbol stands for: the operations whose products are its group [Hal81; ITVB A1.4.2.3].
--   HallSymbol          whether there is an inversion, the lattice, the rotations and the shift of the origin
--   matrix_of r         the matrix of a proper rotation
--   centrings l         the translations of the lattice beside 0, in units of 1/12
--   operation_of t      the operation of a token, before the origin is shifted
--   shifted t o         the operation o about the origin that is shifted by t
--   generators s        the operations of the symbol, about the shifted origin
-- Translations are in units of 1/12. The time mark of a token is our own.
use Rattle.std.specs.Prelude.{ℕ, ℤ, pos, negsuc, ◌<◌, Bool, List, [], ◌∷◌, ◌++◌, map, if◌then◌else◌}
use Rattle.matrix3.specs.declared.vector.Vec3.{Vec3}
use Rattle.matrix3.specs.Matrices.{vector_map}
use Rattle.crystal_spec.specs.declared.Sign.TheVariants.{Same}
use Rattle.crystal_spec.specs.Matrices.{Triple, Matrix, image, identity, sum_of, difference}
use Rattle.crystal_spec.specs.Operations.{Operation}
use Rattle.basis_spec.specs.Metrics.{matrix_multiple}
use Rattle.basis_spec.specs.Translations.{pure_translation}
use Rattle.hall_symbol.specs.declared.symbol.Axis.TheVariants.{X, Y, Z}
use Rattle.hall_symbol.specs.declared.symbol.Lattice.{Lattice}
use Rattle.hall_symbol.specs.declared.symbol.Lattice.TheVariants as lattices
use Rattle.hall_symbol.specs.declared.symbol.Rotation.{Rotation}
use Rattle.hall_symbol.specs.declared.symbol.Rotation.TheVariants.{Identity, Twofold, Threefold, Fourfold, Sixfold, TwofoldDifference, TwofoldSum, ThreefoldDiagonal}
use Rattle.hall_symbol.specs.declared.symbol.Token.{Token}
use Rattle.hall_symbol.specs.Compositions.{reduced}

pub record HallSymbol : Type 0 where
  pub is_inverted : Bool
  pub lattice : Lattice
  pub tokens : List Token
  pub shift : Vec3 ℕ

-- each coordinate is from 0 to 11
pub record AreTwelfths (v : Vec3 ℕ) : Type 0 where
  pub x : v.x < 12
  pub y : v.y < 12
  pub z : v.z < 12

-- ---- matrices, as the images of x, y and z

abbrev triple : ℤ → ℤ → ℤ → Triple
triple a b c = record { x = a; y = b; z = c }

abbrev x : Triple
x = triple (pos 1) (pos 0) (pos 0)

abbrev y : Triple
y = triple (pos 0) (pos 1) (pos 0)

abbrev z : Triple
z = triple (pos 0) (pos 0) (pos 1)

abbrev -x : Triple
-x = triple (negsuc 0) (pos 0) (pos 0)

abbrev -y : Triple
-y = triple (pos 0) (negsuc 0) (pos 0)

abbrev -z : Triple
-z = triple (pos 0) (pos 0) (negsuc 0)

abbrev x-y : Triple
x-y = triple (pos 1) (negsuc 0) (pos 0)

abbrev y-z : Triple
y-z = triple (pos 0) (pos 1) (negsuc 0)

abbrev z-x : Triple
z-x = triple (negsuc 0) (pos 0) (pos 1)

-- the matrix with these rows, which takes (x, y, z) to these combinations
abbrev images : Triple → Triple → Triple → Matrix
images u v w = record { a11 = u.x; a12 = u.y; a13 = u.z; a21 = v.x; a22 = v.y; a23 = v.z; a31 = w.x; a32 = w.y; a33 = w.z }

abbrev pub matrix_of : Rotation → Matrix
matrix_of Identity = images x y z
matrix_of (Twofold Z) = images -x -y z
matrix_of (Twofold X) = images x -y -z
matrix_of (Twofold Y) = images -x y -z
matrix_of (Threefold Z) = images -y x-y z
matrix_of (Threefold X) = images x -z y-z
matrix_of (Threefold Y) = images z-x y -x
matrix_of (Fourfold Z) = images -y x z
matrix_of (Fourfold X) = images x -z y
matrix_of (Fourfold Y) = images z y -x
matrix_of (Sixfold Z) = images x-y x z
matrix_of (Sixfold X) = images x y-z y
matrix_of (Sixfold Y) = images z y z-x
matrix_of (TwofoldDifference Z) = images -y -x -z
matrix_of (TwofoldDifference X) = images -x -z -y
matrix_of (TwofoldDifference Y) = images -z -y -x
matrix_of (TwofoldSum Z) = images y x -z
matrix_of (TwofoldSum X) = images -x z y
matrix_of (TwofoldSum Y) = images z -y x
matrix_of ThreefoldDiagonal = images z x y

-- the matrix of the inversion followed by this one
abbrev pub negated : Matrix → Matrix
negated w = matrix_multiple (negsuc 0) w

-- ---- operations

-- the numbers of twelfths as integers
abbrev pub twelfths : ℕ → ℕ → ℕ → Triple
twelfths a b c = triple (pos a) (pos b) (pos c)

abbrev pub centrings : Lattice → List Triple
centrings lattices.P = []
centrings lattices.A = twelfths 0 6 6 ∷ []
centrings lattices.B = twelfths 6 0 6 ∷ []
centrings lattices.C = twelfths 6 6 0 ∷ []
centrings lattices.I = twelfths 6 6 6 ∷ []
centrings lattices.R = twelfths 8 4 4 ∷ twelfths 4 8 8 ∷ []
centrings lattices.F = twelfths 0 6 6 ∷ twelfths 6 0 6 ∷ twelfths 6 6 0 ∷ []

-- (-I, 0, +1)
abbrev pub inversion : Operation
inversion = record { matrix = negated identity; translation = twelfths 0 0 0; sign = Same }

-- the inversion, where there is one
abbrev pub inversions : Bool → List Operation
inversions is_inverted = if is_inverted then inversion ∷ [] else []

abbrev pub operation_of_token : Token → Operation
operation_of_token t = record {
  matrix = if t.is_negated then negated (matrix_of t.rotation) else matrix_of t.rotation;
  translation = vector_map pos t.translation;
  sign = t.sign;
}

-- from (W, w) to (W, w + t - W t), modulo whole translations
abbrev pub shifted : Triple → Operation → Operation
shifted t o = record { matrix = o.matrix; translation = reduced (difference (sum_of o.translation t) (image o.matrix t)); sign = o.sign }

-- the operations that a symbol names, about the origin that is not shifted
abbrev pub named_operations : HallSymbol → List Operation
named_operations s = inversions s.is_inverted ++ map pure_translation (centrings s.lattice) ++ map operation_of_token s.tokens

unfoldable pub generators : HallSymbol → List Operation
generators s = map (shifted (vector_map pos s.shift)) (named_operations s)
