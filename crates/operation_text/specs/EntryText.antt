-- The text of the entries of a matrix.
--   integers_text zs   integers in decimal, each behind a space
--   entries_text q     the entries of a matrix row by row, each behind a space
-- The format is our own.
use Rattle.std.specs.Prelude.{ℕ, ℤ, List, [], ◌∷◌, ◌++◌}
use Rattle.std.specs.Fmt.{signed_decimal}
use Rattle.crystal_spec.specs.Matrices.{Matrix}

-- the integers in decimal, a space before each
abbrev pub integers_text : List ℤ → List ℕ
integers_text [] = []
integers_text (z ∷ zs) = 32 ∷ signed_decimal z ++ integers_text zs

-- the nine entries, row by row
abbrev pub entries_text : Matrix → List ℕ
entries_text q = integers_text (q.a11 ∷ q.a12 ∷ q.a13 ∷ q.a21 ∷ q.a22 ∷ q.a23 ∷ q.a31 ∷ q.a32 ∷ q.a33 ∷ [])
