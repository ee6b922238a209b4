-- The text of the maps that carry one crystal onto another. A map x ↦ W x + w is spelled as a symmetry operation, one line a
-- map: `-x+1/3,-y,-z,+1`.
--   shift_text f              a fraction in lowest terms behind a plus; nothing for 0
--   coordinate_text x y z f   the part of a coordinate, of these coefficients and this translation
--   map_text a                the line of a map
--   maps_text maps            the lines of the maps, in order
--   back_text key q           a key and the entries of a matrix, row by row
--   listed_text maps          the lines of the maps, or that there are none
--   comparison_text q q' maps the whole text
-- The format is our own; terms and time signs are those of operation_text.
use Rattle.std.specs.Prelude.{ℕ, zero, suc, ℤ, pos, negsuc, List, [], ◌∷◌, ◌++◌, unsigned_abs, codes}
use Rattle.numbers.specs.Fraction.{Fraction}
use Rattle.crystal_spec.specs.Matrices.{Matrix}
use Rattle.plain_text.specs.NumberText.{number_text}
use Rattle.operation_text.specs.EntryText.{entries_text}
use Rattle.operation_text.specs.OperationText.{terms_text, sign_text}
use Rattle.crystal_compare.specs.Maps.{AffineMap}

-- the numerator tells whether the fraction is 0
abbrev pub part_text : ℤ → ℕ → List ℕ
part_text (pos zero) d = []
part_text (pos (suc z)) d = codes "+" ++ number_text (pos (suc z)) d
part_text (negsuc z) d = codes "+" ++ number_text (negsuc z) d

abbrev pub shift_text : Fraction → List ℕ
shift_text f = part_text f.numerator (unsigned_abs f.denominator)

-- the terms in x, y and z, and the translation
abbrev pub coordinate_text : ℤ → ℤ → ℤ → Fraction → List ℕ
coordinate_text x y z f = terms_text x y z ++ shift_text f

-- the three coordinates and the time sign, joined by commas
unfoldable pub map_text : AffineMap → List ℕ
map_text a =
    coordinate_text a.matrix.a11 a.matrix.a12 a.matrix.a13 a.shift.x ++ codes ","
    ++ coordinate_text a.matrix.a21 a.matrix.a22 a.matrix.a23 a.shift.y ++ codes ","
    ++ coordinate_text a.matrix.a31 a.matrix.a32 a.matrix.a33 a.shift.z ++ codes ","
    ++ sign_text a.sign ++ codes "\n"

abbrev pub maps_text : List AffineMap → List ℕ
maps_text [] = []
maps_text (a ∷ maps) = map_text a ++ maps_text maps

abbrev pub back_text : List ℕ → Matrix → List ℕ
back_text key q = key ++ entries_text q ++ codes "\n"

abbrev pub listed_text : List AffineMap → List ℕ
listed_text [] = codes "none\n"
listed_text (a ∷ maps) = maps_text (a ∷ maps)

-- Q of the first cell and of the second; and the maps, or that there are none
abbrev pub comparison_text : Matrix → Matrix → List AffineMap → List ℕ
comparison_text q q' maps = back_text (codes "back1") q ++ back_text (codes "back2") q' ++ listed_text maps
