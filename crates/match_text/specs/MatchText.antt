-- The text of the maps that carry the groups of a table's rows onto a found group.
--   coordinates_text p        three fractions in lowest terms, each behind a space
--   row_text i name m         the line of row number i with its map
--   matched_text i name m     that line, where there is a map
--   rows_text i rows maps     the lines of the rows that have a map, of which the first is row number i
--   has_match maps            a row has a map
--   matches_text q rows maps  the whole text
-- The format is our own.
use Rattle.std.specs.Prelude.{ℕ, ◌+◌, Bool, true, false, List, [], ◌∷◌, ◌++◌, unsigned_abs, codes, if◌then◌else◌}
use Rattle.std.specs.Fmt.{decimal}
use Rattle.std.specs.declared.option.Option.{Option}
use Rattle.std.specs.declared.option.Option.TheVariants.{Some, None}
use Rattle.matrix3.specs.declared.Vec3.{Vec3}
use Rattle.exact_num.specs.declared.frac.Frac.{Frac}
use Rattle.crystal_spec.specs.Matrices.{Matrix}
use Rattle.plain_text.specs.NumberText.{number_text}
use Rattle.operation_text.specs.EntryText.{entries_text}
use Rattle.hall_text.specs.declared.rows.Row.{Row}
use Rattle.group_match.specs.declared.map.Map.{Map}

-- a fraction, behind a space
abbrev pub coordinate_text : Frac → List ℕ
coordinate_text f = 32 ∷ number_text f.num (unsigned_abs f.den)

abbrev pub coordinates_text : Vec3 Frac → List ℕ
coordinates_text p = coordinate_text p.x ++ coordinate_text p.y ++ coordinate_text p.z

-- number and name, the entries of Q row by row, and the origin shift
abbrev pub row_text : ℕ → List ℕ → Map → List ℕ
row_text i name m = (decimal i ++ 32 ∷ name) ++ (entries_text m.turn ++ coordinates_text m.origin ++ 10 ∷ [])

-- nothing where the row has no map
abbrev pub matched_text : ℕ → List ℕ → Option Map → List ℕ
matched_text i name None = []
matched_text i name (Some m) = row_text i name m

-- rows are counted from 1, those without a map too
abbrev pub rows_text : ℕ → List Row → List (Option Map) → List ℕ
rows_text i [] maps = []
rows_text i (row ∷ rows) [] = []
rows_text i (row ∷ rows) (m ∷ maps) = matched_text i row.name m ++ rows_text (i + 1) rows maps

abbrev pub has_match : List (Option Map) → Bool
has_match [] = false
has_match (None ∷ maps) = has_match maps
has_match (Some m ∷ maps) = true

-- Q of the found cell; and the rows with their maps, or that there are none
abbrev pub matches_text : Matrix → List Row → List (Option Map) → List ℕ
matches_text q rows maps = codes "back" ++ entries_text q ++ 10 ∷ (if has_match maps then rows_text 1 rows maps else codes "none\n")
