-- The cell that a cell file spells.
--   names_of as     the names of the atoms, in the order of their first use
--   number_of ns w  which of the names it is, from 0
--   atom_of ns n k  the atom of a cell, with its position in units of 1/n modulo n and its moment in units of 1/k
--   cell_with held  the cell of these contents: scale, n and k are the least common denominators of the metric tensor, of
--                   all positions and of all moments
--   Spells text c   no line of the text breaks a rule, and c is the cell of its lines
use Rattle.std.specs.Prelude.{◌≡◌, ℕ, ℤ, pos, List, [], ◌∷◌, ◌++◌, map, get_or, if◌then◌else◌}
use Rattle.std.specs.List.{fold, list_any, position_or_len}
use Rattle.std.specs.declared.option.Option.TheVariants.{None}
use Rattle.numbers.specs.Residue.{residue}
use Rattle.crystal_spec.specs.Matrices.{Triple}
use Rattle.crystal_spec.specs.Crystals.{Atom, Structure}
use Rattle.plain_text.specs.Text.{lines}
use Rattle.numbers.specs.Fraction.{Fraction}
use Rattle.plain_text.specs.NumberWords.{common_denominator, scaled}
use Rattle.cell_text.specs.Lines.{same_word}
use Rattle.cell_text.specs.Entries.{AtomLine, ScaledMetric, Contents, symmetric, contents, kind_of, positions, moments}
use Rattle.cell_text.specs.Rules.{cell_fault}

-- the name at the end, where it is not among them
abbrev pub with_name : List (List ℕ) → List ℕ → List (List ℕ)
with_name names name = if list_any (same_word name) names then names else names ++ name ∷ []

unfoldable pub names_of : List AtomLine → List (List ℕ)
names_of held = fold (λ names a. with_name names a.name) [] held

abbrev pub number_of : List (List ℕ) → List ℕ → ℕ
number_of names name = position_or_len (same_word name) names

-- a coordinate in units of 1/n, from 0 to n - 1
abbrev pub part_of : ℕ → Fraction → ℤ
part_of n f = residue n (scaled n f)

abbrev pub position_of : ℕ → AtomLine → Triple
position_of n a = record { x = part_of n a.x; y = part_of n a.y; z = part_of n a.z }

abbrev pub moment_of : ℕ → AtomLine → Triple
moment_of k a = record { x = scaled k a.ma; y = scaled k a.mb; z = scaled k a.mc }

abbrev pub atom_of : List (List ℕ) → ℕ → ℕ → AtomLine → Atom
atom_of names n k a = record { species = number_of names a.name; position = position_of n a; moment = moment_of k a }

-- what stands for the metric where there is no metric line
abbrev pub no_metric : ScaledMetric
no_metric = record { scale = 0; entries = symmetric (pos 0) (pos 0) (pos 0) (pos 0) (pos 0) (pos 0) }

unfoldable pub cell_with : Contents → Structure
cell_with held = record {
  names = names_of held.atoms;
  scale = pos (get_or held.metrics 0 no_metric).scale;
  metric = (get_or held.metrics 0 no_metric).entries;
  n = common_denominator (positions held.atoms);
  k = common_denominator (moments held.atoms);
  kind = kind_of held;
  atoms = map (atom_of (names_of held.atoms) (common_denominator (positions held.atoms)) (common_denominator (moments held.atoms))) held.atoms;
}

abbrev pub cell_of : List (List ℕ) → Structure
cell_of ls = cell_with (contents ls)

pub record Spells (text : List ℕ) (c : Structure) : Type 0 where
  pub faultless : cell_fault text ≡ None
  pub is : c ≡ cell_of (lines text)
