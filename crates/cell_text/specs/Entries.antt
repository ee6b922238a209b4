-- What the lines of a cell file say: atoms, a metric tensor and a kind of moments, and their ranges.
--   AtomLine, atom_line_of name fs     the name, position and moment of an atom line with these numbers
--   ScaledMetric, metric_of fs    the metric tensor of a metric line with these numbers, with its least scale
--   Contents, with_entry held e   the kinds, metric tensors and atoms of some lines, and whether `end` is among them; one line more
--   kind_of held                  the kind of the moments: axial vectors where no line says it
--   State, state_after ls         what is known behind some lines: the version that the first one tells, and the contents
--   are_positions_in_range as, are_moments_in_range as    the common denominators are within 10^6, scaled moments within 10^9
--   is_same_place a b             the two positions are equal modulo 1
use Rattle.std.specs.Prelude.{ℕ, ℤ, pos, ◌*ℤ◌, ◌-ℤ◌, Bool, true, false, ◌&&◌, nat_le, int_lt, List, [], ◌∷◌, ◌++◌, map, get_or, unsigned_abs}
use Rattle.std.specs.List.{fold, list_all, flat_map}
use Rattle.std.specs.declared.option.Option.{Option}
use Rattle.std.specs.declared.option.Option.TheVariants.{Some, None}
use Rattle.crystal_spec.specs.declared.MomentKind.{MomentKind}
use Rattle.crystal_spec.specs.Matrices.{Matrix, determinant}
use Rattle.crystal_spec.specs.Moments.{axial_vectors}
use Rattle.numbers.specs.Fraction.{Fraction, fraction}
use Rattle.plain_text.specs.NumberWords.{number_value, common_denominator, scaled, is_same_modulo_1}
use Rattle.cell_text.specs.declared.version.Version.{Version}
use Rattle.cell_text.specs.Lines.{Entry, skipped, metric_entry, atom_entry, end_entry, kind_entry, other_entry, version_of, entry_of}

-- the numbers that words spell
abbrev pub values : List (List ℕ) → List Fraction
values ws = map number_value ws

abbrev pub nothing : Fraction
nothing = fraction (pos 0) (pos 1)

-- number i of these, from 0; 0 where they end before it
abbrev pub number_at : List Fraction → ℕ → Fraction
number_at fs i = get_or fs i nothing

-- An atom: its name, its position in units of the axes, and its moment along the axes. The moment of a scalar s is s 0 0.
pub record AtomLine : Type 0 where
  pub name : List ℕ
  pub x : Fraction
  pub y : Fraction
  pub z : Fraction
  pub ma : Fraction
  pub mb : Fraction
  pub mc : Fraction

-- the atom of this name with the numbers x y z ma mb mc; of x y z s, with the moment s 0 0; of x y z alone, with 0 0 0
abbrev pub atom_line_of : List ℕ → List Fraction → AtomLine
atom_line_of name fs = record { name = name; x = number_at fs 0; y = number_at fs 1; z = number_at fs 2; ma = number_at fs 3; mb = number_at fs 4; mc = number_at fs 5 }

-- ---- the metric tensor

-- the symmetric matrix with rows (aa ab ac), (ab bb bc), (ac bc cc)
abbrev pub symmetric : ℤ → ℤ → ℤ → ℤ → ℤ → ℤ → Matrix
symmetric aa bb cc bc ac ab = record { a11 = aa; a12 = ab; a13 = ac; a21 = ab; a22 = bb; a23 = bc; a31 = ac; a32 = bc; a33 = cc }

-- the scale, and the metric tensor in units of 1/scale
pub record ScaledMetric : Type 0 where
  pub scale : ℕ
  pub entries : Matrix

-- the metric tensor of the numbers aa bb cc bc ac ab in units of 1/d
abbrev pub scaled_tensor : ℕ → List Fraction → ScaledMetric
scaled_tensor d fs = record {
  scale = d;
  entries = symmetric (scaled d (number_at fs 0)) (scaled d (number_at fs 1)) (scaled d (number_at fs 2)) (scaled d (number_at fs 3)) (scaled d (number_at fs 4)) (scaled d (number_at fs 5));
}

-- with the least scale with which all six are integers
abbrev pub metric_of : List Fraction → ScaledMetric
metric_of fs = scaled_tensor (common_denominator fs) fs

-- a size of at most 10^9
abbrev pub is_billion : ℤ → Bool
is_billion a = nat_le (unsigned_abs a) 1000000000

unfoldable pub is_metric_in_range : List Fraction → Bool
is_metric_in_range fs = nat_le (common_denominator fs) 1000000000 && list_all (λ f. is_billion (scaled (common_denominator fs) f)) fs

-- the three leading minors are positive
unfoldable pub is_positive : Matrix → Bool
is_positive g = int_lt (pos 0) g.a11 && int_lt (pos 0) (g.a11 *ℤ g.a22 -ℤ g.a12 *ℤ g.a21) && int_lt (pos 0) (determinant g)

-- ---- some lines

-- what stands in some lines
pub record Contents : Type 0 where
  pub kinds : List MomentKind
  pub metrics : List ScaledMetric
  pub atoms : List AtomLine
  pub ended : Bool

abbrev pub with_metric : Contents → ScaledMetric → Contents
with_metric held m = record { kinds = held.kinds; metrics = held.metrics ++ m ∷ []; atoms = held.atoms; ended = held.ended }

abbrev pub with_atom : Contents → AtomLine → Contents
with_atom held a = record { kinds = held.kinds; metrics = held.metrics; atoms = held.atoms ++ a ∷ []; ended = held.ended }

abbrev pub with_end : Contents → Contents
with_end held = record { kinds = held.kinds; metrics = held.metrics; atoms = held.atoms; ended = true }

abbrev pub with_kind : Contents → MomentKind → Contents
with_kind held kind = record { kinds = held.kinds ++ kind ∷ []; metrics = held.metrics; atoms = held.atoms; ended = held.ended }

abbrev pub kind_of : Contents → MomentKind
kind_of held = get_or held.kinds 0 axial_vectors

-- the contents with one line more
abbrev pub with_entry : Contents → Entry → Contents
with_entry held skipped = held
with_entry held (metric_entry ws) = with_metric held (metric_of (values ws))
with_entry held (atom_entry name ws) = with_atom held (atom_line_of name (values ws))
with_entry held end_entry = with_end held
with_entry held (kind_entry kind) = with_kind held kind
with_entry held other_entry = held

-- what is known behind some lines
pub record State : Type 0 where
  pub version : Option Version
  pub held : Contents

abbrev pub state_with : Option Version → Contents → State
state_with version held = record { version = version; held = held }

-- behind no line
abbrev pub start : State
start = record { version = None; held = record { kinds = []; metrics = []; atoms = []; ended = false } }

-- The first line tells the version, and each later one is an entry of that version.
abbrev pub next_state : Option Version → Contents → List ℕ → State
next_state None held line = state_with (version_of line) held
next_state (Some version) held line = state_with (Some version) (with_entry held (entry_of version line))

abbrev pub with_line : State → List ℕ → State
with_line before line = next_state before.version before.held line

unfoldable pub state_after : List (List ℕ) → State
state_after ls = fold with_line start ls

abbrev pub contents : List (List ℕ) → Contents
contents ls = (state_after ls).held

-- ---- positions and moments

-- all coordinates of the positions
unfoldable pub positions : List AtomLine → List Fraction
positions held = flat_map (λ a. a.x ∷ a.y ∷ a.z ∷ []) held

-- all components of the moments
unfoldable pub moments : List AtomLine → List Fraction
moments held = flat_map (λ a. a.ma ∷ a.mb ∷ a.mc ∷ []) held

unfoldable pub are_positions_in_range : List AtomLine → Bool
are_positions_in_range held = nat_le (common_denominator (positions held)) 1000000

unfoldable pub are_moments_in_range : List AtomLine → Bool
are_moments_in_range held = nat_le (common_denominator (moments held)) 1000000 && list_all (λ m. is_billion (scaled (common_denominator (moments held)) m)) (moments held)

-- the two positions are equal modulo 1
abbrev pub is_same_place : AtomLine → AtomLine → Bool
is_same_place a b = is_same_modulo_1 a.x b.x && is_same_modulo_1 a.y b.y && is_same_modulo_1 a.z b.z
