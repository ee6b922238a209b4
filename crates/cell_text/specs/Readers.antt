-- What the reader's state stands for.
use Rattle.std.specs.Prelude.{◌≡◌, ◌<◌, ◌≤◌, List, [], ◌∷◌, map, length, get_or, true}
use Rattle.std.specs.List.{list_all}
use Rattle.std.specs.declared.option.Option.{Option}
use Rattle.std.specs.declared.option.Option.TheVariants.{Some, None}
use Rattle.crystal_spec.specs.declared.MomentKind.{MomentKind}
use Rattle.crystal_spec.specs.Moments.{axial_vectors}
use Rattle.crystal.specs.declared.limits.TheConstants.{MOST_ATOMS}
use Rattle.crystal.specs.Views.{metric_of as tensor}
use Rattle.plain_text.specs.NumberWords.{common_denominator, scaled}
use Rattle.cell_text.specs.Entries.{ScaledMetric, State, positions, moments, is_billion, is_positive}
use Rattle.cell_text.specs.Views.{atom_view, AreApart, AreOfKind}
use Rattle.cell_text.specs.declared.scaled_metric.ScaledMetric.{ScaledMetric as CodeMetric}
use Rattle.cell_text.specs.declared.reader.Reader.TheInside.{Inside}

abbrev pub metric_view : CodeMetric → ScaledMetric
metric_view m = record { scale = m.scale; entries = tensor m.metric }

abbrev pub metrics_of : Option CodeMetric → List ScaledMetric
metrics_of None = []
metrics_of (Some m) = metric_view m ∷ []

abbrev pub kinds_of : Option MomentKind → List MomentKind
kinds_of None = []
kinds_of (Some kind) = kind ∷ []

-- axial vectors where nothing else is said
abbrev pub kind_or_default : Option MomentKind → MomentKind
kind_or_default kind = get_or (kinds_of kind) 0 axial_vectors

abbrev pub state_of : Inside → State
state_of r = record { version = r.version; held = record { kinds = kinds_of r.kind; metrics = metrics_of r.metric; atoms = map atom_view r.atoms.items; ended = r.ended } }

-- the metric tensor, where there is one, is positive
abbrev pub IsPositiveIfThere : Option CodeMetric → Type 0
IsPositiveIfThere None = Unit {0}
IsPositiveIfThere (Some m) = is_positive (tensor m.metric) ≡ true

-- It keeps the least common denominators so far, and only atoms and metric tensors that broke no rule.
pub record IsReader (r : Inside) : Type 0 where
  pub n_is : r.n ≡ common_denominator (positions (map atom_view r.atoms.items))
  pub k_is : r.k ≡ common_denominator (moments (map atom_view r.atoms.items))
  pub n_positive : 0 < r.n
  pub k_positive : 0 < r.k
  pub n_within : r.n ≤ 1000000
  pub k_within : r.k ≤ 1000000
  pub moments_within : list_all (λ m. is_billion (scaled r.k m)) (moments (map atom_view r.atoms.items)) ≡ true
  pub few : length r.atoms.items ≤ MOST_ATOMS
  pub apart : AreApart (map atom_view r.atoms.items)
  pub of_kind : AreOfKind (kind_or_default r.kind) (map atom_view r.atoms.items)
  pub positive : IsPositiveIfThere r.metric
  pub ends : r.ended ≡ true → (0 < length (metrics_of r.metric)) × (0 < length r.atoms.items)
