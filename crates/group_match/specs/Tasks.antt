-- What a search is given.
--   IsTask h n m              the symbol's group h, and the found group m modulo n, with its sizes
--   IsNoneBefore h n m s k    no matrix of the class with a number below k carries
--   AreSourcesOf h s xs       xs are representatives of h, each with its matrix in the triangular basis
use Rattle.std.specs.Prelude.{ℕ, pos, ◌<◌, ◌≤◌, ◌^◌, List, map, length}
use Rattle.lists.specs.Increasing.{IsMember, IsDistinct}
use Rattle.crystal_spec.specs.Matrices.{Matrix, product}
use Rattle.crystal_spec.specs.Operations.{Operation}
use Rattle.op_group.specs.Groups.{IsGroupModulo}
use Rattle.op_group.specs.Lists.{HasEntriesAtMost}
use Rattle.op_group.specs.Views.{operation_of}
use Rattle.mag_type.specs.MagneticTypes.{HasOnlyZeroTranslation}
use Rattle.match_spec.specs.Points.{Point, IsPoint}
use Rattle.match_spec.specs.Maps.{Carries}
use Rattle.match_spec.specs.FirstMap.{IsClass}
use Rattle.match_spec.specs.Searching.{AreRepresentatives}
use Rattle.group_match.specs.declared.inner.Source.{Source}
use Rattle.group_match.specs.Candidates.{matrix_of_number}
use Rattle.group_match.specs.Sources.{op_of, IsInner}

-- two groups, and the sizes of the found one
pub record IsTask (h : List Operation) (n : ℕ) (m : List Operation) : Type 0 where
  pub symbol_group : IsGroupModulo 12 h
  pub found_group : IsGroupModulo n m
  pub primitive : HasOnlyZeroTranslation m
  pub once : IsDistinct m
  pub n_most : n ≤ 10 ^ 6
  pub few : length m ≤ 96
  pub small : HasEntriesAtMost 150000000 m

-- representatives of the symbol's group, each with its matrix in the triangular basis
pub record AreSourcesOf (h : List Operation) (s : Matrix) (xs : List Source) : Type 0 where
  pub representatives : AreRepresentatives h (map (λ x. operation_of (op_of x)) xs)
  pub inner : (x : Source) → IsMember x xs → IsInner s x

-- none of the first k matrices of the class carries
abbrev pub IsNoneBefore : List Operation → ℕ → List Operation → Matrix → ℕ → Type 0
IsNoneBefore h n m s k = (j : ℕ) → j < k → IsClass (matrix_of_number j) → (p : Point) → IsPoint p → ¬ (Carries (product (matrix_of_number j) s) p h (pos n) m)
