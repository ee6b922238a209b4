-- The cells that the code holds: atom by atom, and with the bounds of their sizes.
--   IsCellWithinLimits c   c is a cell: a positive metric tensor, units within bounds, up to MOST_NAMES names that differ,
--                          and 1 to MOST_ATOMS atoms within the cell, of named species and with moments of the cell's kind, no
--                          two at one position
-- Each is a cell as `IsCell` of crystal_spec defines it.
use Rattle.std.specs.Prelude.{◌≡◌, ℕ, pos, ◌*◌, ◌^◌, ◌<◌, ◌≤◌, ◌≤ℤ◌, List, [], ◌∷◌, length, slice_get, Some}
use Rattle.lists.specs.Increasing.{IsDistinct}
use Rattle.crystal_spec.specs.declared.MomentKind.{MomentKind}
use Rattle.crystal_spec.specs.Matrices.{Matrix}
use Rattle.crystal_spec.specs.Moments.{IsOfKind}
use Rattle.crystal_spec.specs.Crystals.{Atom, Structure, IsPositive}
use Rattle.crystal_spec.specs.Operations.{IsWithinCell}
use Rattle.crystal.specs.declared.limits.TheConstants.{MOST_ATOMS, MOST_NAMES}
use Rattle.matrix3.specs.Bounds.{EntriesAtMost, CoordinatesAtMost}
use Rattle.crystal.specs.Occupants.{NoneAt}

-- rows and columns are the same
pub record IsSymmetric (g : Matrix) : Type 0 where
  pub ab : g.a21 ≡ g.a12
  pub ac : g.a31 ≡ g.a13
  pub bc : g.a32 ≡ g.a23

-- an atom of one of so many species, at a position from 0 to n - 1, with a moment of this kind and of size up to 2 · 10^27
pub record IsCellAtom (species n : ℕ) (kind : MomentKind) (atom : Atom) : Type 0 where
  pub named : atom.species < species
  pub within : IsWithinCell n atom.position
  pub moment : CoordinatesAtMost (2 * 10 ^ 27) atom.moment
  pub of_kind : IsOfKind kind atom.moment

abbrev pub AreCellAtoms : ℕ → ℕ → MomentKind → List Atom → Type 0
AreCellAtoms species n kind [] = Unit {0}
AreCellAtoms species n kind (atom ∷ atoms) = IsCellAtom species n kind atom × AreCellAtoms species n kind atoms

-- no two are at one position
abbrev pub AreApart : List Atom → Type 0
AreApart [] = Unit {0}
AreApart (atom ∷ atoms) = NoneAt atom.position atoms × AreApart atoms

pub record IsCellWithinLimits (c : Structure) : Type 0 where
  pub positive : IsPositive c.metric
  pub symmetric : IsSymmetric c.metric
  pub entries : EntriesAtMost (10 ^ 16) c.metric
  pub scale_at_least : pos 1 ≤ℤ c.scale
  pub scale_at_most : c.scale ≤ℤ pos (10 ^ 16)
  pub n_at_least : 1 ≤ c.n
  pub n_at_most : c.n ≤ 10 ^ 6
  pub k_at_least : 1 ≤ c.k
  pub k_at_most : c.k ≤ 10 ^ 6
  pub names_differ : IsDistinct c.names
  pub few_names : length c.names ≤ MOST_NAMES
  pub some : 1 ≤ length c.atoms
  pub few : length c.atoms ≤ MOST_ATOMS
  pub first : (atom : Atom) → slice_get c.atoms 0 ≡ Some atom → atom.species ≡ 0
  pub atoms : AreCellAtoms (length c.names) c.n c.kind c.atoms
  pub apart : AreApart c.atoms
