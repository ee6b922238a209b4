-- Which cells have a cell file.
--   divisor_with d zs          the greatest common divisor of d and some integers
--   all_positions atoms        all coordinates of the positions
--   all_moments atoms          all components of the moments
--   AreAtMost b zs             each has at most this size
--   IsPrintable c              the cell is one that a cell file spells
-- Our own.
use Rattle.std.specs.Prelude.{◌≡◌, ℕ, ℤ, pos, ◌^◌, ◌≤◌, ◌≤ℤ◌, true, List, [], ◌∷◌, length, unsigned_abs}
use Rattle.std.specs.List.{fold, flat_map, list_all}
use Rattle.numbers.specs.Gcd.{gcd}
use Rattle.crystal_spec.specs.Crystals.{Atom, Structure}
use Rattle.crystal.specs.Names.{is_name}
use Rattle.crystal.specs.Numbering.{AreByFirstUse}
use Rattle.cell_print.specs.CellFileText.{scalar_products, coordinates}

-- the greatest common divisor of d and these
abbrev pub divisor_with : ℕ → List ℤ → ℕ
divisor_with d zs = fold (λ g z. gcd g (unsigned_abs z)) d zs

-- all coordinates of the positions, atom by atom
abbrev pub all_positions : List Atom → List ℤ
all_positions atoms = flat_map (λ s. coordinates s.position) atoms

-- all components of the moments, atom by atom
abbrev pub all_moments : List Atom → List ℤ
all_moments atoms = flat_map (λ s. coordinates s.moment) atoms

-- each has at most this size
abbrev pub AreAtMost : ℕ → List ℤ → Type 0
AreAtMost bound [] = Unit {0}
AreAtMost bound (z ∷ zs) = (unsigned_abs z ≤ bound) × AreAtMost bound zs

-- The units are the least ones, sizes are within the limits of the cell file, names have the form of names, and species are
-- numbered in the order of their first use, with no name that no atom has. The moments may be of any kind.
pub record IsPrintable (c : Structure) : Type 0 where
  pub least_scale : divisor_with (unsigned_abs c.scale) (scalar_products c.metric) ≡ 1
  pub least_n : divisor_with c.n (all_positions c.atoms) ≡ 1
  pub least_k : divisor_with c.k (all_moments c.atoms) ≡ 1
  pub scale : c.scale ≤ℤ pos (10 ^ 9)
  pub metric : AreAtMost (10 ^ 9) (scalar_products c.metric)
  pub moments : AreAtMost (10 ^ 9) (all_moments c.atoms)
  pub names : list_all is_name c.names ≡ true
  pub species : AreByFirstUse 0 (length c.names) c.atoms
