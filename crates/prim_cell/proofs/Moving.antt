-- Where a translation takes the atoms of a cell.
use Rattle.std.proofs.Common.{◌≡◌, ℕ, List, ap, arith}
use Rattle.std.specs.Prelude.{pos, ◌<ℤ◌, slice_index}
use Rattle.std.proofs.lemmas.Int.{ints}
use Rattle.crystal_spec.specs.Matrices.{Triple}
use Rattle.crystal_spec.specs.Crystals.{Structure}
use Rattle.positions.specs.Positions.{triple_of}
use Rattle.crystal_spec.proofs.Entrywise.{triple_same}
use Rattle.crystal.specs.Cells.{IsCellWithinLimits}

-- n is positive in a cell
pub some_cells : (c : Structure) → IsCellWithinLimits c → pos 0 <ℤ pos c.n
some_cells c cell = let h = cell.n_at_least in omega (arith, ints, h)

-- two positions are one where their coordinates are
pub place_same : (p q : List ℕ) → slice_index p 0 ≡ slice_index q 0 → slice_index p 1 ≡ slice_index q 1 → slice_index p 2 ≡ slice_index q 2 → triple_of p ≡ triple_of q
place_same p q e f g = triple_same (ap pos e) (ap pos f) (ap pos g)

natural_same : (a b : ℕ) → pos a ≡ pos b → a ≡ b
natural_same a b e = omega (arith, ints, e)

pub record SameNumbers (p q : List ℕ) : Type 0 where
  pub x : slice_index p 0 ≡ slice_index q 0
  pub y : slice_index p 1 ≡ slice_index q 1
  pub z : slice_index p 2 ≡ slice_index q 2

pub numbers_same : (p q : List ℕ) → triple_of p ≡ triple_of q → SameNumbers p q
numbers_same p q e = record { x = natural_same _ _ (ap (λ (v : Triple). v.x) e); y = natural_same _ _ (ap (λ (v : Triple). v.y) e); z = natural_same _ _ (ap (λ (v : Triple). v.z) e) }
