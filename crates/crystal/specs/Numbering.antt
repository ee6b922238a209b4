-- Species numbered by first use: the names of a cell come in the order in which its atoms first have them.
--   AreByFirstUse m t atoms   behind m species, each further one has the next number, and there are t in the end
-- Our own.
use Rattle.std.specs.Prelude.{◌≡◌, ◌⊎◌, ℕ, suc, ◌<◌, List, [], ◌∷◌}
use Rattle.crystal_spec.specs.Crystals.{Atom}

-- An atom has a species that an earlier one has, or the next number. With m = 0, each species is that of an atom.
abbrev pub AreByFirstUse : ℕ → ℕ → List Atom → Type 0
AreByFirstUse used total [] = used ≡ total
AreByFirstUse used total (s ∷ atoms) = ((s.species < used) × AreByFirstUse used total atoms) ⊎ ((s.species ≡ used) × AreByFirstUse (suc used) total atoms)
