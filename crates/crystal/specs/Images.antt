-- Where a map carries the atoms of a cell.
--   HasImage c w t l a          the map of matrix w and translation t, which acts on moments by l, carries the atom a to an
--                               atom of its species with the carried moment
--   HaveImages c w t l atoms    it does so for each of these atoms
use Rattle.std.specs.Prelude.{List, [], ◌∷◌}
use Rattle.crystal_spec.specs.Matrices.{Triple, Matrix, image}
use Rattle.crystal_spec.specs.Crystals.{Atom, Structure, Occupied, position_after}

abbrev pub HasImage : Structure → Matrix → Triple → Matrix → Atom → Type 0
HasImage c w t l a = Occupied c a.species (position_after w t a.position) (image l a.moment)

abbrev pub HaveImages : Structure → Matrix → Triple → Matrix → List Atom → Type 0
HaveImages c w t l [] = Unit {0}
HaveImages c w t l (atom ∷ atoms) = HasImage c w t l atom × HaveImages c w t l atoms
