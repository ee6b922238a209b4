-- What a map between two crystals says of their groups of symmetry operations.
--   HaveGroupsAlike c c' maps   the maps are as many as the operations of either cell, and the two groups are of one magnetic
--                               type, with family groups of one order and maximal space subgroups of one order
-- Types and groups as mag_type defines them [STT23].
use Rattle.std.specs.Prelude.{◌≡◌, ℕ, List, length}
use Rattle.crystal_spec.specs.Crystals.{Structure}
use Rattle.crystal_spec.specs.Operations.{Operation, ListsAll}
use Rattle.mag_type.specs.Families.{IsInFamily, IsUnprimed, IsNumberOf}
use Rattle.mag_type.specs.MagneticTypes.{IsMagneticType}
use Rattle.crystal_compare.specs.Maps.{AffineMap}

-- os and os' are the lists of all symmetry operations of c and of c'
pub record AreAlike (os os' : List Operation) : Type 0 where
  pub one_type : (j k : ℕ) → IsMagneticType os j → IsMagneticType os' k → j ≡ k
  pub one_family : (j k : ℕ) → IsNumberOf (IsInFamily os) j → IsNumberOf (IsInFamily os') k → j ≡ k
  pub one_unprimed : (j k : ℕ) → IsNumberOf (IsUnprimed os) j → IsNumberOf (IsUnprimed os') k → j ≡ k

pub record HaveGroupsAlike (c c' : Structure) (maps : List AffineMap) : Type 0 where
  pub as_many_as_first : (os : List Operation) → ListsAll c os → length maps ≡ length os
  pub as_many_as_second : (os : List Operation) → ListsAll c' os → length maps ≡ length os
  pub alike : (os os' : List Operation) → ListsAll c os → ListsAll c' os' → AreAlike os os'
