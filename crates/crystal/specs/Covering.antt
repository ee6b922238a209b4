-- The index of the positions of atoms.
--   IsListed places a       the position of the atom a is one of these places, as three numbers
--   Covers atoms index      the index has the position of each of these atoms
--   Lacks index p           it does not have the place p
use Rattle.std.specs.Prelude.{◌≡◌, ℕ, List, length}
use Rattle.lists.specs.Increasing.{IsMember}
use Rattle.crystal_spec.specs.Crystals.{Atom}
use Rattle.positions.specs.Positions.{triple_of}
use Rattle.crystal.specs.declared.place_index.PlaceIndex.{PlaceIndex}

pub record IsListed (places : List (List ℕ)) (a : Atom) : Type 0 where
  pub place : List ℕ
  pub three : length place ≡ 3
  pub is : a.position ≡ triple_of place
  pub listed : IsMember place places

abbrev pub Covers : List Atom → PlaceIndex → Type 0
Covers atoms index = (a : Atom) → IsMember a atoms → IsListed index.places.keys a

abbrev pub Lacks : PlaceIndex → List ℕ → Type 0
Lacks index place = IsMember place index.places.keys → ⊥
