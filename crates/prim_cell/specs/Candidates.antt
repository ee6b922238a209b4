-- The translations that are tried.
--   IsOnto c a b o       o is the pure translation that carries atom number a onto atom number b, of its species, and it
--                        keeps the crystal
--   IsFromAtoms c a k o  it carries atom number a onto one of the first k atoms so
use Rattle.std.specs.Prelude.{◌≡◌, ℕ, slice_get, Some}
use Rattle.lists.specs.Any.{AnyBelow}
use Rattle.crystal_spec.specs.Matrices.{difference}
use Rattle.crystal_spec.specs.Crystals.{Atom, Structure}
use Rattle.crystal_spec.specs.Operations.{Operation}
use Rattle.positions.specs.Positions.{modulo}
use Rattle.basis_spec.specs.Translations.{IsTranslation, pure_translation}

-- the translation by the difference of the two positions, modulo n
pub record IsOnto (c : Structure) (a b : ℕ) (o : Operation) : Type 0 where
  pub from : Atom
  pub is_from : slice_get c.atoms a ≡ Some from
  pub onto : Atom
  pub is_onto : slice_get c.atoms b ≡ Some onto
  pub same_species : onto.species ≡ from.species
  pub is : o ≡ pure_translation (modulo c.n (difference onto.position from.position))
  pub keeps : IsTranslation c o.translation

-- onto one of the first k atoms
abbrev pub IsFromAtoms : Structure → ℕ → ℕ → Operation → Type 0
IsFromAtoms c a k o = AnyBelow k (λ b. IsOnto c a b o)
