-- The four types of magnetic space groups [STT23]. Such a group is given by the list of its operations, a group modulo whole
-- cells whose only pure translation is 0; then exactly one of the four holds.
--   HasOnlyZeroTranslation os   the only pure translation of the list is 0
--   anti_translation t          the operation (I, t, -1)
--   time_reversal               the operation (I, 0, -1)
--   HasAntiTranslation os       an operation of the list is (I, t, -1)
--   IsTypeOne os                no operation reverses time
--   IsTypeTwo os                time reversal itself is an operation
--   IsTypeThree os              an operation reverses time, and none that does is a translation
--   IsTypeFour os               time reversal with a translation other than 0 is an operation
--   IsMagneticType os k         the list is of type k
use Rattle.std.specs.Prelude.{◌≡◌, ◌≢◌, ℕ, List}
use Rattle.lists.specs.Increasing.{IsMember}
use Rattle.crystal_spec.specs.declared.Sign.TheVariants.{Same, Reversed}
use Rattle.crystal_spec.specs.Matrices.{Triple, identity}
use Rattle.crystal_spec.specs.Operations.{Operation}
use Rattle.positions.specs.Positions.{origin}
use Rattle.basis_spec.specs.Translations.{pure_translation}

-- (I, t, +1) is an operation of the list for t = 0 alone
abbrev pub HasOnlyZeroTranslation : List Operation → Type 0
HasOnlyZeroTranslation os = (t : Triple) → IsMember (pure_translation t) os → t ≡ origin

-- (I, t, -1): time is reversed, with a translation
abbrev pub anti_translation : Triple → Operation
anti_translation t = record { matrix = identity; translation = t; sign = Reversed }

-- (I, 0, -1)
abbrev pub time_reversal : Operation
time_reversal = anti_translation origin

-- for some t, (I, t, -1) is an operation of the list
pub record HasAntiTranslation (os : List Operation) : Type 0 where
  pub translation : Triple
  pub of_list : IsMember (anti_translation translation) os

-- each operation has the sign +1
abbrev pub IsTypeOne : List Operation → Type 0
IsTypeOne os = (o : Operation) → IsMember o os → o.sign ≡ Same

-- (I, 0, -1) is an operation
abbrev pub IsTypeTwo : List Operation → Type 0
IsTypeTwo os = IsMember time_reversal os

-- an operation has the sign -1, but none is (I, t, -1), whatever t is
pub record IsTypeThree (os : List Operation) : Type 0 where
  pub operation : Operation
  pub of_list : IsMember operation os
  pub reverses : operation.sign ≡ Reversed
  pub no_anti_translation : ¬ (HasAntiTranslation os)

-- (I, t, -1) is an operation for a t other than 0
pub record IsTypeFour (os : List Operation) : Type 0 where
  pub translation : Triple
  pub nonzero : translation ≢ origin
  pub of_list : IsMember (anti_translation translation) os

-- the number of the type, from I to IV
pub data IsMagneticType (os : List Operation) (k : ℕ) : Type 0 where
  one : k ≡ 1 → IsTypeOne os → IsMagneticType os k
  two : k ≡ 2 → IsTypeTwo os → IsMagneticType os k
  three : k ≡ 3 → IsTypeThree os → IsMagneticType os k
  four : k ≡ 4 → IsTypeFour os → IsMagneticType os k
