-- The moment that words ask for has components of up to 9 digits.
use Rattle.std.proofs.Common.{◌≡◌, refl, ℕ, zero, suc, ℤ, pos, ◌<◌, ◌^◌, Bool, true, false, List, [], ◌∷◌, length}
use Rattle.std.specs.Prelude.{drop, nat_eq, nat_le, neg_ℤ, Some, None, if◌then◌else◌, IfOk}
use Rattle.std.specs.declared.option.Option.{Option}
use Rattle.std.specs.declared.result.Result.{Result}
use Rattle.std.specs.declared.result.Result.TheVariants.{Ok, Err}
use Rattle.std.proofs.lemmas.Bool.{leb-true, and_parts}
use Rattle.plain_text.specs.Digits.{is_digits, is_count, value_of_digits}
use Rattle.plain_text.proofs.DigitLemmas.{digits_below}
use Rattle.command_words.specs.declared.options.Awaited.{Awaited}
use Rattle.command_words.specs.declared.options.Awaited.TheVariants.{AnyOption, ValueOfSkip, ValueOfTake}
use Rattle.command_words.specs.declared.options.Options.{Options}
use Rattle.command_words.specs.declared.command.Command.{Command}
use Rattle.command_words.specs.declared.command.Command.TheVariants.{Symmetry, Primitive, Dataset, Orbits, Hall, Identify, Standard, Compare, Moments, Fill, Selfrun}
use Rattle.command_words.specs.declared.command.CommandName.{CommandName}
use Rattle.command_words.specs.declared.command.UsageFault.{UsageFault}
use Rattle.command_words.specs.declared.command.UsageFault.TheVariants.{MissingValue, UnknownCommand, BadValue}
use Rattle.command_words.specs.Commands.{count_of, component_of, with_word, command_of, options, alone, first_word, one_more, seeded, filling, filled, command_name, behind_name, command, no_options}
use Rattle.command_words.specs.Fillings.{IsSmallComponent, HasSmallMoment}

-- ---- the words of a filling

abbrev IsBelow : Result ℕ UsageFault → Type 0
IsBelow (Ok n) = n < 10 ^ 9
IsBelow (Err fault) = Unit {0}

below_if : (b : Bool) (v : ℕ) → (b ≡ true → v < 10 ^ 9) → IsBelow (if b then Ok v else Err BadValue)
below_if true v h = h refl
below_if false v h = tt

count_below : (word : List ℕ) → IsBelow (count_of word)
count_below word = below_if (is_count word) (value_of_digits word) (λ is.
    let p = and_parts (is_digits word) (nat_le (length word) 9) is in
    digits_below word 9 (and_parts _ _ p.0).1 (leb-true (length word) 9 p.1))

abbrev IsSmallResult : Result ℤ UsageFault → Type 0
IsSmallResult (Ok z) = IsSmallComponent z
IsSmallResult (Err fault) = Unit {0}

small_negative : (r : Result ℕ UsageFault) → IsBelow r → IsSmallResult (elim r [ Ok size ↦ Ok (neg_ℤ (pos size)) | Err fault ↦ Err fault ])
small_negative (Ok zero) h = h
small_negative (Ok (suc n)) h = h
small_negative (Err fault) h = tt

small_positive : (r : Result ℕ UsageFault) → IsBelow r → IsSmallResult (elim r [ Ok size ↦ Ok (pos size) | Err fault ↦ Err fault ])
small_positive (Ok n) h = h
small_positive (Err fault) h = tt

small_if : (b : Bool) (r s : Result ℤ UsageFault) → IsSmallResult r → IsSmallResult s → IsSmallResult (if b then r else s)
small_if true r s p q = p
small_if false r s p q = q

component_small : (word : List ℕ) → IsSmallResult (component_of word)
component_small [] = tt
component_small (b ∷ later) = small_if (nat_eq b 45) _ _ (small_negative (count_of later) (count_below later)) (small_positive (count_of (b ∷ later)) (count_below (b ∷ later)))

-- ---- what words ask for

-- a command with a small moment, if any
abbrev IsFine : Result Command UsageFault → Type 0
IsFine (Ok c) = HasSmallMoment c
IsFine (Err fault) = Unit {0}

fine_filling : (i : Result ℕ UsageFault) (a b c : Result ℤ UsageFault) → IsSmallResult a → IsSmallResult b → IsSmallResult c → IsFine (elim i [
  | Ok atom ↦ elim a [
    | Ok x ↦ elim b [
      | Ok y ↦ elim c [
        | Ok z ↦ Ok (Fill (record { atom = atom; a = x; b = y; c = z }))
        | Err fault ↦ Err fault
      ]
      | Err fault ↦ Err fault
    ]
    | Err fault ↦ Err fault
  ]
  | Err fault ↦ Err fault
])
fine_filling (Err fault) a b c p q r = tt
fine_filling (Ok atom) (Err fault) b c p q r = tt
fine_filling (Ok atom) (Ok x) (Err fault) c p q r = tt
fine_filling (Ok atom) (Ok x) (Ok y) (Err fault) p q r = tt
fine_filling (Ok atom) (Ok x) (Ok y) (Ok z) p q r = record { a = p; b = q; c = r }

fine_filled : (words : List (List ℕ)) → IsFine (filled words)
fine_filled [] = tt
fine_filled (i ∷ []) = tt
fine_filled (i ∷ a ∷ []) = tt
fine_filled (i ∷ a ∷ b ∷ []) = tt
fine_filled (i ∷ a ∷ b ∷ c ∷ []) = fine_filling (count_of i) (component_of a) (component_of b) (component_of c) (component_small a) (component_small b) (component_small c)
fine_filled (i ∷ a ∷ b ∷ c ∷ other ∷ later) = tt

fine_asked : (awaited : Awaited) (o : Options) → IsFine (elim awaited [ AnyOption ↦ Ok (command_of o) | ValueOfSkip ↦ Err MissingValue | ValueOfTake ↦ Err MissingValue ])
fine_asked AnyOption o = tt
fine_asked ValueOfSkip o = tt
fine_asked ValueOfTake o = tt

fine_next : (r : Result Options UsageFault) (later : List (List ℕ)) → ((read : Options) → IsFine (options read later)) → IsFine (elim r [ Ok read ↦ options read later | Err fault ↦ Err fault ])
fine_next (Ok read) later fine = fine read
fine_next (Err fault) later fine = tt

fine_options : (o : Options) (words : List (List ℕ)) → IsFine (options o words)
fine_options o [] = fine_asked o.awaited o
fine_options o (word ∷ later) = fine_next (with_word o word) later (λ read. fine_options read later)

fine_alone : (c : Command) (words : List (List ℕ)) → HasSmallMoment c → IsFine (alone c words)
fine_alone c [] h = h
fine_alone c (word ∷ later) h = tt

fine_one_more : (r : Result Command UsageFault) (words : List (List ℕ)) → IsFine r → IsFine (one_more r words)
fine_one_more r [] h = tt
fine_one_more r (word ∷ []) h = h
fine_one_more r (word ∷ other ∷ later) h = tt

fine_seeded : (r : Result ℕ UsageFault) → IsFine (elim r [ Ok seed ↦ Ok (Selfrun seed) | Err fault ↦ Err fault ])
fine_seeded (Ok seed) = tt
fine_seeded (Err fault) = tt

fine_behind : (name : CommandName) (words : List (List ℕ)) → IsFine (behind_name name words)
fine_behind CommandName.Symmetry words = fine_options no_options words
fine_behind CommandName.Primitive words = fine_alone Primitive words tt
fine_behind CommandName.Dataset words = fine_alone Dataset words tt
fine_behind CommandName.Orbits words = fine_alone Orbits words tt
fine_behind CommandName.Hall words = fine_one_more (Ok Hall) words tt
fine_behind CommandName.Identify words = fine_one_more (Ok Identify) words tt
fine_behind CommandName.Standard words = fine_one_more (Ok Standard) words tt
fine_behind CommandName.Compare words = fine_one_more (Ok Compare) words tt
fine_behind CommandName.Moments words = fine_alone Moments words tt
fine_behind CommandName.Fill words = fine_filled words
fine_behind CommandName.Selfrun words = fine_one_more (seeded (first_word words)) words (fine_seeded (count_of (first_word words)))

fine_command : (words : List (List ℕ)) → IsFine (command words)
fine_command [] = tt
fine_command (name ∷ later) = by (command_name name)
  where
    by : (named : Option CommandName) → IsFine (elim named [ Some n ↦ behind_name n later | None ↦ Err UnknownCommand ])
    by (Some n) = fine_behind n later
    by None = tt

fine_ok : (r : Result Command UsageFault) → IsFine r → IfOk r HasSmallMoment
fine_ok (Ok c) h = h
fine_ok (Err fault) h = tt

pub small_moment : (words : List (List ℕ)) → IfOk (command words) HasSmallMoment
small_moment words = fine_ok (command words) (fine_command words)
