-- The order of the options does not matter: where each has its value, two of them may be exchanged, behind whatever options
-- and before whatever words.
use Rattle.std.proofs.Common.{◌≡◌, refl, sym, ◌∙◌, ℕ, Bool, true, false, List, [], ◌∷◌, ◌++◌, Option, Some, None, ap}
use Rattle.std.specs.Prelude.{codes, if◌then◌else◌}
use Rattle.std.specs.declared.result.Result.{Result}
use Rattle.std.specs.declared.result.Result.TheVariants.{Ok, Err}
use Rattle.command_words.specs.declared.options.Awaited.TheVariants.{AnyOption, ValueOfSkip, ValueOfTake}
use Rattle.command_words.specs.declared.options.Options.{Options}
use Rattle.command_words.specs.declared.command.UsageFault.{UsageFault}
use Rattle.command_words.specs.declared.command.UsageFault.TheVariants.{BadValue}
use Rattle.command_words.specs.Commands.{count_of, options}
use Rattle.plain_text.specs.Digits.{is_count, value_of_digits}
use Rattle.command_words.specs.OptionOrder.{Choice, no_time_reversal, skip_count, take_count, words_of, words, HasCount, ComeInAnyOrder}
use Rattle.command_words.proofs.OptionLemmas.{step, after_word}

-- the options that were read, where the next word is an option
abbrev read_so_far : Bool → Option ℕ → Option ℕ → Options
read_so_far t s k = record { time = t; skip = s; take = k; awaited = AnyOption }

abbrev no_time : List ℕ
no_time = codes "--no-time-reversal"

abbrev skip : List ℕ
skip = codes "--skip"

abbrev take : List ℕ
take = codes "--take"

-- the value of a count
counted : (w : List ℕ) → is_count w ≡ true → count_of w ≡ Ok (value_of_digits w)
counted w e = ap (λ (b : Bool). if b then Ok (value_of_digits w) else Err BadValue) e

abbrev skip_with : Bool → Option ℕ → Result ℕ UsageFault → Result Options UsageFault
skip_with t k r = elim r [ Ok count ↦ Ok (read_so_far t (Some count) k) | Err fault ↦ Err fault ]

abbrev take_with : Bool → Option ℕ → Result ℕ UsageFault → Result Options UsageFault
take_with t s r = elim r [ Ok count ↦ Ok (read_so_far t s (Some count)) | Err fault ↦ Err fault ]

-- `--skip` and its value
skip_read : (t : Bool) (k : Option ℕ) (w : List ℕ) (later : List (List ℕ)) → is_count w ≡ true → options (read_so_far t None k) (skip ∷ w ∷ later) ≡ options (read_so_far t (Some (value_of_digits w)) k) later
skip_read t k w later e = step (record { time = t; skip = None; take = k; awaited = ValueOfSkip }) (read_so_far t (Some (value_of_digits w)) k) w later (ap (skip_with t k) (counted w e))

-- `--take` and its value
take_read : (t : Bool) (s : Option ℕ) (w : List ℕ) (later : List (List ℕ)) → is_count w ≡ true → options (read_so_far t s None) (take ∷ w ∷ later) ≡ options (read_so_far t s (Some (value_of_digits w))) later
take_read t s w later e = step (record { time = t; skip = s; take = None; awaited = ValueOfTake }) (read_so_far t s (Some (value_of_digits w))) w later (ap (take_with t s) (counted w e))

time_and_skip : (t : Bool) (s k : Option ℕ) (w : List ℕ) (later : List (List ℕ)) → is_count w ≡ true → options (read_so_far t s k) (no_time ∷ skip ∷ w ∷ later) ≡ options (read_so_far t s k) (skip ∷ w ∷ no_time ∷ later)
time_and_skip true None k w later e = skip_read false k w later e ∙ sym (skip_read true k w (no_time ∷ later) e)
time_and_skip false None k w later e = sym (skip_read false k w (no_time ∷ later) e)
time_and_skip true (Some s) k w later e = refl
time_and_skip false (Some s) k w later e = refl

time_and_take : (t : Bool) (s k : Option ℕ) (w : List ℕ) (later : List (List ℕ)) → is_count w ≡ true → options (read_so_far t s k) (no_time ∷ take ∷ w ∷ later) ≡ options (read_so_far t s k) (take ∷ w ∷ no_time ∷ later)
time_and_take true s None w later e = take_read false s w later e ∙ sym (take_read true s w (no_time ∷ later) e)
time_and_take false s None w later e = sym (take_read false s w (no_time ∷ later) e)
time_and_take true s (Some k) w later e = refl
time_and_take false s (Some k) w later e = refl

skip_and_take : (t : Bool) (s k : Option ℕ) (v w : List ℕ) (later : List (List ℕ)) → is_count v ≡ true → is_count w ≡ true → options (read_so_far t s k) (skip ∷ v ∷ take ∷ w ∷ later) ≡ options (read_so_far t s k) (take ∷ w ∷ skip ∷ v ∷ later)
skip_and_take t None None v w later e f =
    skip_read t None v (take ∷ w ∷ later) e ∙ take_read t (Some (value_of_digits v)) w later f
    ∙ sym (take_read t None w (skip ∷ v ∷ later) f ∙ skip_read t (Some (value_of_digits w)) v later e)
skip_and_take t None (Some k) v w later e f = skip_read t (Some k) v (take ∷ w ∷ later) e
skip_and_take t (Some s) None v w later e f = sym (take_read t (Some s) w (skip ∷ v ∷ later) f)
skip_and_take t (Some s) (Some k) v w later e f = refl

-- the second `--skip` is one too many, whichever it is
skip_twice : (t : Bool) (s k : Option ℕ) (v w : List ℕ) (later : List (List ℕ)) → is_count v ≡ true → is_count w ≡ true → options (read_so_far t s k) (skip ∷ v ∷ skip ∷ w ∷ later) ≡ options (read_so_far t s k) (skip ∷ w ∷ skip ∷ v ∷ later)
skip_twice t None k v w later e f = skip_read t k v (skip ∷ w ∷ later) e ∙ sym (skip_read t k w (skip ∷ v ∷ later) f)
skip_twice t (Some s) k v w later e f = refl

-- and so is the second `--take`
take_twice : (t : Bool) (s k : Option ℕ) (v w : List ℕ) (later : List (List ℕ)) → is_count v ≡ true → is_count w ≡ true → options (read_so_far t s k) (take ∷ v ∷ take ∷ w ∷ later) ≡ options (read_so_far t s k) (take ∷ w ∷ take ∷ v ∷ later)
take_twice t s None v w later e f = take_read t s v (take ∷ w ∷ later) e ∙ sym (take_read t s w (take ∷ v ∷ later) f)
take_twice t s (Some k) v w later e f = refl

-- two neighbours
exchanged : (a b : Choice) (t : Bool) (s k : Option ℕ) (later : List (List ℕ)) → HasCount a → HasCount b → options (read_so_far t s k) (words_of a ++ words_of b ++ later) ≡ options (read_so_far t s k) (words_of b ++ words_of a ++ later)
exchanged no_time_reversal no_time_reversal t s k later e f = refl
exchanged no_time_reversal (skip_count w) t s k later e f = time_and_skip t s k w later f
exchanged no_time_reversal (take_count w) t s k later e f = time_and_take t s k w later f
exchanged (skip_count v) no_time_reversal t s k later e f = sym (time_and_skip t s k v later e)
exchanged (skip_count v) (skip_count w) t s k later e f = skip_twice t s k v w later e f
exchanged (skip_count v) (take_count w) t s k later e f = skip_and_take t s k v w later e f
exchanged (take_count v) no_time_reversal t s k later e f = sym (time_and_take t s k v later e)
exchanged (take_count v) (skip_count w) t s k later e f = sym (skip_and_take t s k w v later f e)
exchanged (take_count v) (take_count w) t s k later e f = take_twice t s k v w later e f

-- the two lists of words ask for the same, whatever options were read
abbrev AskTheSame : List (List ℕ) → List (List ℕ) → Type 0
AskTheSame xs ys = (t : Bool) (s k : Option ℕ) → options (read_so_far t s k) xs ≡ options (read_so_far t s k) ys

-- and so behind the value of a `--skip`
behind_skip : (t : Bool) (k : Option ℕ) (r : Result ℕ UsageFault) (xs ys : List (List ℕ)) → AskTheSame xs ys → after_word xs (skip_with t k r) ≡ after_word ys (skip_with t k r)
behind_skip t k (Ok count) xs ys h = h t (Some count) k
behind_skip t k (Err fault) xs ys h = refl

-- and that of a `--take`
behind_take : (t : Bool) (s : Option ℕ) (r : Result ℕ UsageFault) (xs ys : List (List ℕ)) → AskTheSame xs ys → after_word xs (take_with t s r) ≡ after_word ys (take_with t s r)
behind_take t s (Ok count) xs ys h = h t s (Some count)
behind_take t s (Err fault) xs ys h = refl

-- and behind options
behind : (front : List Choice) (xs ys : List (List ℕ)) → AskTheSame xs ys → AskTheSame (words front ++ xs) (words front ++ ys)
behind [] xs ys h t s k = h t s k
behind (no_time_reversal ∷ front) xs ys h true s k = behind front xs ys h false s k
behind (no_time_reversal ∷ front) xs ys h false s k = refl
behind (skip_count v ∷ front) xs ys h t None k = behind_skip t k (count_of v) (words front ++ xs) (words front ++ ys) (behind front xs ys h)
behind (skip_count v ∷ front) xs ys h t (Some s) k = refl
behind (take_count v ∷ front) xs ys h t s None = behind_take t s (count_of v) (words front ++ xs) (words front ++ ys) (behind front xs ys h)
behind (take_count v ∷ front) xs ys h t s (Some k) = refl

pub come_in_any_order : ComeInAnyOrder
come_in_any_order front a b later e f = behind front (words_of a ++ words_of b ++ later) (words_of b ++ words_of a ++ later) (λ t s k. exchanged a b t s k later e f) true None None
