-- Reading options word by word.
use Rattle.std.proofs.Common.{◌≡◌, sym, ℕ, ◌+◌, List, ◌∷◌, drop, slice_get, Some, ap}
use Rattle.std.specs.declared.result.Result.{Result}
use Rattle.std.specs.declared.result.Result.TheVariants.{Ok, Err}
use Rattle.lists.proofs.Walks.{drop_at}
use Rattle.command_words.specs.declared.options.Options.{Options}
use Rattle.command_words.specs.declared.command.Command.{Command}
use Rattle.command_words.specs.declared.command.UsageFault.{UsageFault}
use Rattle.command_words.specs.Commands.{with_word, options}

-- what the options ask for once a word is read, or its fault
abbrev pub after_word : List (List ℕ) → Result Options UsageFault → Result Command UsageFault
after_word later (Ok read) = options read later
after_word later (Err fault) = Err fault

pub step : (o read : Options) (word : List ℕ) (later : List (List ℕ)) → with_word o word ≡ Ok read → options o (word ∷ later) ≡ options read later
step o read word later e = ap (after_word later) e

stop : (o : Options) (word : List ℕ) (later : List (List ℕ)) (fault : UsageFault) → with_word o word ≡ Err fault → options o (word ∷ later) ≡ Err fault
stop o word later fault e = ap (after_word later) e

-- a word that is read leaves the words behind it
pub options_go : (o read : Options) (words : List (List ℕ)) (i : ℕ) (word : List ℕ) → slice_get words i ≡ Some word → with_word o word ≡ Ok read → options read (drop (i + 1) words) ≡ options o (drop i words)
options_go o read words i word here e = sym (rw (drop_at words i word here) (step o read word (drop (i + 1) words) e))

-- the first fault is the fault of all
pub options_stop : (o : Options) (words : List (List ℕ)) (i : ℕ) (word : List ℕ) (fault : UsageFault) → slice_get words i ≡ Some word → with_word o word ≡ Err fault → options o (drop i words) ≡ Err fault
options_stop o words i word fault here e = rw (drop_at words i word here) (stop o word (drop (i + 1) words) fault e)
