use Rattle.std.proofs.Common.{◌≡◌, drop}
use Rattle.command_words.specs.Commands.{no_options, options}
use Rattle.command_words.proofs.command.read_options.Given as goal

-- what the options so far ask for with the words that are left is what all of them ask for
abbrev pub invariant-loop-i : goal.invariant-loop-i
invariant-loop-i l = options l.read (drop l.i l.words) ≡ options no_options (drop 1 l.words)
