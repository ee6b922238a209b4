-- The fault of a word that is to be a number.
use Rattle.std.proofs.Common.{◌≡◌, ℕ, List, refl, ap, Option, Some, None}
use Rattle.plain_text.specs.declared.fault.NumberFault.{NumberFault}
use Rattle.plain_text.specs.NumberWords.{number_fault}
use Rattle.cell_text.specs.declared.version.Version.{Version}
use Rattle.cell_text.specs.Lines.{number_form, rule_of_any, word_fault}

-- a word breaks no rule where it is a number
pub word_passes : (version : Version) (w : List ℕ) → number_fault (number_form version) w ≡ None → word_fault version w ≡ None
unfolding word_fault
word_passes version w e = ap rule_of_any e

-- and the other way round
pub number_passes : (version : Version) (w : List ℕ) → word_fault version w ≡ None → number_fault (number_form version) w ≡ None
unfolding word_fault
number_passes version w e = by (number_fault (number_form version) w) e
  where
    by : (f : Option NumberFault) → rule_of_any f ≡ None → f ≡ None
    by None e = refl
    by (Some f) e = absurd cc
