use Rattle.std.proofs.Common.{◌≡◌, ◌<◌, take}
use Rattle.hall_symbol.specs.Translations.{letters_translation}
use Rattle.hall_symbol.proofs.translation.letters_translation.Given as goal

abbrev pub invariant-loop-b : goal.invariant-loop-b
invariant-loop-b l = record {
  value : l.sum ≡ letters_translation (take l.b-index l.letters);
  x : l.sum.x < 12;
  y : l.sum.y < 12;
  z : l.sum.z < 12;
}
