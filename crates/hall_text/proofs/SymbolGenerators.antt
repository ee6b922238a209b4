-- The operations of a symbol are within one cell, have entries -1, 0 and 1, and are undone by products.
use Rattle.hall_symbol.specs.Symbols.{HallSymbol, generators}
use Rattle.hall_symbol.proofs.RotationMatrices.{generator_within, generator_rotational}
use Rattle.hall_text.specs.Splits.{AreRotations}
use Rattle.hall_text.proofs.Inverses.{has_inverses}

pub generators_are : (s : HallSymbol) → AreRotations (generators s)
generators_are s = record {
  within = generator_within s;
  small = record { each = λ g m. (generator_rotational s g m).small };
  inverses = has_inverses (generators s) (record { within = generator_within s; each = λ g m. (generator_rotational s g m).power });
}
