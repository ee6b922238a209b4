-- One operation after the other, modulo whole translations, with translation parts in units of 1/12.
--   both s t      both time signs
--   reduced v     each coordinate modulo 12
--   then a b      the operation that does a and after it b
-- By op_group's `IsComposed`, `then a b` is the one operation that does a and after it b (`proofs/Compositions.antt`).
use Rattle.numbers.specs.Residue.{residue}
use Rattle.matrix3.specs.Matrices.{vector_map}
use Rattle.crystal_spec.specs.declared.Sign.{Sign}
use Rattle.crystal_spec.specs.declared.Sign.TheVariants.{Same, Reversed}
use Rattle.crystal_spec.specs.Matrices.{Triple, product}
use Rattle.crystal_spec.specs.Crystals.{position_after}
use Rattle.crystal_spec.specs.Operations.{Operation}

-- both signs
abbrev pub both : Sign → Sign → Sign
both Same t = t
both Reversed Same = Reversed
both Reversed Reversed = Same

-- each coordinate modulo 12
abbrev pub reduced : Triple → Triple
reduced v = vector_map (residue 12) v

-- First (W, w, s) and after it (V, v, t) is (V W, V w + v modulo 12, t s).
unfoldable pub then : Operation → Operation → Operation
then a b = record {
  matrix = product b.matrix a.matrix;
  translation = reduced (position_after b.matrix b.translation a.translation);
  sign = both b.sign a.sign;
}
