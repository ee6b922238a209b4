use Rattle.std.proofs.Common.{refl, ◌∙◌}
use Rattle.crystal_spec.specs.Matrices.{difference, image}
use Rattle.positions.specs.Positions.{triple_of, modulo, origin}
use Rattle.op_group.specs.Views.{operation_of}
use Rattle.op_group.proofs.Composing.{inverse_onto}
use Rattle.op_group.proofs.composition.inverse.Goals as goal

pub returns : goal.returns
returns c =
    inverse_onto c.args.n (operation_of c.args.op.now) _ c.requires.at_least c.inverse_unit-w.ensures
    (c.translation_onto.ensures ∙ (λ i. modulo (c.new.ensures.modulus i) (difference origin (image (c.new.ensures.matrix i) (triple_of c.args.op.now.shift))))) refl
