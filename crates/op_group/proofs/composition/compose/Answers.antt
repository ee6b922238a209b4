use Rattle.std.proofs.Common.{◌∙◌}
use Rattle.crystal_spec.specs.Crystals.{position_after}
use Rattle.positions.specs.Positions.{triple_of, modulo}
use Rattle.positions.proofs.Residues.{is_modulo}
use Rattle.op_group.proofs.composition.compose.Goals as goal

pub returns : goal.returns
returns c =
    let next = c.args.next.now in
    let shift = triple_of c.args.first.now.shift in
    record {
      matrix = c.times.ensures.value;
      translation = is_modulo c.args.n (position_after next.w (triple_of next.shift) shift) _ c.requires.at_least
          (c.carried.ensures ∙ (λ i. modulo (c.new.ensures.modulus i) (position_after (c.new.ensures.matrix i) (triple_of next.shift) shift)));
      sign = c.sign_of_both.ensures;
    }
