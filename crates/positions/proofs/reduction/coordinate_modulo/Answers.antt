use Rattle.std.proofs.Common.{◌^◌, ◌∙◌, sym, ap, subst, to_z-of_z}
use Rattle.std.specs.Prelude.{ℤ}
use Rattle.ring.specs.Size.{AtMost}
use Rattle.ring.proofs.Sizes.{fits}
use Rattle.numbers.specs.Residue.{residue}
use Rattle.numbers.proofs.ResidueRing.{residue-euclid}
use Rattle.positions.proofs.reduction.coordinate_modulo.Goals as goal

pub returns : goal.returns
returns c =
    let size = subst (λ (z : ℤ). AtMost (10 ^ 36) z) (sym c.get.ensures.value) c.get.ensures.size in
    c.get-2.ensures.value ∙ c.new.ensures.value ∙ ap (residue c.args.n) (to_z-of_z (fits size tt) ∙ c.get.ensures.value) ∙ residue-euclid c.args.n c.args.z c.requires.at_least
