use Rattle.std.proofs.Common.{◌^◌, ℤ, subst, sym, ◌∙◌, to_z-of_z}
use Rattle.ring.specs.Size.{AtMost}
use Rattle.ring.proofs.Sizes.{fits}
use Rattle.crystal_compare.proofs.Listing.{fraction_small}
use Rattle.crystal_compare.proofs.list.fraction.Goals as goal

pub unwrap-requires : goal.unwrap-requires
unwrap-requires c =
    let t_size = subst (λ (z : ℤ). AtMost (10 ^ 36) z) (sym c.get.ensures.value) c.get.ensures.size in
    let n_size = subst (λ (z : ℤ). AtMost (10 ^ 36) z) (sym c.get-2.ensures.value) c.get-2.ensures.size in
    c.new.ensures.exact.1 (fraction_small c.args.t c.args.n _ _ (to_z-of_z (fits t_size tt) ∙ c.get.ensures.value) (to_z-of_z (fits n_size tt) ∙ c.get-2.ensures.value) c.requires.at_least c.requires.below c.requires.small)
