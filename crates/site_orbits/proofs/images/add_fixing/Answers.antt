use Rattle.std.proofs.Common.{◌≡◌, sym, ◌∙◌}
use Rattle.crystal_spec.specs.Operations.{Operation}
use Rattle.positions.specs.Positions.{triple_of}
use Rattle.site_orbits.specs.Images.{image_within}
use Rattle.site_orbits.proofs.Fixing.{kept_pushed}
use Rattle.site_orbits.proofs.images.add_fixing.Goals as goal

pub returns-in_ok-push : goal.returns-in_ok-push
returns-in_ok-push c o =
    let p = triple_of c.args.place in
    kept_pushed c.args.found.now.items c.push.new.self.items c.args.op.now o (λ (u : Operation). image_within c.args.n p u ≡ p) c.in_ok-push.ensures.items (sym c.carried.ensures ∙ c.is_same.ensures.0 c.if-is_same.true)
