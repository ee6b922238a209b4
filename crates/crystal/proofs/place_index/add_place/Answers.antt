use Rattle.std.proofs.Common.{subst, sym}
use Rattle.lists.specs.Increasing.{IsMember}
use Rattle.crystal.proofs.Covering.{inserted_member, inserted_stays}
use Rattle.crystal.proofs.place_index.add_place.Goals as goal

pub returns-in-Ok-clause-listed : goal.returns-in-Ok-clause-listed
returns-in-Ok-clause-listed c = subst (IsMember c.args.place) (sym c.in-Ok.ensures.keys) (inserted_member c.args.place c.args.places.now.keys)

pub returns-in-Ok-clause-kept : goal.returns-in-Ok-clause-kept
returns-in-Ok-clause-kept c p m = subst (IsMember p) (sym c.in-Ok.ensures.keys) (inserted_stays c.args.place p c.args.places.now.keys m)
