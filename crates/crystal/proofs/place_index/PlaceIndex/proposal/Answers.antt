use Rattle.crystal.proofs.Covering.{lacks_none}
use Rattle.crystal.proofs.place_index.PlaceIndex.proposal.Goals as goal

pub returns : goal.returns
returns c = lacks_none c.get_index_of.result c.args.place c.args.self.now.places.keys c.get_index_of.ensures.found
