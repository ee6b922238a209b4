use Rattle.standard_cell.proofs.FirstMaps.{can_take}
use Rattle.standard_cell.proofs.laws.first_maps_can_be_taken.Goals as goal

pub returns : goal.returns
returns c = can_take
