use Rattle.std.proofs.Common.{sym}
use Rattle.crystal.proofs.Covering.{next_listed, all_listed}
use Rattle.crystal.proofs.place_index.PlaceIndex.new.Goals as goal

pub loop-atom-init : goal.loop-atom-init
loop-atom-init c a m = absurd m

pub loop-atom-preserved : goal.loop-atom-preserved
loop-atom-preserved c =
    next_listed c.args.atoms.now c.loop-atom.atom-index c.atom-item.result c.loop-atom.places.keys c.add_place.new.places.keys c.loop-atom-test.true (sym c.atom-item.is)
    c.in_ok-add_place.ensures.three c.in_ok-add_place.ensures.listed c.in_ok-add_place.ensures.kept c.loop-atom.invariant

pub returns : goal.returns
returns c = all_listed c.args.atoms.now c.loop-atom.atom-index c.loop-atom.places.keys c.loop-atom-test.false c.loop-atom.invariant
