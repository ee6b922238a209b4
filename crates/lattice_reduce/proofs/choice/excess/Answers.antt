use Rattle.std.proofs.Common.{◌^◌}
use Rattle.ring.proofs.Sizes.{at_most_add, weaken}
use Rattle.lattice_reduce.proofs.Dividing.{at_most_twice}
use Rattle.lattice_reduce.proofs.choice.excess.Goals as goal

pub add-requires-3 : goal.add-requires-3
add-requires-3 c =
    let g = c.requires in
    rw (c.add-2.ensures, c.add.ensures, c.twice.ensures, c.twice-2.ensures)
    (weaken (10 ^ 36) (at_most_add (at_most_add (at_most_add g.a11 g.a22) (at_most_twice g.a23)) (at_most_twice g.a13)) tt)

pub add-requires-4 : goal.add-requires-4
add-requires-4 c =
    let g = c.requires in
    rw (c.add-3.ensures, c.add-2.ensures, c.add.ensures, c.twice.ensures, c.twice-2.ensures, c.twice-3.ensures)
    (weaken (10 ^ 36) (at_most_add (at_most_add (at_most_add (at_most_add g.a11 g.a22) (at_most_twice g.a23)) (at_most_twice g.a13)) (at_most_twice g.a12)) tt)
