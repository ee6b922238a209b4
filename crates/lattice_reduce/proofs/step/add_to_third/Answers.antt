use Rattle.std.proofs.Common.{◌^◌}
use Rattle.ring.proofs.Sizes.{at_most_add, weaken}
use Rattle.lattice_reduce.proofs.step.add_to_third.Goals as goal

pub add-requires-4 : goal.add-requires-4
add-requires-4 c =
    let g = c.requires.before in
    rw (c.add-3.ensures, c.add-bc.ensures, c.add.ensures)
    (weaken (10 ^ 36) (at_most_add g.a33 (at_most_add g.a23 (at_most_add (at_most_add g.a22 g.a23) g.a12))) tt)

pub add-requires-5 : goal.add-requires-5
add-requires-5 c =
    let g = c.requires.before in
    rw (c.add-ac.ensures, c.add-2.ensures) (weaken (10 ^ 36) (at_most_add g.a13 (at_most_add (at_most_add g.a11 g.a13) g.a12)) tt)

pub add-cc-requires : goal.add-cc-requires
add-cc-requires c =
    let g = c.requires.before in
    rw (c.add-4.ensures, c.add-5.ensures, c.add-3.ensures, c.add-bc.ensures, c.add.ensures, c.add-ac.ensures, c.add-2.ensures)
    (weaken (10 ^ 36) (at_most_add (at_most_add g.a33 (at_most_add g.a23 (at_most_add (at_most_add g.a22 g.a23) g.a12))) (at_most_add g.a13 (at_most_add (at_most_add g.a11 g.a13) g.a12))) tt)
