use Rattle.std.proofs.Common.{◌+◌, ◌*◌, sym, subst}
use Rattle.ring.specs.Size.{AtMost}
use Rattle.matrix3.specs.Matrices.{EachCoordinate}
use Rattle.matrix3.proofs.FitsBySize.{image_fits, image_size}
use Rattle.group_match.proofs.column.image_column.Goals as goal

pub apply-requires-clause-fits : goal.apply-requires-clause-fits
apply-requires-clause-fits c = image_fits c.args.c.now c.args.last.now c.requires.c c.requires.last tt

pub apply-requires-2-clause-fits : goal.apply-requires-2-clause-fits
apply-requires-2-clause-fits c =
    let m = 2700000000 * 2 + 2700000000 * 2 + 2700000000 * 2 in
    image_fits c.args.p.now c.apply.result c.requires.p (subst (EachCoordinate (AtMost m)) (sym c.apply.ensures.value) (image_size c.args.c.now c.args.last.now c.requires.c c.requires.last)) tt
