use Rattle.answers.proofs.FoundLemmas.{reduced_primitive}
use Rattle.answers.proofs.found.made_of.Goals as goal

pub returns : goal.returns
returns c =
    let made = c.primitive.ensures in
    reduced_primitive c.args.cell.now c.primitive.result c.invariant.ensures.cell made.shifts made.cell made.primitive made.index made.count made.niggli
