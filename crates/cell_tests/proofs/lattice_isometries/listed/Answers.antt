use Rattle.std.proofs.Common.{◌≡◌, rules}
use Rattle.cell_tests.proofs.TestedMetrics.{tested, entries_small}
use Rattle.cell_tests.proofs.lattice_isometries.listed.Goals as goal

pub isometries-requires-clause-niggli : goal.isometries-requires-clause-niggli
isometries-requires-clause-niggli c =
    let aa : c.whole.result ≡ c.args.aa = search rules in
    let bb : c.whole-2.result ≡ c.args.bb = search rules in
    let cc : c.whole-3.result ≡ c.args.cc = search rules in
    let bc : c.whole-4.result ≡ c.args.bc = search rules in
    let ac : c.whole-5.result ≡ c.args.ac = search rules in
    let ab : c.whole-6.result ≡ c.args.ab = search rules in
    rw (aa, bb, cc, bc, ac, ab) (tested c.args.aa c.args.bb c.args.cc c.args.bc c.args.ac c.args.ab c.requires.niggli)

pub isometries-requires-clause-small : goal.isometries-requires-clause-small
isometries-requires-clause-small c =
    let aa : c.whole.result ≡ c.args.aa = search rules in
    let bb : c.whole-2.result ≡ c.args.bb = search rules in
    let cc : c.whole-3.result ≡ c.args.cc = search rules in
    let bc : c.whole-4.result ≡ c.args.bc = search rules in
    let ac : c.whole-5.result ≡ c.args.ac = search rules in
    let ab : c.whole-6.result ≡ c.args.ab = search rules in
    rw (aa, bb, cc, bc, ac, ab) (entries_small c.args.aa c.args.bb c.args.cc c.args.bc c.args.ac c.args.ab (tested c.args.aa c.args.bb c.args.cc c.args.bc c.args.ac c.args.ab c.requires.niggli) c.requires.small)
