use Rattle.std.proofs.Common.{◌<◌}
use Rattle.std.specs.List.{All}
use Rattle.lane_find.proofs.tests.a_shift_by_the_greatest_residue_goes_one_back.Given as goal

abbrev pub invariant-loop-v : goal.invariant-loop-v
invariant-loop-v g l = All (λ v. v < l.n) l.list.items
