use Rattle.std.proofs.Common.{◌^◌, sym, subst, lit≤}
use Rattle.matrix3.specs.Bounds.{EntriesAtMost}
use Rattle.matrix3.proofs.FitsBySize.{matrix_multiple_size, entries_grown}
use Rattle.crystal_compare.proofs.matrices.multiple.Goals as goal

pub multiple-requires : goal.multiple-requires
multiple-requires c = record { fits = entries_grown (lit≤ tt) (matrix_multiple_size c.requires.factor c.requires.entries) }

-- 10^16 times 10^18
pub returns-clause-size : goal.returns-clause-size
returns-clause-size c = subst (EntriesAtMost (10 ^ 34)) (sym c.multiple.ensures) (entries_grown (lit≤ tt) (matrix_multiple_size c.requires.factor c.requires.entries))
