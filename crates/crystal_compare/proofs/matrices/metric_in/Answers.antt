use Rattle.std.proofs.Common.{subst, sym, lit≤, ◌*◌, ◌+◌, ◌^◌}
use Rattle.matrix3.specs.Bounds.{EntriesAtMost}
use Rattle.matrix3.proofs.FitsBySize.{product_fits, product_size, transposed_size}
use Rattle.matrix3.proofs.FitsBySize.{entries_grown}
use Rattle.crystal_compare.proofs.matrices.metric_in.Goals as goal

pub times-requires-clause-fits : goal.times-requires-clause-fits
times-requires-clause-fits c = product_fits _ _ c.requires.metric c.requires.map tt

pub times-requires-2-clause-fits : goal.times-requires-2-clause-fits
times-requires-2-clause-fits c =
    let n = 10 ^ 16 * 1 + 10 ^ 16 * 1 + 10 ^ 16 * 1 in
    product_fits _ _ (subst (EntriesAtMost 1) (sym c.transpose.ensures) (transposed_size _ c.requires.map)) (subst (EntriesAtMost n) (sym c.times.ensures.value) (product_size _ _ c.requires.metric c.requires.map)) tt

pub returns-clause-size : goal.returns-clause-size
returns-clause-size c =
    let n = 10 ^ 16 * 1 + 10 ^ 16 * 1 + 10 ^ 16 * 1 in
    entries_grown (lit≤ tt) (subst (EntriesAtMost (1 * n + 1 * n + 1 * n)) (sym c.times-2.ensures.value)
    (product_size _ _ (subst (EntriesAtMost 1) (sym c.transpose.ensures) (transposed_size _ c.requires.map)) (subst (EntriesAtMost n) (sym c.times.ensures.value) (product_size _ _ c.requires.metric c.requires.map))))
