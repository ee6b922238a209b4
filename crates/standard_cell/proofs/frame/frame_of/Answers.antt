use Rattle.std.proofs.Common.{◌≡◌, ℕ, ◌≤◌, ℤ, pos, ◌≤ℤ◌, ◌<ℤ◌, arith}
use Rattle.std.proofs.lemmas.Int.{ints}
use Rattle.matrix3.proofs.FitsBySize.{adjugate_fits}
use Rattle.standard_cell.proofs.frame.frame_of.Goals as goal

pub adjugate-requires-clause-fits : goal.adjugate-requires-clause-fits
adjugate-requires-clause-fits c = adjugate_fits c.args.turn.now c.requires.turn tt

low : (n : ℕ) (d : ℤ) → pos n ≡ d → pos 1 ≤ℤ d → 1 ≤ n
low n d e h = omega (arith, ints)

high : (n : ℕ) (d : ℤ) → pos n ≡ d → d ≤ℤ pos 1728 → n ≤ 1728
high n d e h = omega (arith, ints)

one : (d : ℤ) → pos 0 <ℤ d → pos 1 ≤ℤ d
one d h = omega (arith, ints)

pub returns-clause-frame : goal.returns-clause-frame
returns-clause-frame c = record {
  turn = c.requires.turn;
  back = c.adjugate.ensures.value;
  index = c.index_of.ensures;
  index_at_least = low _ _ c.index_of.ensures c.requires.at_least;
  index_at_most = high _ _ c.index_of.ensures c.requires.at_most;
  n_at_least = c.requires.n_at_least;
  n_at_most = c.requires.n_at_most;
  shift = c.requires.shift;
  parts_at_least = one _ c.requires.positive;
  parts_at_most = c.requires.parts;
}
