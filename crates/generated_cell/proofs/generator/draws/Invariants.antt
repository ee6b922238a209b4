use Rattle.std.proofs.Common.{◌≡◌, ◌-◌, ◌++◌, length, take}
use Rattle.generated_cell.specs.Generator.{draws}
use Rattle.generated_cell.proofs.generator.draws.Given as goal

-- the numbers so far, and those that are left
abbrev pub invariant-loop-c : goal.invariant-loop-c
invariant-loop-c l = record { count : length l.draws ≡ 8; drawn : take l.c l.draws ++ draws (8 - l.c) l.generator ≡ draws 8 l.seed }
