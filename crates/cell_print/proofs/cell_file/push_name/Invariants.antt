use Rattle.std.proofs.Common.{◌≡◌, ◌++◌, take}
use Rattle.cell_print.proofs.cell_file.push_name.Given as goal

-- the bytes so far
abbrev pub invariant-loop-i : goal.invariant-loop-i
invariant-loop-i l = l.out ≡ l.initial.out ++ take l.i l.name
