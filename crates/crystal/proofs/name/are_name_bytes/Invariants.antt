use Rattle.std.proofs.Common.{◌≡◌, drop}
use Rattle.crystal.specs.Names.{are_name_bytes}
use Rattle.crystal.proofs.name.are_name_bytes.Given as goal

-- what is left decides
abbrev pub invariant-loop-byte : goal.invariant-loop-byte
invariant-loop-byte l = are_name_bytes l.bytes ≡ are_name_bytes (drop l.byte-index l.bytes)
