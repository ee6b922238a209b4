-- The definitions at a few values.
use Rattle.std.proofs.Common.{◌≡◌, ◌-◌, ◌^◌, ℕ, true, false, [], refl, lit≤, arith}
use Rattle.std.specs.Prelude.{Ok, Some, None}
use Rattle.io_edge.specs.Causes.{Rose, is_end}
use Rattle.io_edge.specs.InMemory.{new_plan, after_call, room_left}

-- a count of 0 rose to 1
pub first_fault_rose : Rose None 0 1
first_fault_rose = lit≤ tt

-- a count that stands at its highest number counts as one that rose
pub highest_count_rose : Rose (Some (2 ^ 64 - 1)) (2 ^ 64 - 1) (2 ^ 64 - 1)
highest_count_rose = lit≤ tt

-- one that has no highest number never does
pub none_stays : (n : ℕ) → Rose None n n → ⊥
none_stays n h = absurd (omega (arith, h))

-- the number of calls stays at the last number of 64 bits
pub last_call_stays : (after_call (record { fails = []; made = 2 ^ 64 - 1 })).made ≡ 2 ^ 64 - 1
last_call_stays = refl

-- no bytes are the end of input, one byte is not
pub no_bytes_are_the_end : is_end {E = ℕ} (Ok 0) ≡ true
no_bytes_are_the_end = refl

pub a_byte_is_no_end : is_end {E = ℕ} (Ok 1) ≡ false
a_byte_is_no_end = refl

-- a new sink over memory has room for 4 MiB
pub room_when_made : room_left (record { held = []; most = 1; calls = new_plan []; faults = 0; last_failed = false }) ≡ 4194304
room_when_made = refl
