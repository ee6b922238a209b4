-- Names are short.
use Rattle.std.proofs.Common.{◌≡◌, ◌≤◌, List, [], ◌∷◌, ℕ, true, length, arith}
use Rattle.std.proofs.lemmas.Grind.{common_steps}
use Rattle.crystal.specs.Names.{is_name}

-- a name has at most 8 bytes
pub is_name_short : (bytes : List ℕ) → is_name bytes ≡ true → length bytes ≤ 8
is_name_short [] h = absurd (cc h)
is_name_short (b ∷ rest) h = grind (arith, common_steps)
