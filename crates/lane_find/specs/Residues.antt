-- Lists of residues modulo n. Our own.
--   shifted vs t n   the list of (v + t) mod n, one for each v of vs, in order
use Rattle.std.specs.Prelude.{ℕ, ◌+◌, ◌%◌, List, map}

abbrev pub shifted : List ℕ → ℕ → ℕ → List ℕ
shifted vs t n = map (λ v. (v + t) % n) vs
