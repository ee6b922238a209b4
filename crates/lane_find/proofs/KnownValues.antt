-- First indices and shifted residues at a few values.
use Rattle.std.proofs.Common.{◌≡◌, ◌<◌, ℕ, zero, suc, List, [], ◌∷◌, refl, arith, lit<}
use Rattle.lane_find.specs.Agreement.{AgreesAt, IsFirstAt, IsAbsent}
use Rattle.lane_find.specs.Residues.{shifted}

abbrev first_list : List ℕ
first_list = 1 ∷ 1 ∷ 1 ∷ 1 ∷ []

abbrev second_list : List ℕ
second_list = 2 ∷ 9 ∷ 2 ∷ 2 ∷ []

abbrev third_list : List ℕ
third_list = 9 ∷ 3 ∷ 3 ∷ 3 ∷ []

-- at 0 the third list differs from the key, and at 1 the second
none_before_two : (j : ℕ) → j < 2 → ¬ AgreesAt first_list second_list third_list 1 2 3 j
none_before_two zero before agrees = absurd (omega (arith, agrees.third))
none_before_two (suc zero) before agrees = absurd (omega (arith, agrees.second))
none_before_two (suc (suc j)) before agrees = absurd (omega arith)

-- all three lists have to agree, and the first of two such indices counts
first_of_two : IsFirstAt first_list second_list third_list 1 2 3 2
first_of_two = record {
  agrees = record { within = lit< tt; first = refl; second = refl; third = refl };
  least = none_before_two;
}

-- in empty lists there is nothing
none_in_empty_lists : (x y z : ℕ) → IsAbsent [] [] [] x y z
none_in_empty_lists x y z i agrees = let within : i < 0 = agrees.within in absurd (omega arith)

-- a sum of n is 0, and one above n is taken down
shifted_residues : (shifted (0 ∷ 1 ∷ 2 ∷ 3 ∷ 4 ∷ []) 4 5 ≡ 4 ∷ 0 ∷ 1 ∷ 2 ∷ 3 ∷ []) × (shifted (0 ∷ 0 ∷ []) 0 1 ≡ 0 ∷ 0 ∷ []) × (shifted [] 3 7 ≡ [])
shifted_residues = (refl, refl, refl)
