-- The printed text of a number, piece by piece.
use Rattle.std.proofs.Common.{◌≡◌, ℕ, List, [], ◌∷◌, ◌++◌, refl, sym, ap, ◌∙◌, arith, append_assoc}
use Rattle.std.specs.Prelude.{ℤ, pos, negsuc, unsigned_abs, ◌<ℤ◌, ◌≤ℤ◌}
use Rattle.std.proofs.lemmas.Int.{ints}
use Rattle.plain_text.specs.NumberText.{number_text, size_text}

-- a negative number has a sign
number_text-negative : (z : ℤ) (d : ℕ) → z <ℤ pos 0 → number_text z d ≡ 45 ∷ size_text (unsigned_abs z) d
unfolding number_text
number_text-negative (pos a) d h = absurd (omega (arith, ints))
number_text-negative (negsuc a) d h = refl

-- a number that is not negative has none
pub number_text-positive : (z : ℤ) (d : ℕ) → pos 0 ≤ℤ z → number_text z d ≡ size_text (unsigned_abs z) d
unfolding number_text
number_text-positive (pos a) d h = refl
number_text-positive (negsuc a) d h = absurd (omega (arith, ints))

-- a sign and the size of a negative number are its text
pub signed_text : (old pushed : List ℕ) (z : ℤ) (d size : ℕ) → z <ℤ pos 0 → size ≡ unsigned_abs z → pushed ≡ old ++ 45 ∷ [] → pushed ++ size_text size d ≡ old ++ number_text z d
signed_text old pushed z d size h e f =
    ap (λ (n : ℕ). pushed ++ size_text n d) e ∙ ap (λ (text : List ℕ). text ++ size_text (unsigned_abs z) d) f
    ∙ append_assoc old (45 ∷ []) (size_text (unsigned_abs z) d)
    ∙ ap (λ (text : List ℕ). old ++ text) (sym (number_text-negative z d h))
