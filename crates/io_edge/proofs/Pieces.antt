-- Bytes that are taken, or go out, piece by piece.
use Rattle.std.proofs.Common.{◌≡◌, sym, ap, ◌∙◌, ℕ, ◌+◌, ◌-◌, ◌≤◌, List, [], ◌++◌, length, take, drop, append_assoc, arith, length-drop}
use Rattle.std.proofs.lemmas.List.{take-append-drop, take_at, length-take-le, drop-drop}
use Rattle.std.specs.Prelude.{None, Some, Option}
use Rattle.std.specs.Io.KnownBytes.{Appends, Consumes}
use Rattle.std.proofs.Math.Seq.{take-add, take-length}
use Rattle.std.proofs.lemmas.Grind.{common_steps}

-- what was taken at first, and what was taken after it, were taken together
pub then_taken : (a b c : Option (List ℕ)) (xs ys : List ℕ) → Consumes a b xs → Consumes b c ys → Consumes a c (xs ++ ys)
then_taken None b c xs ys p q = tt
then_taken (Some a) None c xs ys p q = absurd p
then_taken (Some a) (Some b) None xs ys p q = absurd q
then_taken (Some a) (Some b) (Some c) xs ys p q = p ∙ ap (λ zs. xs ++ zs) q ∙ sym (append_assoc xs ys c)

-- a read of n bytes of a list, from `at` on, leaves the bytes from `at + n` on
pub gives_piece : (bytes piece tail : List ℕ) (at n : ℕ) → n ≤ length bytes - at → piece ≡ take n (drop at bytes) → drop at bytes ≡ take n (piece ++ tail) ++ drop (at + n) bytes
gives_piece bytes piece tail at n h e =
    let short : n ≤ length (drop at bytes) = omega (arith, length-drop at bytes) in
    let long : length piece ≡ n = ap length e ∙ length-take-le n (drop at bytes) short in
    sym (take-append-drop n (drop at bytes)) ∙ ap (λ zs. zs ++ drop n (drop at bytes)) (sym e ∙ sym (take_at piece tail n long)) ∙ ap (λ zs. take n (piece ++ tail) ++ zs) (drop-drop n at bytes)

-- no byte is left from the end of the list on
pub at_end : (bytes : List ℕ) (at : ℕ) → length bytes ≤ at → drop at bytes ≡ []
at_end bytes at h = grind (arith, common_steps)

-- where the first bytes went out, and then the next ones, more of the first bytes are out
pub then_appended : (a b c : Option (List ℕ)) (xs : List ℕ) (at n : ℕ) → Appends a b (take at xs) → Appends b c (take n (drop at xs)) → Appends a c (take (at + n) xs)
then_appended None b c xs at n p q = tt
then_appended (Some a) None c xs at n p q = absurd p
then_appended (Some a) (Some b) None xs at n p q = absurd q
then_appended (Some a) (Some b) (Some c) xs at n p q = q ∙ ap (λ zs. zs ++ take n (drop at xs)) p ∙ append_assoc a (take at xs) (take n (drop at xs)) ∙ ap (λ zs. a ++ zs) (sym (take-add at n xs))

-- the bytes of `&xs[at..]`
pub rest_of : (xs : List ℕ) (at : ℕ) → take (length xs - at) (drop at xs) ≡ drop at xs
rest_of xs at = ap (λ k. take k (drop at xs)) (sym (length-drop at xs)) ∙ take-length (drop at xs)
