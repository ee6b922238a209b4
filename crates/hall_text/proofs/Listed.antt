-- Lists that begin with another.
--   starts_refl, starts_push, starts_both     when one does
--   starts_member, starts_longer              what it has
--   taken_before, taken_next                  the elements before an index of a list that has grown
use Rattle.std.proofs.Common.{◌≡◌, ◌⊎◌, ℕ, ◌<◌, ◌≤◌, ◌+◌, List, [], ◌∷◌, ◌++◌, length, get_or, take, sym, ◌∙◌, ap, subst, arith, append_assoc, append-nil, length-append}
use Rattle.std.proofs.lemmas.List.{take-append-le}
use Rattle.lists.specs.Increasing.{IsMember}
use Rattle.lists.proofs.Members.{member_left, pushed_member}
use Rattle.lists.proofs.Walks.{take_read}
use Rattle.hall_text.specs.Splits.{Starts}

pub starts_refl : {X : Type 0} (xs : List X) → Starts xs xs
starts_refl xs = record { more = []; is = sym (append-nil xs) }

pub starts_push : {X : Type 0} (xs ys : List X) (x : X) → Starts xs ys → Starts xs (ys ++ (x ∷ []))
starts_push xs ys x s = record { more = s.more ++ (x ∷ []); is = ap (λ w. w ++ (x ∷ [])) s.is ∙ append_assoc xs s.more (x ∷ []) }

pub starts_both : {X : Type 0} (xs ys zs : List X) → Starts xs ys → Starts ys zs → Starts xs zs
starts_both xs ys zs s t = record { more = s.more ++ t.more; is = t.is ∙ ap (λ w. w ++ t.more) s.is ∙ append_assoc xs s.more t.more }

pub starts_member : {X : Type 0} (xs ys : List X) → Starts xs ys → (o : X) → IsMember o xs → IsMember o ys
starts_member {X} xs ys s o m = subst (λ (w : List X). IsMember o w) (sym s.is) (member_left o xs s.more m)

-- the elements before an index are those of the list that has grown
pub taken_before : {X : Type 0} (xs ys : List X) (i : ℕ) → Starts xs ys → i ≤ length xs → take i ys ≡ take i xs
taken_before xs ys i s l = ap (take i) s.is ∙ take-append-le i xs s.more l

-- a member of the first i + 1 of a list that has grown
pub taken_next : {X : Type 0} (xs ys : List X) (i : ℕ) (x o : X) → Starts xs ys → i < length xs → x ≡ get_or xs i x → IsMember o (take (i + 1) ys) → (o ≡ x) ⊎ IsMember o (take i xs)
taken_next {X} xs ys i x o s l e m = pushed_member (take i xs) x o (subst (λ (w : List X). IsMember o w) (taken_before xs ys (i + 1) s (omega (arith, l)) ∙ take_read xs i x l e) m)

pub starts_longer : {X : Type 0} (xs ys : List X) → Starts xs ys → length xs ≤ length ys
starts_longer xs ys s = omega (arith, ap length s.is, length-append xs s.more)
