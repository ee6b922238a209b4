-- One step of a walk over a list: what is taken so far, what is left, and the element between.
--   take_at, map_at, drop_at           at slice_get xs i ≡ Some x
--   take_read, map_read, drop_read     at x ≡ get_or xs i x
--   member_taken, taken_member, taken_last     members of the first i + 1
--   dropped_other                      members of the rest
use Rattle.std.proofs.Common.{◌≡◌, refl, sym, ap, ap₂, subst, ◌∙◌, ◌⊎◌, inl, inr, ℕ, zero, suc, ◌+◌, ◌<◌, ◌≤◌, List, [], ◌∷◌, ◌++◌, map, take, drop, get_or, length, arith}
use Rattle.std.specs.Prelude.{slice_get, Some}
use Rattle.std.proofs.Math.Seq.{take-length}
use Rattle.std.proofs.lemmas.List.{map_push, take_more, drop_more, drop_all}
use Rattle.std.proofs.lemmas.Option.{slice_get_within, get_or_from_slice_get}
use Rattle.lists.specs.Increasing.{IsMember}
use Rattle.lists.proofs.Members.{pushed_member, member_front, member_last}

-- ---- by an element that is read

-- the elements so far and one more
pub take_read : {X : Type 0} (xs : List X) (i : ℕ) (x : X) → i < length xs → x ≡ get_or xs i x → take (i + 1) xs ≡ take i xs ++ x ∷ []
take_read xs i x below is = take_more xs i x below ∙ ap (λ y. take i xs ++ y ∷ []) (sym is)

-- the same, mapped
pub map_read : {X Y : Type 0} (f : X → Y) (xs : List X) (i : ℕ) (x : X) → i < length xs → x ≡ get_or xs i x → map f (take (i + 1) xs) ≡ map f (take i xs) ++ f x ∷ []
map_read f xs i x below is = ap (map f) (take_read xs i x below is) ∙ map_push f (take i xs) x

-- what is left, from this element on
pub drop_read : {X : Type 0} (xs : List X) (i : ℕ) (x : X) → i < length xs → x ≡ get_or xs i x → drop i xs ≡ x ∷ drop (i + 1) xs
drop_read xs i x below is = drop_more xs i x below ∙ ap (λ y. y ∷ drop (i + 1) xs) (sym is)

-- all of them
pub all_taken : {X : Type 0} (xs : List X) (i : ℕ) → i ≡ length xs → take i xs ≡ xs
all_taken xs i e = ap (λ (k : ℕ). take k xs) e ∙ take-length xs

-- no more than so many
pub taken_length : {X : Type 0} (i : ℕ) (xs : List X) → length (take i xs) ≤ i
taken_length zero xs = omega arith
taken_length (suc i) [] = omega arith
taken_length (suc i) (x ∷ xs) = let h = taken_length i xs in omega (arith, h)

-- ---- by an element that stands at a place

-- the elements so far and one more
pub take_at : {X : Type 0} (xs : List X) (i : ℕ) (x : X) → slice_get xs i ≡ Some x → take i xs ++ x ∷ [] ≡ take (i + 1) xs
take_at xs i x e = sym (take_read xs i x (slice_get_within xs i x e) (sym (get_or_from_slice_get xs i x x e)))

-- the same, mapped
pub map_at : {X Y : Type 0} (f : X → Y) (xs : List X) (i : ℕ) (x : X) → slice_get xs i ≡ Some x → map f (take i xs) ++ f x ∷ [] ≡ map f (take (i + 1) xs)
map_at f xs i x e = sym (map_read f xs i x (slice_get_within xs i x e) (sym (get_or_from_slice_get xs i x x e)))

-- the first
pub first_taken : {X : Type 0} (xs : List X) (x : X) → slice_get xs 0 ≡ Some x → x ∷ [] ≡ take 1 xs
first_taken xs x e = take_at xs 0 x e

-- what is left, from this element on
pub drop_at : {X : Type 0} (xs : List X) (i : ℕ) (x : X) → slice_get xs i ≡ Some x → drop i xs ≡ x ∷ drop (i + 1) xs
drop_at xs i x e = drop_read xs i x (slice_get_within xs i x e) (sym (get_or_from_slice_get xs i x x e))

-- ---- members of what is taken

-- a member of the first i + 1 is one of the first i, or the next
pub member_taken : {X Y : Type 0} (f : X → Y) (xs : List X) (i : ℕ) (x : X) (z : Y) → i < length xs → x ≡ get_or xs i x → IsMember z (map f (take (i + 1) xs)) → (z ≡ f x) ⊎ IsMember z (map f (take i xs))
member_taken {X} {Y} f xs i x z below is m = pushed_member (map f (take i xs)) (f x) z (subst (λ (ys : List Y). IsMember z ys) (map_read f xs i x below is) m)

-- the first i are among them
pub taken_member : {X Y : Type 0} (f : X → Y) (xs : List X) (i : ℕ) (x : X) (z : Y) → i < length xs → x ≡ get_or xs i x → IsMember z (map f (take i xs)) → IsMember z (map f (take (i + 1) xs))
taken_member {X} {Y} f xs i x z below is m = subst (λ (ys : List Y). IsMember z ys) (sym (map_read f xs i x below is)) (member_front (map f (take i xs)) (f x) z m)

-- and so is the next
pub taken_last : {X Y : Type 0} (f : X → Y) (xs : List X) (i : ℕ) (x : X) → i < length xs → x ≡ get_or xs i x → IsMember (f x) (map f (take (i + 1) xs))
taken_last {X} {Y} f xs i x below is = subst (λ (ys : List Y). IsMember (f x) ys) (sym (map_read f xs i x below is)) (member_last (map f (take i xs)) (f x))

-- one more element is made, as the elements so far were
pub mapped_more : {X Y Z : Type 0} (f : X → Z) (g : Y → Z) (xs : List X) (made made' : List Y) (i : ℕ) (x : X) (y : Y) → i < length xs → x ≡ get_or xs i x → made' ≡ made ++ y ∷ [] → g y ≡ f x →
    map g made ≡ map f (take i xs) → map g made' ≡ map f (take (i + 1) xs)
mapped_more f g xs made made' i x y below is grown same h =
    ap (map g) grown ∙ map_push g made y ∙ ap₂ (λ zs z. zs ++ z ∷ []) h same ∙ sym (map_read f xs i x below is)

-- ---- members of what is left

-- one that is not the next is one of the rest after that
pub dropped_other : {X Y : Type 0} (f : X → Y) (xs : List X) (i : ℕ) (d : X) (y : Y) → i < length xs → (y ≡ f (get_or xs i d) → ⊥) → IsMember y (map f (drop i xs)) → IsMember y (map f (drop (i + 1) xs))
dropped_other {X} {Y} f xs i d y below other m = by (subst (λ (ys : List X). IsMember y (map f ys)) (drop_more xs i d below) m)
  where
    by : (y ≡ f (get_or xs i d)) ⊎ IsMember y (map f (drop (i + 1) xs)) → IsMember y (map f (drop (i + 1) xs))
    by (inl e) = absurd (other e)
    by (inr k) = k

-- at the end there is none
pub none_left : {X Y : Type 0} (f : X → Y) (xs : List X) (i : ℕ) (y : Y) → length xs ≤ i → IsMember y (map f (drop i xs)) → ⊥
none_left {X} f xs i y ended m = subst (λ (ys : List X). IsMember y (map f ys)) (drop_all i xs ended) m

-- ---- maps

-- one map after another
pub map_twice : {X Y Z : Type 0} (f : X → Y) (g : Y → Z) (xs : List X) → map (λ x. g (f x)) xs ≡ map g (map f xs)
map_twice f g [] = refl
map_twice f g (x ∷ xs) = ap (λ ys. g (f x) ∷ ys) (map_twice f g xs)
