-- Members of a list: by their places, and of lists that are joined, mapped, or grown at their end.
--   member_at, member_read, member_index   the element at a place is a member
--   PlaceOf, place_of_member    a place of a member
--   member_left, member_right, member_either      members of xs ++ ys
--   member_front, member_last, pushed_member      members of xs ++ x ∷ []
--   mapped_member, mapped_from  members of map f xs
use Rattle.std.proofs.Common.{◌≡◌, refl, sym, ap, subst, ◌∙◌, ◌⊎◌, inl, inr, ℕ, zero, suc, ◌<◌, ◌≤◌, List, [], ◌∷◌, ◌++◌, map, get_or, length, arith}
use Rattle.std.specs.Prelude.{◌↔◌, slice_get, Some}
use Rattle.lists.specs.Increasing.{IsMember}

-- ---- by places

-- the element at a place is a member
pub member_at : {X : Type 0} (xs : List X) (i : ℕ) (x : X) → slice_get xs i ≡ Some x → IsMember x xs
member_at [] i x e = absurd (cc e)
member_at (y ∷ ys) zero x e = let is : x ≡ y = cc e in inl is
member_at (y ∷ ys) (suc i) x e = inr (member_at ys i x e)

-- so is the element that is read there
pub member_read : {X : Type 0} (xs : List X) (i : ℕ) (x : X) → i < length xs → x ≡ get_or xs i x → IsMember x xs
member_read [] i x below is = absurd (omega arith)
member_read (y ∷ ys) zero x below is = inl is
member_read (y ∷ ys) (suc i) x below is = inr (member_read ys i x (omega arith) is)

-- whatever would stand for a missing one
pub member_index : {X : Type 0} (xs : List X) (i : ℕ) (d : X) → i < length xs → IsMember (get_or xs i d) xs
member_index [] i d below = absurd (omega arith)
member_index (x ∷ xs) zero d below = inl refl
member_index (x ∷ xs) (suc i) d below = inr (member_index xs i d (omega arith))

-- one thing stands at a place
pub same_at : {X : Type 0} (xs : List X) (i : ℕ) (x y : X) → slice_get xs i ≡ Some x → slice_get xs i ≡ Some y → x ≡ y
same_at xs i x y e f = let k = sym e ∙ f in cc k

-- a place where x stands
pub record PlaceOf {X : Type 0} (xs : List X) (x : X) : Type 0 where
  pub number : ℕ
  pub below : number < length xs
  pub at : slice_get xs number ≡ Some x

-- a member stands somewhere
pub place_of_member : {X : Type 0} (xs : List X) (x : X) → IsMember x xs → PlaceOf xs x
place_of_member [] x m = absurd m
place_of_member {X} (y ∷ ys) x (inl e) = record { number = 0; below = omega arith; at = ap (λ (z : X). Some z) (sym e) }
place_of_member (y ∷ ys) x (inr m) = let k = place_of_member ys x m in record { number = suc k.number; below = omega (arith, k.below); at = k.at }

-- a list with a member has one element at least
pub some_of_member : {X : Type 0} (x : X) (xs : List X) → IsMember x xs → 1 ≤ length xs
some_of_member x [] m = absurd m
some_of_member x (y ∷ ys) m = omega arith

-- ---- of two lists, one behind the other

-- a member of the first is one of both
pub member_left : {X : Type 0} (z : X) (xs ys : List X) → IsMember z xs → IsMember z (xs ++ ys)
member_left z [] ys m = absurd m
member_left z (x ∷ xs) ys (inl e) = inl e
member_left z (x ∷ xs) ys (inr m) = inr (member_left z xs ys m)

-- so is a member of the second
pub member_right : {X : Type 0} (z : X) (xs ys : List X) → IsMember z ys → IsMember z (xs ++ ys)
member_right z [] ys m = m
member_right z (x ∷ xs) ys m = inr (member_right z xs ys m)

-- and there are no others
pub member_either : {X : Type 0} (z : X) (xs ys : List X) → IsMember z (xs ++ ys) → IsMember z xs ⊎ IsMember z ys
member_either z [] ys m = inr m
member_either z (x ∷ xs) ys (inl e) = inl (inl e)
member_either z (x ∷ xs) ys (inr m) = by (member_either z xs ys m)
  where
    by : IsMember z xs ⊎ IsMember z ys → IsMember z (x ∷ xs) ⊎ IsMember z ys
    by (inl k) = inl (inr k)
    by (inr k) = inr k

-- ---- of a list with one more element at its end

-- an old member stays one
pub member_front : {X : Type 0} (xs : List X) (x z : X) → IsMember z xs → IsMember z (xs ++ x ∷ [])
member_front xs x z m = member_left z xs (x ∷ []) m

-- the new element is one
pub member_last : {X : Type 0} (xs : List X) (x : X) → IsMember x (xs ++ x ∷ [])
member_last xs x = member_right x xs (x ∷ []) (inl refl)

-- and there are no others
pub pushed_member : {X : Type 0} (xs : List X) (x z : X) → IsMember z (xs ++ x ∷ []) → (z ≡ x) ⊎ IsMember z xs
pushed_member {X} xs x z m = by (member_either z xs (x ∷ []) m)
  where
    by : IsMember z xs ⊎ ((z ≡ x) ⊎ IsMember z []) → (z ≡ x) ⊎ IsMember z xs
    by (inl k) = inr k
    by (inr (inl e)) = inl e
    by (inr (inr k)) = absurd k

-- a member of a list with one more element is that or an old one
pub IsMember-pushed : {X : Type 0} (xs : List X) (x z : X) → IsMember z (xs ++ x ∷ []) ↔ ((z ≡ x) ⊎ IsMember z xs)
IsMember-pushed {X} xs x z = (pushed_member xs x z, back)
  where
    back : (z ≡ x) ⊎ IsMember z xs → IsMember z (xs ++ x ∷ [])
    back (inl e) = subst (λ (y : X). IsMember y (xs ++ x ∷ [])) (sym e) (member_last xs x)
    back (inr m) = member_front xs x z m

-- what holds of each so far and of one more holds of each
pub each_pushed : {X : Type 0} (P : X → Type 0) (xs : List X) (x : X) → ((z : X) → IsMember z xs → P z) → P x → (z : X) → IsMember z (xs ++ x ∷ []) → P z
each_pushed P xs x h p z m = by (pushed_member xs x z m)
  where
    by : (z ≡ x) ⊎ IsMember z xs → P z
    by (inl e) = subst P (sym e) p
    by (inr k) = h z k

-- what stands at a place of it is the new element, at the last place, or an old one
pub slice_get_pushed : {X : Type 0} (xs : List X) (x z : X) (i : ℕ) → slice_get (xs ++ x ∷ []) i ≡ Some z → (slice_get xs i ≡ Some z) ⊎ ((i ≡ length xs) × (z ≡ x))
slice_get_pushed [] x z zero e = inr (refl, (let s : x ≡ z = cc e in sym s))
slice_get_pushed [] x z (suc i) e = absurd (cc e)
slice_get_pushed (y ∷ xs) x z zero e = inl e
slice_get_pushed (y ∷ xs) x z (suc i) e = by (slice_get_pushed xs x z i e)
  where
    by : (slice_get xs i ≡ Some z) ⊎ ((i ≡ length xs) × (z ≡ x)) → (slice_get (y ∷ xs) (suc i) ≡ Some z) ⊎ ((suc i ≡ length (y ∷ xs)) × (z ≡ x))
    by (inl h) = inl h
    by (inr h) = inr (ap suc h.0, h.1)

-- ---- of a mapped list

-- what a member is mapped to is a member
pub mapped_member : {X Y : Type 0} (f : X → Y) (x : X) (xs : List X) → IsMember x xs → IsMember (f x) (map f xs)
mapped_member f x [] m = m
mapped_member f x (y ∷ ys) (inl e) = inl (ap f e)
mapped_member f x (y ∷ ys) (inr m) = inr (mapped_member f x ys m)

-- a member of a mapped list, and where it comes from
pub record MappedFrom {X Y : Type 0} (f : X → Y) (y : Y) (xs : List X) : Type 0 where
  pub item : X
  pub of_list : IsMember item xs
  pub is : y ≡ f item

-- each member comes from one
pub mapped_from : {X Y : Type 0} (f : X → Y) (y : Y) (xs : List X) → IsMember y (map f xs) → MappedFrom f y xs
mapped_from f y [] m = absurd m
mapped_from f y (x ∷ xs) (inl e) = record { item = x; of_list = inl refl; is = e }
mapped_from f y (x ∷ xs) (inr m) = let r = mapped_from f y xs m in record { item = r.item; of_list = inr r.of_list; is = r.is }

-- what an element that is read is mapped to is a member
pub mapped_read : {X Y : Type 0} (f : X → Y) (xs : List X) (i : ℕ) (x : X) → i < length xs → x ≡ get_or xs i x → IsMember (f x) (map f xs)
mapped_read f xs i x below is = mapped_member f x xs (member_read xs i x below is)
