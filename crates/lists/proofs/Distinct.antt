-- Lists without repeats: mapped, joined, grown at their end, and with a member taken out.
--   IsDistinct-mapped, told_apart, IsDistinct-from_mapped     and the list of the images
--   IsDistinct-pushed, IsDistinct-joined, IsDistinct-drop     one more element, two lists, and the rest of a list
--   one_place, not_before       an element stands at one place
--   Parted, parted              the list as a member and the others
use Rattle.std.proofs.Common.{◌≡◌, refl, sym, ap, subst, ◌∙◌, ◌⊎◌, inl, inr, ℕ, zero, suc, List, [], ◌∷◌, ◌++◌, map, take, drop}
use Rattle.std.specs.Prelude.{slice_get, Some}
use Rattle.lists.specs.Increasing.{IsMember, IsDistinct}
use Rattle.lists.proofs.Members.{member_at, same_at, member_either, pushed_member, mapped_member, mapped_from}

-- ---- mapped

-- a list without repeats, mapped one to one, has none
pub IsDistinct-mapped : {X Y : Type 0} (f : X → Y) (xs : List X) → IsDistinct xs → ((x y : X) → IsMember x xs → IsMember y xs → f x ≡ f y → x ≡ y) → IsDistinct (map f xs)
IsDistinct-mapped f [] d one = tt
IsDistinct-mapped {X} f (x ∷ xs) d one = (new, IsDistinct-mapped f xs d.1 (λ a b m n e. one a b (inr m) (inr n) e))
  where
    new : IsMember (f x) (map f xs) → ⊥
    new m = let r = mapped_from f (f x) xs m in d.0 (subst (λ (a : X). IsMember a xs) (sym (one x r.item (inl refl) (inr r.of_list) r.is)) r.of_list)

-- where the images have no repeats, the list has none
pub IsDistinct-from_mapped : {X Y : Type 0} (f : X → Y) (xs : List X) → IsDistinct (map f xs) → IsDistinct xs
IsDistinct-from_mapped f [] d = tt
IsDistinct-from_mapped f (x ∷ xs) d = ((λ m. d.0 (mapped_member f x xs m)), IsDistinct-from_mapped f xs d.1)

-- and a member is known by its image
pub told_apart : {X Y : Type 0} (f : X → Y) (xs : List X) → IsDistinct (map f xs) → (x w : X) → IsMember x xs → IsMember w xs → f x ≡ f w → x ≡ w
told_apart f [] d x w h k s = absurd h
told_apart f (y ∷ ys) d x w (inl e) (inl k) s = e ∙ sym k
told_apart {X} {Y} f (y ∷ ys) d x w (inl e) (inr k) s = absurd (d.0 (subst (λ (z : Y). IsMember z (map f ys)) (sym s ∙ ap f e) (mapped_member f w ys k)))
told_apart {X} {Y} f (y ∷ ys) d x w (inr h) (inl k) s = absurd (d.0 (subst (λ (z : Y). IsMember z (map f ys)) (s ∙ ap f k) (mapped_member f x ys h)))
told_apart f (y ∷ ys) d x w (inr h) (inr k) s = told_apart f ys d.1 x w h k s

-- ---- grown, joined and cut

-- one more element that is none of them
pub IsDistinct-pushed : {X : Type 0} (xs : List X) (x : X) → IsDistinct xs → (IsMember x xs → ⊥) → IsDistinct (xs ++ x ∷ [])
IsDistinct-pushed [] x d new = ((λ m. m), tt)
IsDistinct-pushed (y ∷ ys) x d new = ((λ m. by (pushed_member ys x y m)), IsDistinct-pushed ys x d.1 (λ m. new (inr m)))
  where
    by : (y ≡ x) ⊎ IsMember y ys → ⊥
    by (inl e) = new (inl (sym e))
    by (inr m) = d.0 m

-- two lists without a common member
pub IsDistinct-joined : {X : Type 0} (xs ys : List X) → IsDistinct xs → IsDistinct ys → ((z : X) → IsMember z xs → IsMember z ys → ⊥) → IsDistinct (xs ++ ys)
IsDistinct-joined [] ys d e apart = e
IsDistinct-joined {X} (x ∷ xs) ys d e apart = (new, IsDistinct-joined xs ys d.1 e (λ z m k. apart z (inr m) k))
  where
    by : IsMember x xs ⊎ IsMember x ys → ⊥
    by (inl m) = d.0 m
    by (inr m) = apart x (inl refl) m

    new : IsMember x (xs ++ ys) → ⊥
    new m = by (member_either x xs ys m)

-- the rest of a list
pub IsDistinct-drop : {X : Type 0} (i : ℕ) (xs : List X) → IsDistinct xs → IsDistinct (drop i xs)
IsDistinct-drop zero xs d = d
IsDistinct-drop (suc i) [] d = tt
IsDistinct-drop (suc i) (x ∷ xs) d = IsDistinct-drop i xs d.1

-- ---- places

-- what stands at two places of a list without repeats stands at one
pub one_place : {X : Type 0} (xs : List X) (i j : ℕ) (x : X) → IsDistinct xs → slice_get xs i ≡ Some x → slice_get xs j ≡ Some x → i ≡ j
one_place [] i j x d e f = absurd (cc e)
one_place (y ∷ ys) zero zero x d e f = refl
one_place {X} (y ∷ ys) zero (suc j) x d e f = absurd (d.0 (subst (λ (z : X). IsMember z ys) (same_at (y ∷ ys) 0 x y e refl) (member_at ys j x f)))
one_place {X} (y ∷ ys) (suc i) zero x d e f = absurd (d.0 (subst (λ (z : X). IsMember z ys) (same_at (y ∷ ys) 0 x y f refl) (member_at ys i x e)))
one_place (y ∷ ys) (suc i) (suc j) x d e f = ap (λ (n : ℕ). suc n) (one_place ys i j x d.1 e f)

-- an element is none of those before it
pub not_before : {X : Type 0} (xs : List X) (i : ℕ) (x : X) → IsDistinct xs → slice_get xs i ≡ Some x → IsMember x (take i xs) → ⊥
not_before [] i x d e m = cc e
not_before (y ∷ ys) zero x d e m = m
not_before {X} (y ∷ ys) (suc i) x d e (inl f) = d.0 (subst (λ (z : X). IsMember z ys) f (member_at ys i x e))
not_before (y ∷ ys) (suc i) x d e (inr m) = not_before ys i x d.1 e m

-- ---- a member and the others

-- the list as a member and what is in front of it and behind
pub record Parted {X : Type 0} (x : X) (xs : List X) : Type 0 where
  pub front : List X
  pub back : List X
  pub is : xs ≡ front ++ (x ∷ back)

-- at each member
pub parted : {X : Type 0} (x : X) (xs : List X) → IsMember x xs → Parted x xs
parted x [] h = absurd h
parted x (y ∷ ys) (inl e) = record { front = []; back = ys; is = ap (λ w. w ∷ ys) (sym e) }
parted x (y ∷ ys) (inr h) =
    let r = parted x ys h in
    record { front = y ∷ r.front; back = r.back; is = ap (λ w. y ∷ w) r.is }

-- one of the others is a member
pub member_other : {X : Type 0} (y x : X) (fs bs : List X) → IsMember y (fs ++ bs) → IsMember y (fs ++ (x ∷ bs))
member_other y x [] bs h = inr h
member_other y x (f ∷ fs) bs (inl e) = inl e
member_other y x (f ∷ fs) bs (inr h) = inr (member_other y x fs bs h)

-- the one at the cut is a member
pub member_cut : {X : Type 0} (x : X) (fs bs : List X) → IsMember x (fs ++ (x ∷ bs))
member_cut x [] bs = inl refl
member_cut x (f ∷ fs) bs = inr (member_cut x fs bs)

-- and there are no others
pub cut_or_other : {X : Type 0} (y x : X) (fs bs : List X) → IsMember y (fs ++ (x ∷ bs)) → (y ≡ x) ⊎ IsMember y (fs ++ bs)
cut_or_other y x [] bs h = h
cut_or_other y x (f ∷ fs) bs (inl e) = inr (inl e)
cut_or_other y x (f ∷ fs) bs (inr h) = by (cut_or_other y x fs bs h)
  where
    by : (y ≡ x) ⊎ IsMember y (fs ++ bs) → (y ≡ x) ⊎ ((y ≡ f) ⊎ IsMember y (fs ++ bs))
    by (inl e) = inl e
    by (inr k) = inr (inr k)

-- without repeats, the others have none
pub distinct_others : {X : Type 0} (x : X) (fs bs : List X) → IsDistinct (fs ++ (x ∷ bs)) → IsDistinct (fs ++ bs)
distinct_others x [] bs d = d.1
distinct_others x (f ∷ fs) bs d = (λ h. d.0 (member_other f x fs bs h), distinct_others x fs bs d.1)

-- and the one at the cut is none of them
pub cut_no_other : {X : Type 0} (x : X) (fs bs : List X) → IsDistinct (fs ++ (x ∷ bs)) → IsMember x (fs ++ bs) → ⊥
cut_no_other x [] bs d h = d.0 h
cut_no_other {X} x (f ∷ fs) bs d (inl e) = d.0 (subst (λ (w : X). IsMember w (fs ++ (x ∷ bs))) e (member_cut x fs bs))
cut_no_other x (f ∷ fs) bs d (inr h) = cut_no_other x fs bs d.1 h
