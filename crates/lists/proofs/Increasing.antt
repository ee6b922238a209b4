-- Strictly increasing lists: what putting an element in does, and that their members tell them.
--   IsIncreasing-inserted, IsMember-inserted, length-inserted     a list with one element put in
--   inserted_member, inserted_first, inserted_later     where the element is there, or where it goes
--   increasing_unique       an increasing list is told by its members
--   increasing_distinct     it has no repeats
--   IsIncreasing-mapped     a map that keeps the order keeps the list increasing
use Rattle.std.proofs.Common.{◌≡◌, refl, sym, ap, subst, ◌∙◌, ◌⊎◌, inl, inr, ◌+◌, ◌≤◌, List, [], ◌∷◌, map, length, arith}
use Rattle.std.specs.Prelude.{◌↔◌}
use Rattle.std.specs.declared.cmp.Ordering.{Ordering}
use Rattle.std.specs.declared.cmp.Ordering.TheVariants.{Less, Equal, Greater}
use Rattle.std.specs.Ordering.{ordering_reverse}
use Rattle.std.specs.Cmp.{IsTotalOrder}
use Rattle.std.proofs.lemmas.Cmp.{tied_itself}
use Rattle.std.proofs.lemmas.Map.Lookups.{CmpEqualImpliesEq}
use Rattle.lists.specs.Increasing.{IsBelowAll, IsIncreasing, IsMember, IsDistinct, inserted}

-- ---- the order

-- what is above x is below what x is below
below_trans : {X : Type 0} {cmp : X → X → Ordering} → IsTotalOrder cmp → (x y : X) (zs : List X) → cmp x y ≡ Less → IsBelowAll cmp y zs → IsBelowAll cmp x zs
below_trans t x y [] e h = tt
below_trans t x y (z ∷ zs) e h = (t.trans x y z e h.0, below_trans t x y zs e h.1)

-- the comparison the other way round
pub turned_round : {X : Type 0} {cmp : X → X → Ordering} → IsTotalOrder cmp → (x y : X) (o : Ordering) → cmp x y ≡ o → cmp y x ≡ ordering_reverse o
turned_round t x y o e = t.antisymm y x ∙ ap ordering_reverse e

-- what is below all of a list is below each member
pub below_member : {X : Type 0} (cmp : X → X → Ordering) (x z : X) (ys : List X) → IsBelowAll cmp x ys → IsMember z ys → cmp x z ≡ Less
below_member cmp x z [] h m = absurd m
below_member cmp x z (y ∷ ys) h (inl e) = ap (cmp x) e ∙ h.0
below_member cmp x z (y ∷ ys) h (inr m) = below_member cmp x z ys h.1 m

not_below_itself : {X : Type 0} {cmp : X → X → Ordering} → IsTotalOrder cmp → (x : X) → cmp x x ≡ Less → ⊥
not_below_itself t x e = cc (sym e ∙ tied_itself t x)

-- an increasing list has no repeats
pub increasing_distinct : {X : Type 0} (cmp : X → X → Ordering) → IsTotalOrder cmp → (xs : List X) → IsIncreasing cmp xs → IsDistinct xs
increasing_distinct cmp t [] h = tt
increasing_distinct cmp t (x ∷ xs) h = ((λ m. not_below_itself t x (below_member cmp x x xs h.0 m)), increasing_distinct cmp t xs h.1)

-- ---- one element put in

below_inserted : {X : Type 0} (cmp : X → X → Ordering) → (x y : X) (zs : List X) → cmp y x ≡ Less → IsBelowAll cmp y zs → IsBelowAll cmp y (inserted cmp x zs)
below_inserted cmp x y [] e h = (e, tt)
below_inserted cmp x y (z ∷ zs) e h = elim (cmp x z) as (λ o. IsBelowAll cmp y (elim o [ Less ↦ x ∷ z ∷ zs | Equal ↦ z ∷ zs | Greater ↦ z ∷ inserted cmp x zs ])) [
  | Less ↦ (e, h)
  | Equal ↦ h
  | Greater ↦ (h.0, below_inserted cmp x y zs e h.1)
]

-- the list stays increasing
pub IsIncreasing-inserted : {X : Type 0} {cmp : X → X → Ordering} → IsTotalOrder cmp → (x : X) (ys : List X) → IsIncreasing cmp ys → IsIncreasing cmp (inserted cmp x ys)
IsIncreasing-inserted t x [] h = (tt, tt)
IsIncreasing-inserted {X} {cmp} t x (y ∷ ys) h = by (cmp x y) refl (IsIncreasing-inserted t x ys h.1)
  where
    by : (o : Ordering) → cmp x y ≡ o → IsIncreasing cmp (inserted cmp x ys) → IsIncreasing cmp (elim o [ Less ↦ x ∷ y ∷ ys | Equal ↦ y ∷ ys | Greater ↦ y ∷ inserted cmp x ys ])
    by Less e rest = ((e, below_trans t x y ys e h.0), h)
    by Equal e rest = h
    by Greater e rest = (below_inserted cmp x y ys (turned_round t x y Greater e) h.0, rest)

member_later : {X : Type 0} (x y z : X) (ys zs : List X) → (IsMember z zs → (z ≡ x) ⊎ IsMember z ys) → (z ≡ y) ⊎ IsMember z zs → (z ≡ x) ⊎ ((z ≡ y) ⊎ IsMember z ys)
member_later x y z ys zs rest (inl p) = inr (inl p)
member_later x y z ys zs rest (inr m) = by (rest m)
  where
    by : (z ≡ x) ⊎ IsMember z ys → (z ≡ x) ⊎ ((z ≡ y) ⊎ IsMember z ys)
    by (inl p) = inl p
    by (inr n) = inr (inr n)

member_back : {X : Type 0} (x y z : X) (ys zs : List X) → ((z ≡ x) ⊎ IsMember z ys → IsMember z zs) → (z ≡ x) ⊎ ((z ≡ y) ⊎ IsMember z ys) → (z ≡ y) ⊎ IsMember z zs
member_back x y z ys zs rest (inl p) = inr (rest (inl p))
member_back x y z ys zs rest (inr (inl p)) = inl p
member_back x y z ys zs rest (inr (inr m)) = inr (rest (inr m))

member_there : {X : Type 0} (x y z : X) (ys : List X) → x ≡ y → (z ≡ x) ⊎ ((z ≡ y) ⊎ IsMember z ys) → (z ≡ y) ⊎ IsMember z ys
member_there x y z ys e (inl p) = inl (p ∙ e)
member_there x y z ys e (inr m) = m

-- its members are the old ones and that
pub IsMember-inserted : {X : Type 0} {cmp : X → X → Ordering} → CmpEqualImpliesEq cmp → (x : X) (ys : List X) (z : X) → IsMember z (inserted cmp x ys) ↔ ((z ≡ x) ⊎ IsMember z ys)
IsMember-inserted exact x [] z = ((λ m. m), (λ m. m))
IsMember-inserted {X} {cmp} exact x (y ∷ ys) z = by (cmp x y) refl (IsMember-inserted exact x ys z)
  where
    by : (o : Ordering) → cmp x y ≡ o → IsMember z (inserted cmp x ys) ↔ ((z ≡ x) ⊎ IsMember z ys) → IsMember z (elim o [ Less ↦ x ∷ y ∷ ys | Equal ↦ y ∷ ys | Greater ↦ y ∷ inserted cmp x ys ]) ↔ ((z ≡ x) ⊎ ((z ≡ y) ⊎ IsMember z ys))
    by Less e rest = ((λ m. m), (λ m. m))
    by Equal e rest = ((λ m. inr m), member_there x y z ys (exact x y e))
    by Greater e rest = (member_later x y z ys (inserted cmp x ys) rest.0, member_back x y z ys (inserted cmp x ys) rest.1)

-- it is longer by one at most
pub length-inserted : {X : Type 0} (cmp : X → X → Ordering) (x : X) (ys : List X) → length (inserted cmp x ys) ≤ length ys + 1
length-inserted cmp x [] = omega arith
length-inserted {X} cmp x (y ∷ ys) = by (cmp x y) (length-inserted cmp x ys)
  where
    by : (o : Ordering) → length (inserted cmp x ys) ≤ length ys + 1 → length {A = X} (elim o [ Less ↦ x ∷ y ∷ ys | Equal ↦ y ∷ ys | Greater ↦ y ∷ inserted cmp x ys ]) ≤ length (y ∷ ys) + 1
    by Less h = omega arith
    by Equal h = omega arith
    by Greater h = omega (arith, h)

-- an element is put before a greater one
pub inserted_first : {X : Type 0} (cmp : X → X → Ordering) (x y : X) (ys : List X) → cmp x y ≡ Less → inserted cmp x (y ∷ ys) ≡ x ∷ y ∷ ys
inserted_first cmp x y ys e = ap (λ (o : Ordering). elim o [ Less ↦ x ∷ y ∷ ys | Equal ↦ y ∷ ys | Greater ↦ y ∷ inserted cmp x ys ]) e

-- and behind a less one
pub inserted_later : {X : Type 0} (cmp : X → X → Ordering) (x y : X) (ys : List X) → cmp x y ≡ Greater → inserted cmp x (y ∷ ys) ≡ y ∷ inserted cmp x ys
inserted_later cmp x y ys e = ap (λ (o : Ordering). elim o [ Less ↦ x ∷ y ∷ ys | Equal ↦ y ∷ ys | Greater ↦ y ∷ inserted cmp x ys ]) e

-- a member is not put in again
pub inserted_member : {X : Type 0} (cmp : X → X → Ordering) → IsTotalOrder cmp → (x : X) (ys : List X) → IsIncreasing cmp ys → IsMember x ys → inserted cmp x ys ≡ ys
inserted_member cmp t x [] h m = absurd m
inserted_member cmp t x (y ∷ ys) h (inl e) = ap (λ (o : Ordering). elim o [ Less ↦ x ∷ y ∷ ys | Equal ↦ y ∷ ys | Greater ↦ y ∷ inserted cmp x ys ]) (ap (cmp x) (sym e) ∙ tied_itself t x)
inserted_member cmp t x (y ∷ ys) h (inr m) = inserted_later cmp x y ys (turned_round t y x Less (below_member cmp y x ys h.0 m)) ∙ ap (λ zs. y ∷ zs) (inserted_member cmp t x ys h.1 m)

-- ---- an increasing list is told by its members

not_both : {X : Type 0} {cmp : X → X → Ordering} → IsTotalOrder cmp → (x y : X) → cmp x y ≡ Less → cmp y x ≡ Less → ⊥
not_both t x y e f = not_below_itself t x (t.trans x y x e f)

first_same : {X : Type 0} (cmp : X → X → Ordering) → IsTotalOrder cmp → (x y : X) (xs ys : List X) → IsBelowAll cmp x xs → IsBelowAll cmp y ys → (x ≡ y) ⊎ IsMember x ys → (y ≡ x) ⊎ IsMember y xs → x ≡ y
first_same cmp t x y xs ys h k (inl e) n = e
first_same cmp t x y xs ys h k (inr m) (inl e) = sym e
first_same cmp t x y xs ys h k (inr m) (inr n) = absurd (not_both t x y (below_member cmp x y xs h n) (below_member cmp y x ys k m))

tail_member : {X : Type 0} (cmp : X → X → Ordering) → IsTotalOrder cmp → (x y z : X) (xs ys : List X) → x ≡ y → IsBelowAll cmp x xs → IsMember z xs → (z ≡ y) ⊎ IsMember z ys → IsMember z ys
tail_member {X} cmp t x y z xs ys e h m (inl f) = absurd (not_below_itself t x (subst (λ (a : X). cmp x a ≡ Less) (f ∙ sym e) (below_member cmp x z xs h m)))
tail_member cmp t x y z xs ys e h m (inr n) = n

-- two increasing lists of the same members are one
pub increasing_unique : {X : Type 0} {cmp : X → X → Ordering} → IsTotalOrder cmp → (xs ys : List X) → IsIncreasing cmp xs → IsIncreasing cmp ys → ((z : X) → IsMember z xs ↔ IsMember z ys) → xs ≡ ys
increasing_unique t [] [] h k same = refl
increasing_unique t [] (y ∷ ys) h k same = absurd ((same y).1 (inl refl))
increasing_unique t (x ∷ xs) [] h k same = absurd ((same x).0 (inl refl))
increasing_unique {X} {cmp} t (x ∷ xs) (y ∷ ys) h k same =
    let e = first_same cmp t x y xs ys h.0 k.0 ((same x).0 (inl refl)) ((same y).1 (inl refl)) in
    ap (λ z. z ∷ xs) e ∙ ap (λ zs. y ∷ zs) (increasing_unique t xs ys h.1 k.1
    (λ z. ((λ m. tail_member cmp t x y z xs ys e h.0 m ((same z).0 (inr m))), (λ m. tail_member cmp t y x z ys xs (sym e) k.0 m ((same z).1 (inr m))))))

-- ---- mapped

-- where a map keeps the order, the images of an increasing list increase
pub IsIncreasing-mapped : {X Y : Type 0} (cmp : X → X → Ordering) (cmp' : Y → Y → Ordering) (f : X → Y) → ((x y : X) → cmp' (f x) (f y) ≡ cmp x y) → (xs : List X) → IsIncreasing cmp xs → IsIncreasing cmp' (map f xs)
IsIncreasing-mapped cmp cmp' f same [] h = tt
IsIncreasing-mapped {X} cmp cmp' f same (x ∷ xs) h = (below xs h.0, IsIncreasing-mapped cmp cmp' f same xs h.1)
  where
    below : (ys : List X) → IsBelowAll cmp x ys → IsBelowAll cmp' (f x) (map f ys)
    below [] k = tt
    below (y ∷ ys) k = (same x y ∙ k.0, below ys k.1)
