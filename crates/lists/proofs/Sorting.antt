-- A list that is put in order and from which equal neighbours are dropped is strictly increasing, and has the elements that
-- were there.
use Rattle.std.proofs.Common.{◌≡◌, refl, sym, ap, subst, ◌∙◌, inl, inr, ℕ, zero, suc, ◌<◌, List, [], ◌∷◌, map, length, true, true≢false, arith}
use Rattle.std.specs.Prelude.{◌↔◌, slice_index_or}
use Rattle.std.specs.declared.cmp.Ordering.{Ordering}
use Rattle.std.specs.declared.cmp.Ordering.TheVariants.{Less, Equal, Greater}
use Rattle.std.specs.List.{AllByRecursion, Contains, dedup}
use Rattle.std.specs.List.Sorted.{IsPermutation, IsSorted, IsStrictlySortedBy}
use Rattle.std.specs.Ordering.{eq_by_cmp, is_eq, on}
use Rattle.std.specs.Cmp.{IsTotalOrder}
use Rattle.std.proofs.lemmas.Cmp.{eq_by_cmp_equiv, on_total}
use Rattle.std.proofs.lemmas.List.Kept.{Any-dedup, Contains-from_dedup, IsStrictlySortedBy-dedup}
use Rattle.std.proofs.lemmas.List.Sorted.{Contains-permutation, IsPermutation-sym}
use Rattle.std.proofs.lemmas.Map.Lookups.{CmpEqualImpliesEq}
use Rattle.lists.specs.Increasing.{IsBelowAll, IsIncreasing, IsMember}

-- an element of the list whose value this is
pub record IsValueOf {A X : Type 0} (f : A → X) (x : X) (ys : List A) : Type 0 where
  pub element : A
  pub of_list : Contains ys element
  pub is : x ≡ f element

equal_of : (o : Ordering) → is_eq o ≡ true → o ≡ Equal
equal_of Less e = absurd (true≢false (sym e))
equal_of Equal e = refl
equal_of Greater e = absurd (true≢false (sym e))

module _ {A X : Type 0} (f : A → X) where
  -- the value of an element is a member
  member_of : (a : A) (ys : List A) (k : ℕ) → k < length ys → slice_index_or ys k a ≡ a → IsMember (f a) (map f ys)
  member_of a [] k below e = absurd (omega arith)
  member_of a (y ∷ ys) zero below e = inl (ap f (sym e))
  member_of a (y ∷ ys) (suc k) below e = inr (member_of a ys k (omega arith) e)

  -- a member is the value of an element
  value_of : (x : X) (ys : List A) → IsMember x (map f ys) → IsValueOf f x ys
  value_of x [] m = absurd m
  value_of x (y ∷ ys) (inl e) = record { element = y; of_list = (0, omega arith, refl); is = e }
  value_of x (y ∷ ys) (inr m) =
      let later = value_of x ys m in
      record { element = later.element; of_list = (suc later.of_list.0, omega (arith, later.of_list.1), later.of_list.2); is = later.is }

  kept_by_permutation : (xs ys : List A) → IsPermutation xs ys → (x : X) → IsMember x (map f xs) → IsMember x (map f ys)
  kept_by_permutation xs ys moved x m =
      let value = value_of x xs m in
      let there = Contains-permutation xs ys value.element moved value.of_list in
      subst (λ z. IsMember z (map f ys)) (sym value.is) (member_of value.element ys there.0 there.1 there.2)

  -- in another order, a list has the values that were there
  pub members-permuted : (xs ys : List A) → IsPermutation xs ys → (x : X) → IsMember x (map f ys) ↔ IsMember x (map f xs)
  members-permuted xs ys moved x = (kept_by_permutation ys xs (IsPermutation-sym xs ys moved) x, kept_by_permutation xs ys moved x)

module _ {A X : Type 0} (cmp : X → X → Ordering) (total : IsTotalOrder cmp) (exact : CmpEqualImpliesEq cmp) (f : A → X) where
  below_of : (x : A) (ys : List A) → AllByRecursion (λ y. on f cmp x y ≡ Less) ys → IsBelowAll cmp (f x) (map f ys)
  below_of x [] h = tt
  below_of x (y ∷ ys) h = (h.0, below_of x ys h.1)

  increasing_of : (ys : List A) → IsStrictlySortedBy (on f cmp) ys → IsIncreasing cmp (map f ys)
  unfolding IsStrictlySortedBy
  increasing_of [] h = tt
  increasing_of (y ∷ ys) h = (below_of y ys h.0, increasing_of ys h.1)

  -- equal neighbours dropped, a list in order is strictly increasing
  pub increasing-dedup : (ys : List A) → IsSorted (on f cmp) ys → IsIncreasing cmp (map f (dedup (eq_by_cmp (on f cmp)) ys))
  increasing-dedup ys up = increasing_of _ (IsStrictlySortedBy-dedup (on_total f total) (λ x y. refl) ys up)

  -- it has the values that were there, in whatever order
  pub members-dedup : (xs ys : List A) → IsPermutation xs ys → (x : X) → IsMember x (map f (dedup (eq_by_cmp (on f cmp)) ys)) ↔ IsMember x (map f xs)
  members-dedup xs ys moved x = (back, kept)
    where
      back : IsMember x (map f (dedup (eq_by_cmp (on f cmp)) ys)) → IsMember x (map f xs)
      back m =
          let value = value_of f x _ m in
          let there = Contains-permutation ys xs value.element (IsPermutation-sym xs ys moved) (Contains-from_dedup (eq_by_cmp (on f cmp)) ys value.element value.of_list) in
          subst (λ z. IsMember z (map f xs)) (sym value.is) (member_of f value.element xs there.0 there.1 there.2)

      kept : IsMember x (map f xs) → IsMember x (map f (dedup (eq_by_cmp (on f cmp)) ys))
      kept m =
          let value = value_of f x xs m in
          let there = Contains-permutation xs ys value.element moved value.of_list in
          let twin = Any-dedup (eq_by_cmp_equiv (on_total f total)) ys value.element there in
          let same : f value.element ≡ f twin.1 = exact _ _ (equal_of (cmp (f value.element) (f twin.1)) twin.4) in
          subst (λ z. IsMember z (map f (dedup (eq_by_cmp (on f cmp)) ys))) (sym (value.is ∙ same)) (member_of f twin.1 _ twin.0 twin.2 twin.3)
