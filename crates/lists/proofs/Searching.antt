-- Where an element is in an increasing list, and what putting it there makes.
--
-- The list ys holds what the elements are made from: the element at a place is f of it.
use Rattle.std.proofs.Common.{◌≡◌, refl, sym, ap, ◌∙◌, ◌⊎◌, inl, inr, ℕ, zero, suc, ◌<◌, ◌≤◌, List, [], ◌∷◌, map, length, Result, Ok, Err, IfOk, IfErr, arith}
use Rattle.std.specs.Prelude.{slice_index_or, OnOk, OnErr}
use native.Mathlib.Numerals.{unary_clauses}
use Rattle.std.specs.List.{insert}
use Rattle.std.specs.List.Sorted.{IsBinarySearchResult, IsSearchInRange, IsSortedBy}
use Rattle.std.specs.declared.cmp.Ordering.{Ordering}
use Rattle.std.specs.declared.cmp.Ordering.TheVariants.{Less, Greater}
use Rattle.std.specs.Ordering.{is_lt}
use Rattle.std.specs.Cmp.{IsTotalOrder}
use Rattle.std.proofs.lemmas.List.Sorted.{searchable_from_sorted}
use Rattle.std.proofs.lemmas.Map.Lookups.{CmpEqualImpliesEq}
use Rattle.std.proofs.lemmas.Cmp.{tied_itself}
use Rattle.lists.specs.Increasing.{IsIncreasing, IsMember, inserted}
use Rattle.lists.proofs.Increasing.{turned_round, inserted_first, inserted_later}

-- the element at this place is x
pub record IsAt {A X : Type 0} (f : A → X) (x : X) (ys : List A) (at : ℕ) : Type 0 where
  pub in_range : at < length ys
  pub same : (d : A) → x ≡ f (slice_index_or ys at d)

-- x is greater than the elements before this place, and less than those from it on
pub record IsGap {A X : Type 0} (cmp : X → X → Ordering) (f : A → X) (x : X) (ys : List A) (at : ℕ) : Type 0 where
  pub in_range : at ≤ length ys
  pub before : (k : ℕ) (d : A) → k < at → cmp x (f (slice_index_or ys k d)) ≡ Greater
  pub after : (k : ℕ) (d : A) → at ≤ k → k < length ys → cmp x (f (slice_index_or ys k d)) ≡ Less

-- what a binary search in an increasing list tells: a member is found, and what is not found is none and has its place
pub record IsPlacing {A X : Type 0} (cmp : X → X → Ordering) (f : A → X) (ys : List A) (a : A) (r : Result ℕ ℕ) : Type 0 where
  pub found : OnOk r (IsMember (f a) (map f ys))
  pub absent : OnErr r (¬ (IsMember (f a) (map f ys)))
  pub placed : IfErr r (λ at. map f (insert ys at a) ≡ inserted cmp (f a) (map f ys))

-- the rest of a list has the gap one place lower
gap_rest : {A X : Type 0} (cmp : X → X → Ordering) (f : A → X) (x : X) (y : A) (ys : List A) (at : ℕ) → IsGap cmp f x (y ∷ ys) (suc at) → IsGap cmp f x ys at
gap_rest cmp f x y ys at gap = record {
  in_range = omega (arith, gap.in_range);
  before = λ k d below. gap.before (suc k) d (omega arith);
  after = λ k d from below. gap.after (suc k) d (omega arith) (omega arith);
}

module _ {A X : Type 0} (cmp : X → X → Ordering) (total : IsTotalOrder cmp) (f : A → X) where
  -- an element of an increasing list is not less than the one before it
  sorted_from_increasing : (ys : List A) → IsIncreasing cmp (map f ys) → IsSortedBy (λ a b. is_lt (cmp (f a) (f b))) ys
  sorted_from_increasing [] h k d low high = absurd (omega arith)
  sorted_from_increasing (y ∷ []) h k d low high = absurd (omega arith)
  sorted_from_increasing (y ∷ z ∷ ys) h zero d low high = ap is_lt (turned_round total (f y) (f z) Less h.0.0)
  sorted_from_increasing (y ∷ z ∷ ys) h (suc k) d low high =
      let rest = simp unary_clauses at (sorted_from_increasing (z ∷ ys) h.1 k d (omega arith) (omega arith)) in
      simp unary_clauses rest

  -- a binary search ends at the element, or at the gap for it
  pub searched : CmpEqualImpliesEq cmp → (x : X) (ys : List A) (r : Result ℕ ℕ) → IsIncreasing cmp (map f ys) → IsSearchInRange r (length ys) → IsBinarySearchResult (λ a. cmp (f a) x) ys r →
      record { found : IfOk r (IsAt f x ys); absent : IfErr r (IsGap cmp f x ys) }
  searched exact x ys (Ok at) increasing in_range equal = record { found = record { in_range = in_range; same = λ d. sym (exact _ x (equal d)) }; absent = tt }
  searched exact x ys (Err at) increasing in_range parted =
      let parts = parted (searchable_from_sorted total f ys x (sorted_from_increasing ys increasing)) in
      record {
        found = tt;
        absent = record {
          in_range = in_range;
          before = λ k d below. turned_round total _ x Less (parts.0 k d (omega arith) below);
          after = λ k d from below. turned_round total _ x Greater (parts.1 k d from below);
        };
      }

  -- an element of the list is a member
  pub found_member : (x : X) (ys : List A) (at : ℕ) → IsAt f x ys at → IsMember x (map f ys)
  found_member x [] at is_at = absurd (omega (arith, is_at.in_range))
  found_member x (y ∷ ys) zero is_at = inl (is_at.same y)
  found_member x (y ∷ ys) (suc at) is_at = inr (found_member x ys at (record { in_range = omega (arith, is_at.in_range); same = is_at.same }))

  not_equal : (x y : X) → cmp x y ≡ Less ⊎ cmp x y ≡ Greater → x ≡ y → ⊥
  not_equal x y (inl e) same = cc (ap (cmp x) same, tied_itself total x)
  not_equal x y (inr e) same = cc (ap (cmp x) same, tied_itself total x)

  -- an element with a gap is no member
  pub gap_no_member : (x : X) (ys : List A) (at : ℕ) → IsGap cmp f x ys at → IsMember x (map f ys) → ⊥
  gap_no_member x [] at gap m = m
  gap_no_member x (y ∷ ys) zero gap (inl e) = not_equal x (f y) (inl (gap.after 0 y (omega arith) (omega arith))) e
  gap_no_member x (y ∷ ys) zero gap (inr m) = gap_no_member x ys 0 (record { in_range = omega arith; before = λ k d below. absurd (omega arith); after = λ k d from below. gap.after (suc k) d (omega arith) (omega arith) }) m
  gap_no_member x (y ∷ ys) (suc at) gap (inl e) = not_equal x (f y) (inr (gap.before 0 y (omega arith))) e
  gap_no_member x (y ∷ ys) (suc at) gap (inr m) = gap_no_member x ys at (gap_rest cmp f x y ys at gap) m

  -- an element that is put into its gap is put at its place
  pub inserted_gap : (x : A) (ys : List A) (at : ℕ) → IsGap cmp f (f x) ys at → map f (insert ys at x) ≡ inserted cmp (f x) (map f ys)
  inserted_gap x [] zero gap = refl
  inserted_gap x [] (suc at) gap = refl
  inserted_gap x (y ∷ ys) zero gap = sym (inserted_first cmp (f x) (f y) (map f ys) (gap.after 0 y (omega arith) (omega arith)))
  inserted_gap x (y ∷ ys) (suc at) gap = ap (λ zs. f y ∷ zs) (inserted_gap x ys at (gap_rest cmp f (f x) y ys at gap)) ∙ sym (inserted_later cmp (f x) (f y) (map f ys) (gap.before 0 y (omega arith)))

  -- so a binary search tells whether an element is there, and where to put it
  pub placed_by_search : CmpEqualImpliesEq cmp → (ys : List A) (a : A) (r : Result ℕ ℕ) → IsIncreasing cmp (map f ys) → IsSearchInRange r (length ys) → IsBinarySearchResult (λ b. cmp (f b) (f a)) ys r → IsPlacing cmp f ys a r
  placed_by_search exact ys a (Ok at) increasing in_range result = let here = searched exact (f a) ys (Ok at) increasing in_range result in record { found = found_member (f a) ys at here.found; absent = tt; placed = tt }
  placed_by_search exact ys a (Err at) increasing in_range result = let here = searched exact (f a) ys (Err at) increasing in_range result in record { found = tt; absent = gap_no_member (f a) ys at here.absent; placed = inserted_gap a ys at here.absent }
