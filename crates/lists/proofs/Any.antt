-- What a loop has found: one more element or number at a time.
--
-- A is what holds now, B or D what held one step before, and C or Old what held before the loop.
--   any_more, any_all, any_mapped      AnyOf: one more element of a list, all of it, and a mapped list
--   only_left                   where nothing was found before
--   more_below, same_below      AnyBelow: the next number, and where the next has nothing
--   alone_more, alone_same      the same where nothing was found before
use Rattle.std.proofs.Common.{◌≡◌, refl, sym, subst, ◌⊎◌, inl, inr, ℕ, ◌+◌, ◌<◌, List, [], ◌∷◌, ◌++◌, take, get_or, map, length, arith}
use Rattle.std.specs.Prelude.{◌↔◌}
use Rattle.lists.specs.Increasing.{IsMember}
use Rattle.lists.specs.Any.{AnyOf, AnyBelow}
use Rattle.lists.proofs.Members.{IsMember-pushed, mapped_member, mapped_from}
use Rattle.lists.proofs.Walks.{take_read, all_taken}
use Rattle.lists.proofs.Counting.{below_or}

-- ---- of the elements of a list

-- the property holds of an element of a list with one more exactly where it holds of that or of an old one
any_pushed : {X : Type 0} (xs : List X) (x : X) (P : X → Type 0) → AnyOf (xs ++ x ∷ []) P ↔ (P x ⊎ AnyOf xs P)
any_pushed {X} xs x P = ((λ a. into a ((IsMember-pushed xs x a.x).0 a.of_list)), back)
  where
    into : (a : AnyOf (xs ++ x ∷ []) P) → (a.x ≡ x) ⊎ IsMember a.x xs → P x ⊎ AnyOf xs P
    into a (inl e) = inl (subst P e a.holds)
    into a (inr m) = inr (record { x = a.x; of_list = m; holds = a.holds })

    back : P x ⊎ AnyOf xs P → AnyOf (xs ++ x ∷ []) P
    back (inl h) = record { x = x; of_list = (IsMember-pushed xs x x).1 (inl refl); holds = h }
    back (inr a) = record { x = a.x; of_list = (IsMember-pushed xs x a.x).1 (inr a.of_list); holds = a.holds }

-- What holds after one more element x of a list, from what that step adds and what held before.
pub any_more : {X A B C : Type 0} (xs : List X) (i : ℕ) (x : X) (P : X → Type 0) → i < length xs → x ≡ get_or xs i x → (A ↔ (P x ⊎ B)) → (B ↔ (AnyOf (take i xs) P ⊎ C)) → A ↔ (AnyOf (take (i + 1) xs) P ⊎ C)
any_more {X} {A} {B} {C} xs i x P below is step before =
    subst (λ (ys : List X). A ↔ (AnyOf ys P ⊎ C)) (sym (take_read xs i x below is))
    ((λ a. into (step.0 a)), (λ h. step.1 (back h)))
  where
    pushed : AnyOf (take i xs ++ x ∷ []) P ↔ (P x ⊎ AnyOf (take i xs) P)
    pushed = any_pushed (take i xs) x P

    into_rest : AnyOf (take i xs) P ⊎ C → AnyOf (take i xs ++ x ∷ []) P ⊎ C
    into_rest (inl a) = inl (pushed.1 (inr a))
    into_rest (inr c) = inr c

    into : P x ⊎ B → AnyOf (take i xs ++ x ∷ []) P ⊎ C
    into (inl h) = inl (pushed.1 (inl h))
    into (inr b) = into_rest (before.0 b)

    back_one : P x ⊎ AnyOf (take i xs) P → P x ⊎ B
    back_one (inl h) = inl h
    back_one (inr a) = inr (before.1 (inl a))

    back : AnyOf (take i xs ++ x ∷ []) P ⊎ C → P x ⊎ B
    back (inl a) = back_one (pushed.0 a)
    back (inr c) = inr (before.1 (inr c))

-- after the last element
pub any_all : {X A C : Type 0} (xs : List X) (i : ℕ) (P : X → Type 0) → i ≡ length xs → (A ↔ (AnyOf (take i xs) P ⊎ C)) → A ↔ (AnyOf xs P ⊎ C)
any_all {X} {A} {C} xs i P ended h = subst (λ (ys : List X). A ↔ (AnyOf ys P ⊎ C)) (all_taken xs i ended) h

-- an element of a mapped list has the property where the element that it comes from has that of its image
pub any_mapped : {X Y : Type 0} (f : X → Y) (xs : List X) (P : Y → Type 0) → AnyOf xs (λ x. P (f x)) ↔ AnyOf (map f xs) P
any_mapped {X} {Y} f xs P = (into, back)
  where
    into : AnyOf xs (λ x. P (f x)) → AnyOf (map f xs) P
    into a = record { x = f a.x; of_list = mapped_member f a.x xs a.of_list; holds = a.holds }

    back : AnyOf (map f xs) P → AnyOf xs (λ x. P (f x))
    back a = let r = mapped_from f a.x xs a.of_list in record { x = r.item; of_list = r.of_list; holds = subst P r.is a.holds }

-- where nothing else was there before
pub only_left : {A B : Type 0} → (A ↔ (B ⊎ ⊥)) → A ↔ B
only_left h = ((λ a. elim (h.0 a) [ inl b ↦ b | inr n ↦ absurd n ]), (λ b. h.1 (inl b)))

-- ---- of the numbers below a bound

later : (P : ℕ → Type 0) (k : ℕ) → AnyBelow k P → AnyBelow (k + 1) P
later P k a = record { number = a.number; below = omega (arith, a.below); holds = a.holds }

-- what has the next number is found too
pub more_below : (P : ℕ → Type 0) (k : ℕ) (A D Old : Type 0) → D ↔ (AnyBelow k P ⊎ Old) → A ↔ (P k ⊎ D) → A ↔ (AnyBelow (k + 1) P ⊎ Old)
more_below P k A D Old old more = ((λ a. forth (more.0 a)), back)
  where
    earlier : AnyBelow k P ⊎ Old → AnyBelow (k + 1) P ⊎ Old
    earlier (inl a) = inl (later P k a)
    earlier (inr d) = inr d

    forth : P k ⊎ D → AnyBelow (k + 1) P ⊎ Old
    forth (inl h) = inl (record { number = k; below = omega arith; holds = h })
    forth (inr d) = earlier (old.0 d)

    by_order : (a : AnyBelow (k + 1) P) → (a.number < k) ⊎ (a.number ≡ k) → A
    by_order a (inl q) = more.1 (inr (old.1 (inl (record { number = a.number; below = q; holds = a.holds }))))
    by_order a (inr e) = more.1 (inl (subst P e a.holds))

    back : AnyBelow (k + 1) P ⊎ Old → A
    back (inl a) = by_order a (below_or a.number k a.below)
    back (inr d) = more.1 (inr (old.1 (inr d)))

-- nothing has the next number
pub same_below : (P : ℕ → Type 0) (k : ℕ) (D Old : Type 0) → (P k → ⊥) → D ↔ (AnyBelow k P ⊎ Old) → D ↔ (AnyBelow (k + 1) P ⊎ Old)
same_below P k D Old none old = more_below P k D D Old old ((λ d. inr d), back)
  where
    back : P k ⊎ D → D
    back (inl h) = absurd (none h)
    back (inr d) = d

-- ---- the same where nothing was found before

or_none : {A B : Type 0} → A ↔ B → A ↔ (B ⊎ ⊥)
or_none h = ((λ a. inl (h.0 a)), (λ s. elim s [ inl b ↦ h.1 b | inr n ↦ absurd n ]))

-- what has the next number is found too
pub alone_more : (P : ℕ → Type 0) (k : ℕ) (A D : Type 0) → D ↔ AnyBelow k P → A ↔ (P k ⊎ D) → A ↔ AnyBelow (k + 1) P
alone_more P k A D old more = only_left (more_below P k A D ⊥ (or_none old) more)

-- nothing has the next number
pub alone_same : (P : ℕ → Type 0) (k : ℕ) (D : Type 0) → (P k → ⊥) → D ↔ AnyBelow k P → D ↔ AnyBelow (k + 1) P
alone_same P k D none old = only_left (same_below P k D ⊥ none (or_none old))
