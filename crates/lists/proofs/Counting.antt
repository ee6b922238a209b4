-- Counting: how many members a list without repeats has.
--
-- A one-to-one relation from a list without repeats into one that is no longer reaches each member of it, and there is none
-- into a shorter one. So a list without repeats is no longer than one that has all its members. It has n members where some
-- numbers of the members, no two the same, are exactly those below n; and a · b · c where three digits of the members are.
--   Into, covered, into_le      one-to-one relations
--   length_le                   lists with all members of another
--   below_or                    a number below the next one
--   length_by_numbers, few_by_numbers, length_by_digits     numbers and digits of members
use Rattle.std.proofs.Common.{◌≡◌, ℕ, ◌+◌, ◌*◌, ◌/◌, ◌%◌, ◌<◌, ◌≤◌, zero, suc, ◌⊎◌, inl, inr, List, [], ◌∷◌, ◌++◌, map, length, refl, sym, ◌∙◌, ap, subst, arith, mul-le-mul, mod-lt}
use Rattle.std.proofs.Math.Nat.{div-lt_iff_lt-mul}
use Rattle.std.proofs.lemmas.List.{length-map}
use Rattle.std.proofs.lemmas.Nat.{div-add-mod', div-mul-add}
use Rattle.lists.specs.Increasing.{IsMember, IsDistinct}
use Rattle.lists.proofs.Members.{MappedFrom, mapped_from, mapped_member}
use Rattle.lists.proofs.Distinct.{Parted, parted, cut_or_other, IsDistinct-mapped}

-- ---- one-to-one relations

-- each member of xs has one in ys, and two of xs have two
pub record Into {X Y : Type 0} (R : X → Y → Type 0) (xs : List X) (ys : List Y) : Type 0 where
  pub right : (x : X) → IsMember x xs → (y : Y) × (IsMember y ys × R x y)
  pub one_left : (x w : X) (y : Y) → IsMember x xs → IsMember w xs → R x y → R w y → x ≡ w

into_rest : {X Y : Type 0} (R : X → Y → Type 0) (x : X) (xs : List X) (y : Y) (fs bs : List Y) → R x y → (IsMember x xs → ⊥) → Into R (x ∷ xs) (fs ++ (y ∷ bs)) → Into R xs (fs ++ bs)
into_rest {X} {Y} R x xs y fs bs r new m = record {
  right = λ w h. (let k = m.right w (inr h) in go w h k.0 k.1.1 (cut_or_other k.0 y fs bs k.1.0));
  one_left = λ v w z hv hw. m.one_left v w z (inr hv) (inr hw);
}
  where
    go : (w : X) → IsMember w xs → (z : Y) → R w z → (z ≡ y) ⊎ IsMember z (fs ++ bs) → (z : Y) × (IsMember z (fs ++ bs) × R w z)
    go w h z s (inl e) =
        absurd (new (subst (λ v. IsMember v xs) (m.one_left w x y (inr h) (inl refl) (subst (λ v. R w v) e s) r) h))
    go w h z s (inr k) = (z, (k, s))

length_cut : {Y : Type 0} (y : Y) (fs bs : List Y) → length (fs ++ (y ∷ bs)) ≡ suc (length (fs ++ bs))
length_cut y [] bs = refl
length_cut y (f ∷ fs) bs = ap (λ (n : ℕ). suc n) (length_cut y fs bs)

-- each member of a list that is no longer is reached
pub covered : {X Y : Type 0} (R : X → Y → Type 0) (xs : List X) (ys : List Y) → IsDistinct xs → length ys ≤ length xs → Into R xs ys → (y : Y) → IsMember y ys → (x : X) × (IsMember x xs × R x y)
covered R [] [] d l m y h = absurd h
covered R [] (z ∷ ys) d l m y h = absurd (omega (arith, l))
covered {X} {Y} R (x ∷ xs) ys d l m y h =
    let k = m.right x (inl refl) in
    go k.0 k.1.1 (parted k.0 ys k.1.0) (λ zs le n. covered R xs zs d.1 le n y)
  where
    go : (v : Y) → R x v → Parted v ys → ((zs : List Y) → length zs ≤ length xs → Into R xs zs → IsMember y zs → (x : X) × (IsMember x xs × R x y)) → (w : X) × (IsMember w (x ∷ xs) × R w y)
    go v r a rec =
        let e : length ys ≡ suc (length (a.front ++ a.back)) = ap length a.is ∙ length_cut v a.front a.back in
        by (cut_or_other y v a.front a.back (subst (λ w. IsMember y w) a.is h)) (rec (a.front ++ a.back) (omega (arith, l, e)) (into_rest R x xs v a.front a.back r d.0 (subst (λ w. Into R (x ∷ xs) w) a.is m)))
      where
        by : (y ≡ v) ⊎ IsMember y (a.front ++ a.back) → (IsMember y (a.front ++ a.back) → (x : X) × (IsMember x xs × R x y)) → (w : X) × (IsMember w (x ∷ xs) × R w y)
        by (inl e) rest = (x, (inl refl, subst (λ w. R x w) (sym e) r))
        by (inr k) rest = (let w = rest k in (w.0, (inr w.1.0, w.1.1)))

-- a shorter list has no room
pub into_le : {X Y : Type 0} (R : X → Y → Type 0) (xs : List X) (ys : List Y) → IsDistinct xs → Into R xs ys → length xs ≤ length ys
into_le R [] ys d m = omega arith
into_le {X} {Y} R (x ∷ xs) ys d m =
    let k = m.right x (inl refl) in
    go k.0 k.1.1 (parted k.0 ys k.1.0) (λ zs. into_le R xs zs d.1)
  where
    go : (y : Y) → R x y → Parted y ys → ((zs : List Y) → Into R xs zs → length xs ≤ length zs) → length (x ∷ xs) ≤ length ys
    go y r a rec =
        let le : length xs ≤ length (a.front ++ a.back) = rec (a.front ++ a.back) (into_rest R x xs y a.front a.back r d.0 (subst (λ w. Into R (x ∷ xs) w) a.is m)) in
        let e : length ys ≡ suc (length (a.front ++ a.back)) = ap length a.is ∙ length_cut y a.front a.back in
        omega (arith, le, e)

-- a list that holds each once is no longer than one that has all its members
pub length_le : {X : Type 0} (xs ys : List X) → IsDistinct xs → ((z : X) → IsMember z xs → IsMember z ys) → length xs ≤ length ys
length_le xs ys once all = into_le (λ x y. x ≡ y) xs ys once (record { right = λ x m. (x, (all x m, refl)); one_left = λ x w y m n e f. e ∙ sym f })

-- ---- the numbers below n

-- in falling order
below : ℕ → List ℕ
below zero = []
below (suc n) = n ∷ below n

-- a number below the next one is below this one or is it
pub below_or : (k n : ℕ) → k < n + 1 → (k < n) ⊎ (k ≡ n)
below_or k n h = grind arith

-- its members are below n
below_member : (k n : ℕ) → IsMember k (below n) → k < n
unfolding below
below_member k zero m = absurd m
below_member k (suc n) (inl e) = omega arith
below_member k (suc n) (inr m) = let h = below_member k n m in omega arith

-- and all of these are members
member_below : (k n : ℕ) → k < n → IsMember k (below n)
unfolding below
member_below k zero h = absurd (omega arith)
member_below k (suc n) h = by (member_below k n) (below_or k n (omega arith))
  where
    by : (k < n → IsMember k (below n)) → (k < n) ⊎ (k ≡ n) → (k ≡ n) ⊎ IsMember k (below n)
    by rec (inl l) = inr (rec l)
    by rec (inr e) = inl e

below_once : (n : ℕ) → IsDistinct (below n)
unfolding below
below_once zero = tt
below_once (suc n) = ((λ m. let h = below_member n n m in absurd (omega arith)), below_once n)

-- there are n of them
length_below : (n : ℕ) → length (below n) ≡ n
unfolding below
length_below zero = refl
length_below (suc n) = ap suc (length_below n)

-- ---- numbers of members

-- a list without repeats whose members have different numbers below n has at most n members
pub few_by_numbers : {X : Type 0} (f : X → ℕ) (n : ℕ) (xs : List X) → IsDistinct xs → ((x : X) → IsMember x xs → f x < n) → ((x y : X) → IsMember x xs → IsMember y xs → f x ≡ f y → x ≡ y) → length xs ≤ n
few_by_numbers {X} f n xs once small one =
    let p : length (map f xs) ≤ length (below n) = length_le (map f xs) (below n) (IsDistinct-mapped f xs once one) there in
    let e = length_below n in
    let m = length-map xs f in
    omega (arith, p, e, m)
  where
    there : (k : ℕ) → IsMember k (map f xs) → IsMember k (below n)
    there k m = let r = mapped_from f k xs m in member_below k n (subst (λ (i : ℕ). i < n) (sym r.is) (small r.item r.of_list))

-- a list whose members have exactly the numbers below n, each of them one member, has n members
pub length_by_numbers : {X : Type 0} (f : X → ℕ) (n : ℕ) (xs : List X) → IsDistinct xs → ((x : X) → IsMember x xs → f x < n) → ((x y : X) → IsMember x xs → IsMember y xs → f x ≡ f y → x ≡ y) →
    ((k : ℕ) → k < n → MappedFrom f k xs) → length xs ≡ n
length_by_numbers {X} f n xs once small one all =
    let up = few_by_numbers f n xs once small one in
    let down : length (below n) ≤ length (map f xs) = length_le (below n) (map f xs) (below_once n) here in
    let e = length_below n in
    let m = length-map xs f in
    omega (arith, up, down, e, m)
  where
    here : (k : ℕ) → IsMember k (below n) → IsMember k (map f xs)
    here k m = let r = all k (below_member k n m) in subst (λ (i : ℕ). IsMember i (map f xs)) (sym r.is) (mapped_member f r.item xs r.of_list)

-- ---- three digits
-- two digits are a number below the product
pub mixed : (a b i j : ℕ) → i < a → j < b → i * b + j < a * b
mixed a b i j h k = let p : suc i * b ≤ a * b = mul-le-mul (omega arith) (omega arith) in omega arith

record SameDigits (i j i' j' : ℕ) : Type 0 where
  high : i ≡ i'
  low : j ≡ j'

digits_same : (b i j i' j' : ℕ) → j < b → j' < b → i * b + j ≡ i' * b + j' → SameDigits i j i' j'
digits_same b i j i' j' h k e =
    let p : i ≡ i' = sym (div-mul-add i b j h) ∙ ap (λ n. n / b) e ∙ div-mul-add i' b j' k in
    let q = ap (λ n. n * b) p in
    record { high = p; low = omega arith }

-- a member with these three digits
pub record WithDigits {X : Type 0} (f g h : X → ℕ) (i j k : ℕ) (xs : List X) : Type 0 where
  pub item : X
  pub of_list : IsMember item xs
  pub f_is : i ≡ f item
  pub g_is : j ≡ g item
  pub h_is : k ≡ h item

-- a list without repeats whose members have three digits, each three of them one member, has a · b · c members
pub length_by_digits : {X : Type 0} (f g h : X → ℕ) (a b c : ℕ) (xs : List X) → IsDistinct xs →
    ((x : X) → IsMember x xs → (f x < a) × ((g x < b) × (h x < c))) →
    ((x y : X) → IsMember x xs → IsMember y xs → f x ≡ f y → g x ≡ g y → h x ≡ h y → x ≡ y) →
    ((i j k : ℕ) → i < a → j < b → k < c → WithDigits f g h i j k xs) → length xs ≡ a * b * c
length_by_digits {X} f g h a b c xs once small one all = length_by_numbers (λ x. (f x * b + g x) * c + h x) (a * b * c) xs once
    (λ x m. let s = small x m in mixed (a * b) c (f x * b + g x) (h x) (mixed a b (f x) (g x) s.0 s.1.0) s.1.1)
    (λ x y m n e. let s = small x m in let t = small y n in
    let p = digits_same c (f x * b + g x) (h x) (f y * b + g y) (h y) s.1.1 t.1.1 e in
    let q = digits_same b (f x) (g x) (f y) (g y) s.1.0 t.1.0 p.high in
    one x y m n q.high q.low p.low)
    found
  where
    nonzero : (m n k : ℕ) → k < m * n → 0 < n
    nonzero m zero k l = absurd (omega arith)
    nonzero m (suc n) k l = omega arith

    found : (k : ℕ) → k < a * b * c → MappedFrom (λ x. (f x * b + g x) * c + h x) k xs
    found k l =
        let pc = nonzero (a * b) c k l in
        let u : k / c < a * b = (div-lt_iff_lt-mul pc).1 l in
        let pb = nonzero a b (k / c) u in
        let v : k / c / b < a = (div-lt_iff_lt-mul pb).1 u in
        let r = all (k / c / b) (k / c % b) (k % c) v (mod-lt (k / c) pb) (mod-lt k pc) in
        record {
          item = r.item;
          of_list = r.of_list;
          is = sym (div-add-mod' k c) ∙ (λ i. (ap (λ n. n) (sym (div-add-mod' (k / c) b)) i) * c + r.h_is i) ∙ (λ i. (r.f_is i * b + r.g_is i) * c + h r.item);
        }
