-- The list of all pairs: h of each element of one list and each of another.
--   pairs                       the list
--   pair_member, pair_of        its members
--   pairs_length                how many there are
--   OneToOne, pairs_distinct    it has no repeats where the lists have none and h is one to one
use Rattle.std.proofs.Common.{◌≡◌, refl, sym, subst, ◌∙◌, ◌⊎◌, inl, inr, ℕ, suc, ◌+◌, ◌*◌, List, [], ◌∷◌, ◌++◌, length, length-append, map, arith}
use Rattle.std.proofs.lemmas.List.{length-map}
use Rattle.lists.specs.Increasing.{IsMember, IsDistinct}
use Rattle.lists.proofs.Members.{member_left, member_right, member_either, mapped_member, mapped_from}
use Rattle.lists.proofs.Distinct.{IsDistinct-mapped, IsDistinct-joined}

-- h of each x and y
pub pairs : {X Y Z : Type 0} → (X → Y → Z) → List X → List Y → List Z
pairs h [] ys = []
pairs h (x ∷ xs) ys = map (h x) ys ++ pairs h xs ys

-- a pair, and its members
pub record PairOf {X Y Z : Type 0} (h : X → Y → Z) (xs : List X) (ys : List Y) (z : Z) : Type 0 where
  pub left : X
  pub right : Y
  pub of_left : IsMember left xs
  pub of_right : IsMember right ys
  pub is : z ≡ h left right

-- each member is a pair
pub pair_of : {X Y Z : Type 0} (h : X → Y → Z) (xs : List X) (ys : List Y) (z : Z) → IsMember z (pairs h xs ys) → PairOf h xs ys z
unfolding pairs
pair_of h [] ys z m = absurd m
pair_of h (x ∷ xs) ys z m = by (member_either z (map (h x) ys) (pairs h xs ys) m) (pair_of h xs ys z)
  where
    by : IsMember z (map (h x) ys) ⊎ IsMember z (pairs h xs ys) → (IsMember z (pairs h xs ys) → PairOf h xs ys z) → PairOf h (x ∷ xs) ys z
    by (inl k) rec = let r = mapped_from (h x) z ys k in record { left = x; right = r.item; of_left = inl refl; of_right = r.of_list; is = r.is }
    by (inr k) rec = let r = rec k in record { left = r.left; right = r.right; of_left = inr r.of_left; of_right = r.of_right; is = r.is }

-- and each pair is a member
pub pair_member : {X Y Z : Type 0} (h : X → Y → Z) (x : X) (y : Y) (xs : List X) (ys : List Y) → IsMember x xs → IsMember y ys → IsMember (h x y) (pairs h xs ys)
unfolding pairs
pair_member h x y [] ys m k = absurd m
pair_member {X} {Y} {Z} h x y (a ∷ xs) ys (inl e) k = member_left (h x y) (map (h a) ys) (pairs h xs ys) (subst (λ (b : X). IsMember (h x y) (map (h b) ys)) e (mapped_member (h x) y ys k))
pair_member h x y (a ∷ xs) ys (inr m) k = member_right (h x y) (map (h a) ys) (pairs h xs ys) (pair_member h x y xs ys m k)

-- as many as the product of the lengths
pub pairs_length : {X Y Z : Type 0} (h : X → Y → Z) (xs : List X) (ys : List Y) → length (pairs h xs ys) ≡ length xs * length ys
unfolding pairs
pairs_length h [] ys = nothing (length ys)
  where
    nothing : (b : ℕ) → 0 ≡ 0 * b
    nothing b = omega arith
pairs_length h (x ∷ xs) ys = length-append (map (h x) ys) (pairs h xs ys) ∙ next (length xs) (length ys) (length (map (h x) ys)) (length (pairs h xs ys)) (length-map ys (h x)) (pairs_length h xs ys)
  where
    next : (a b c d : ℕ) → c ≡ b → d ≡ a * b → c + d ≡ suc a * b
    next a b c d e k = omega (arith, e, k)

-- h is one to one on the members
pub record OneToOne {X Y Z : Type 0} (h : X → Y → Z) (xs : List X) (ys : List Y) : Type 0 where
  pub left : (x x' : X) (y y' : Y) → IsMember x xs → IsMember x' xs → IsMember y ys → IsMember y' ys → h x y ≡ h x' y' → x ≡ x'
  pub right : (x : X) (y y' : Y) → IsMember x xs → IsMember y ys → IsMember y' ys → h x y ≡ h x y' → y ≡ y'

-- then no pair stands twice
pub pairs_distinct : {X Y Z : Type 0} (h : X → Y → Z) (xs : List X) (ys : List Y) → IsDistinct xs → IsDistinct ys → OneToOne h xs ys → IsDistinct (pairs h xs ys)
unfolding pairs
pairs_distinct h [] ys d e one = tt
pairs_distinct {X} {Y} {Z} h (x ∷ xs) ys d e one = IsDistinct-joined (map (h x) ys) (pairs h xs ys)
    (IsDistinct-mapped (h x) ys e (λ a b m k f. one.right x a b (inl refl) m k f))
    (pairs_distinct h xs ys d.1 e (record { left = λ a b u v m n k l f. one.left a b u v (inr m) (inr n) k l f; right = λ a u v m k l f. one.right a u v (inr m) k l f }))
    apart
  where
    apart : (z : Z) → IsMember z (map (h x) ys) → IsMember z (pairs h xs ys) → ⊥
    apart z m k =
        let r = mapped_from (h x) z ys m in
        let q = pair_of h xs ys z k in
        d.0 (subst (λ (a : X). IsMember a xs) (sym (one.left x q.left r.item q.right (inl refl) (inr q.of_left) r.of_list q.of_right (sym r.is ∙ q.is))) q.of_left)
