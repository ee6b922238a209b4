-- How many things hold. There is one number; it is that of the members of a list of which something holds, one by one from
-- the end; and things that are told by others one to one are as many.
use Rattle.std.proofs.Common.{◌≡◌, ℕ, ◌+◌, ◌≤◌, List, [], ◌∷◌, map, length, refl, sym, subst, ◌∙◌, ◌⊎◌, inl, inr, arith}
use Rattle.std.specs.Prelude.{◌↔◌}
use Rattle.std.proofs.lemmas.List.{length-map}
use Rattle.lists.specs.Increasing.{IsMember}
use Rattle.lists.proofs.Distinct.{IsDistinct-mapped}
use Rattle.lists.proofs.Counting.{length_le}
use Rattle.lists.proofs.Members.{mapped_from, mapped_member}
use Rattle.mag_type.specs.Families.{IsNumberOf}

-- two lists of the same things, each once, are of one length
pub one_number : {X : Type 0} (holds : X → Type 0) (j k : ℕ) → IsNumberOf holds j → IsNumberOf holds k → j ≡ k
one_number holds j k a b =
    let up : length a.all ≤ length b.all = length_le a.all b.all a.once (λ z m. (b.exact z).1 ((a.exact z).0 m)) in
    let down : length b.all ≤ length a.all = length_le b.all a.all b.once (λ z m. (a.exact z).1 ((b.exact z).0 m)) in
    let p = a.count in
    let q = b.count in
    omega arith

-- what holds alike is as many
pub number_same : {X : Type 0} (P Q : X → Type 0) (k : ℕ) → ((x : X) → P x ↔ Q x) → IsNumberOf P k → IsNumberOf Q k
number_same P Q k same n = record {
  all = n.all;
  once = n.once;
  exact = λ x. ((λ m. (same x).0 ((n.exact x).0 m)), (λ h. (n.exact x).1 ((same x).1 h)));
  count = n.count;
}

-- ---- members of a list

-- a member of which it holds
pub record IsAmong {X : Type 0} (holds : X → Type 0) (xs : List X) (x : X) : Type 0 where
  pub of_list : IsMember x xs
  pub it_holds : holds x

-- an empty list has none
pub number_none : {X : Type 0} (holds : X → Type 0) → IsNumberOf (IsAmong holds []) 0
number_none holds = record { all = []; once = tt; exact = λ x. ((λ m. absurd m), (λ h. absurd h.of_list)); count = refl }

one_longer : {X : Type 0} (x : X) (xs : List X) (k : ℕ) → length xs ≡ k → length (x ∷ xs) ≡ k + 1
one_longer x xs k e = omega arith

-- a member more of which it holds
pub number_yes : {X : Type 0} (holds : X → Type 0) (y : X) (ys : List X) (k : ℕ) → (IsMember y ys → ⊥) → holds y → IsNumberOf (IsAmong holds ys) k → IsNumberOf (IsAmong holds (y ∷ ys)) (k + 1)
number_yes {X} holds y ys k new h n = record {
  all = y ∷ n.all;
  once = ((λ m. new ((n.exact y).0 m).of_list), n.once);
  exact = λ x. (forth x, (λ a. back x a.of_list a.it_holds));
  count = one_longer y n.all k n.count;
}
  where
    forth : (x : X) → (x ≡ y) ⊎ IsMember x n.all → IsAmong holds (y ∷ ys) x
    forth x (inl e) = record { of_list = inl e; it_holds = subst holds (sym e) h }
    forth x (inr m) = let a = (n.exact x).0 m in record { of_list = inr a.of_list; it_holds = a.it_holds }

    back : (x : X) → (x ≡ y) ⊎ IsMember x ys → holds x → (x ≡ y) ⊎ IsMember x n.all
    back x (inl e) p = inl e
    back x (inr m) p = inr ((n.exact x).1 (record { of_list = m; it_holds = p }))

-- a member more of which it does not hold
pub number_no : {X : Type 0} (holds : X → Type 0) (y : X) (ys : List X) (k : ℕ) → (holds y → ⊥) → IsNumberOf (IsAmong holds ys) k → IsNumberOf (IsAmong holds (y ∷ ys)) k
number_no {X} holds y ys k other n = number_same (IsAmong holds ys) (IsAmong holds (y ∷ ys)) k (λ x. (forth x, (λ a. back x a.of_list a.it_holds))) n
  where
    forth : (x : X) → IsAmong holds ys x → IsAmong holds (y ∷ ys) x
    forth x a = record { of_list = inr a.of_list; it_holds = a.it_holds }

    back : (x : X) → (x ≡ y) ⊎ IsMember x ys → holds x → IsAmong holds ys x
    back x (inl e) p = absurd (other (subst holds e p))
    back x (inr m) p = record { of_list = m; it_holds = p }

-- ---- one to one

-- x tells y, and P holds of x
pub record IsTold {X Y : Type 0} (f : X → Y) (P : X → Type 0) (y : Y) : Type 0 where
  pub by : X
  pub holds : P by
  pub is : y ≡ f by

-- what is told one to one is as many
pub number_told : {X Y : Type 0} (f : X → Y) (P : X → Type 0) (k : ℕ) → ((x z : X) → P x → P z → f x ≡ f z → x ≡ z) → IsNumberOf P k → IsNumberOf (IsTold f P) k
number_told {X} {Y} f P k one n = record {
  all = map f n.all;
  once = IsDistinct-mapped f n.all n.once (λ x z l m e. one x z ((n.exact x).0 l) ((n.exact z).0 m) e);
  exact = λ y. (forth y, back y);
  count = length-map n.all f ∙ n.count;
}
  where
    forth : (y : Y) → IsMember y (map f n.all) → IsTold f P y
    forth y m = let r = mapped_from f y n.all m in record { by = r.item; holds = (n.exact r.item).0 r.of_list; is = r.is }

    back : (y : Y) → IsTold f P y → IsMember y (map f n.all)
    back y t = subst (λ (z : Y). IsMember z (map f n.all)) (sym t.is) (mapped_member f t.by n.all ((n.exact t.by).1 t.holds))
