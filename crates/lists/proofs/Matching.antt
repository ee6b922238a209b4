-- Sums over lists whose members are matched one to one are the same.
--   Matched           R matches the members of two lists
--   total             the sum of f over a list, for any sum that commutes
--   total_matched     the sums of f over the one list and of g over the other, where f x is g y for each matched pair
use Rattle.std.proofs.Common.{◌≡◌, ◌⊎◌, inl, inr, List, [], ◌∷◌, ◌++◌, refl, sym, ◌∙◌, ap, ap₂, subst}
use Rattle.lists.specs.Increasing.{IsMember, IsDistinct}
use Rattle.lists.proofs.Distinct.{Parted, parted, member_other, cut_or_other, distinct_others, cut_no_other}

-- R matches the members of xs with those of ys one to one
pub record Matched {X Y : Type 0} (R : X → Y → Type 0) (xs : List X) (ys : List Y) : Type 0 where
  pub right : (x : X) → IsMember x xs → (y : Y) × (IsMember y ys × R x y)
  pub left : (y : Y) → IsMember y ys → (x : X) × (IsMember x xs × R x y)
  pub one_right : (x : X) (y z : Y) → R x y → R x z → y ≡ z
  pub one_left : (x w : X) (y : Y) → R x y → R w y → x ≡ w

-- a sum in any order
pub record IsSum {S : Type 0} (plus : S → S → S) : Type 0 where
  pub comm : (a b : S) → plus a b ≡ plus b a
  pub assoc : (a b c : S) → plus (plus a b) c ≡ plus a (plus b c)

-- the sum of f over a list
abbrev pub total : {S X : Type 0} → (S → S → S) → S → (X → S) → List X → S
total plus zero f [] = zero
total plus zero f (x ∷ xs) = plus (f x) (total plus zero f xs)

-- a member is added first or in its place
pub total_mid : {S X : Type 0} (plus : S → S → S) (zero : S) (law : IsSum plus) (f : X → S) (x : X) (fs bs : List X) → total plus zero f (fs ++ (x ∷ bs)) ≡ plus (f x) (total plus zero f (fs ++ bs))
total_mid plus zero law f x [] bs = refl
total_mid plus zero law f x (y ∷ fs) bs =
    ap (λ w. plus (f y) w) (total_mid plus zero law f x fs bs) ∙ (sym (law.assoc (f y) (f x) _) ∙ (ap (λ w. plus w (total plus zero f (fs ++ bs))) (law.comm (f y) (f x)) ∙ law.assoc (f x) (f y) _))

-- x and y taken out of both lists
matched_rest : {X Y : Type 0} (R : X → Y → Type 0) (x : X) (xs : List X) (y : Y) (fs bs : List Y) → R x y → (IsMember x xs → ⊥) → IsDistinct (fs ++ (y ∷ bs)) → Matched R (x ∷ xs) (fs ++ (y ∷ bs)) → Matched R xs (fs ++ bs)
matched_rest {X} {Y} R x xs y fs bs r new d m = record {
  right = λ w h. (let k = m.right w (inr h) in go_right w h k.0 k.1.1 (cut_or_other k.0 y fs bs k.1.0));
  left = λ z h. (let k = m.left z (member_other z y fs bs h) in go_left z h k.0 k.1.1 k.1.0);
  one_right = m.one_right;
  one_left = m.one_left;
}
  where
    go_right : (w : X) → IsMember w xs → (z : Y) → R w z → (z ≡ y) ⊎ IsMember z (fs ++ bs) → (z : Y) × (IsMember z (fs ++ bs) × R w z)
    go_right w h z s (inl e) =
        absurd (new (subst (λ v. IsMember v xs) (m.one_left w x y (subst (λ v. R w v) e s) r) h))
    go_right w h z s (inr k) = (z, (k, s))

    go_left : (z : Y) → IsMember z (fs ++ bs) → (w : X) → R w z → (w ≡ x) ⊎ IsMember w xs → (w : X) × (IsMember w xs × R w z)
    go_left z h w s (inl e) =
        absurd (cut_no_other y fs bs d (subst (λ v. IsMember v (fs ++ bs)) (m.one_right x z y (subst (λ v. R v z) e s) r) h))
    go_left z h w s (inr k) = (w, (k, s))

-- sums over matched lists agree
pub total_matched : {S X Y : Type 0} (plus : S → S → S) (zero : S) (law : IsSum plus) (R : X → Y → Type 0) (f : X → S) (g : Y → S) → ((x : X) (y : Y) → R x y → f x ≡ g y) → (xs : List X) (ys : List Y) → IsDistinct xs → IsDistinct ys → Matched R xs ys → total plus zero f xs ≡ total plus zero g ys
total_matched plus zero law R f g same [] [] dx dy m = refl
total_matched plus zero law R f g same [] (y ∷ ys) dx dy m = absurd (m.left y (inl refl)).1.0
total_matched {S} {X} {Y} plus zero law R f g same (x ∷ xs) ys dx dy m =
    let k = m.right x (inl refl) in
    go k.0 k.1.1 (parted k.0 ys k.1.0) (λ zs. total_matched plus zero law R f g same xs zs dx.1)
  where
    go : (y : Y) → R x y → Parted y ys → ((zs : List Y) → IsDistinct zs → Matched R xs zs → total plus zero f xs ≡ total plus zero g zs) → total plus zero f (x ∷ xs) ≡ total plus zero g ys
    go y r a rec =
        let d : IsDistinct (a.front ++ (y ∷ a.back)) = subst (λ w. IsDistinct w) a.is dy in
        let n : Matched R (x ∷ xs) (a.front ++ (y ∷ a.back)) = subst (λ w. Matched R (x ∷ xs) w) a.is m in
        let rest : total plus zero f xs ≡ total plus zero g (a.front ++ a.back) =
        rec (a.front ++ a.back) (distinct_others y a.front a.back d) (matched_rest R x xs y a.front a.back r dx.0 d n) in
        ap₂ plus (same x y r) rest ∙ (sym (total_mid plus zero law g y a.front a.back) ∙ ap (λ w. total plus zero g w) (sym a.is))
