-- The operations of a list that leave a position, while they are gathered.
use Rattle.std.proofs.Common.{◌≡◌, sym, ap, subst, ◌∙◌, ◌⊎◌, inl, inr, List, [], ◌∷◌, ◌++◌, map}
use Rattle.std.specs.Prelude.{◌↔◌}
use Rattle.std.proofs.lemmas.List.{map_push}
use Rattle.lists.specs.Increasing.{IsMember}
use Rattle.lists.specs.Any.{AnyOf}
use Rattle.lists.proofs.Members.{mapped_from, mapped_member, IsMember-pushed}
use Rattle.crystal_spec.specs.Operations.{Operation}
use Rattle.op_group.specs.Views.{operation_of}
use Rattle.op_group.specs.declared.operation.Op.{Op}

-- one operation more, which has the property
pub kept_pushed : (xs ys : List Op) (x : Op) (o : Operation) (P : Operation → Type 0) → ys ≡ xs ++ x ∷ [] → P (operation_of x) → IsMember o (map operation_of ys) ↔ (((o ≡ operation_of x) × P o) ⊎ IsMember o (map operation_of xs))
kept_pushed xs ys x o P grown holds =
    let pushed = IsMember-pushed (map operation_of xs) (operation_of x) o in
    let is : map operation_of ys ≡ map operation_of xs ++ operation_of x ∷ [] = ap (map operation_of) grown ∙ map_push operation_of xs x in
    ((λ m. into (pushed.0 (subst (IsMember o) is m))), (λ h. subst (IsMember o) (sym is) (pushed.1 (back h))))
  where
    into : (o ≡ operation_of x) ⊎ IsMember o (map operation_of xs) → ((o ≡ operation_of x) × P o) ⊎ IsMember o (map operation_of xs)
    into (inl e) = inl (e, subst P (sym e) holds)
    into (inr m) = inr m

    back : ((o ≡ operation_of x) × P o) ⊎ IsMember o (map operation_of xs) → (o ≡ operation_of x) ⊎ IsMember o (map operation_of xs)
    back (inl h) = inl h.0
    back (inr m) = inr m

-- what was gathered from the whole list
pub kept_of_list : (xs : List Op) (os : List Operation) (o : Operation) (F : Type 0) → map operation_of xs ≡ os → AnyOf xs (λ x. (o ≡ operation_of x) × F) ↔ (IsMember o os × F)
kept_of_list xs os o F is = ((λ a. (subst (IsMember o) is (subst (λ (u : Operation). IsMember u (map operation_of xs)) (sym a.holds.0) (mapped_member operation_of a.x xs a.of_list)), a.holds.1)), back)
  where
    back : IsMember o os × F → AnyOf xs (λ x. (o ≡ operation_of x) × F)
    back h = let r = mapped_from operation_of o xs (subst (IsMember o) (sym is) h.0) in record { x = r.item; of_list = r.of_list; holds = (r.is, h.1) }

pub either_way : {A B C : Type 0} → A ↔ B → B ↔ C → A ↔ C
either_way h k = ((λ a. k.0 (h.0 a)), (λ x. h.1 (k.1 x)))
