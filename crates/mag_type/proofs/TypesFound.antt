-- The type of a list, from what is found by passes over it: whether each operation has the sign +1, and whether one is
-- (I, t, -1).
use Rattle.std.proofs.Common.{◌≡◌, sym, ap, subst, ◌∙◌, inl, inr, ◌⊎◌, ℕ, ◌+◌, ◌<◌, ◌≤◌, List, [], ◌∷◌, map, drop, length, get_or, true}
use Rattle.std.specs.Prelude.{Bool, false, ◌&&◌}
use Rattle.std.specs.List.{list_all}
use Rattle.std.proofs.lemmas.List.{drop_all}
use Rattle.lists.specs.Increasing.{IsMember}
use Rattle.lists.proofs.Walks.{drop_read}
use Rattle.lists.proofs.Members.{mapped_read}
use Rattle.crystal_spec.specs.declared.Sign.{Sign}
use Rattle.crystal_spec.specs.declared.Sign.TheVariants.{Same, Reversed}
use Rattle.crystal_spec.specs.Matrices.{Triple}
use Rattle.crystal_spec.specs.Operations.{Operation}
use Rattle.op_group.specs.declared.operation.Op.{Op}
use Rattle.op_group.specs.Views.{operation_of}
use Rattle.positions.specs.Positions.{triple_of}
use Rattle.mag_type.specs.MagneticTypes.{anti_translation, HasAntiTranslation, IsTypeOne, IsTypeTwo, IsTypeThree, IsTypeFour}
use Rattle.mag_type.specs.Counting.{is_same}

-- where one is still to come after this operation, or it is one, there is one from here on
later : (o : Operation) (os : List Operation) → (o ≡ anti_translation o.translation → ⊥) → HasAntiTranslation (o ∷ os) → HasAntiTranslation os
later o os other h = by h.of_list
  where
    by : (anti_translation h.translation ≡ o) ⊎ IsMember (anti_translation h.translation) os → HasAntiTranslation os
    by (inl e) = absurd (other (sym e ∙ ap (λ (x : Operation). anti_translation x.translation) e))
    by (inr m) = record { translation = h.translation; of_list = m }

-- where the list has one, it is still to come
abbrev pub IsToCome : List Op → ℕ → Type 0
IsToCome ops i = HasAntiTranslation (map operation_of ops) → HasAntiTranslation (map operation_of (drop i ops))

pub to_come_later : (ops : List Op) (i : ℕ) (o : Op) → i < length ops → o ≡ get_or ops i o → (operation_of o ≡ anti_translation (triple_of o.shift) → ⊥) → IsToCome ops i → IsToCome ops (i + 1)
to_come_later ops i o h is other come has =
    later (operation_of o) (map operation_of (drop (i + 1) ops)) other
    (subst (λ (xs : List Op). HasAntiTranslation (map operation_of xs)) (drop_read ops i o h is) (come has))

pub none_to_come : (ops : List Op) (i : ℕ) → length ops ≤ i → IsToCome ops i → HasAntiTranslation (map operation_of ops) → ⊥
none_to_come ops i h come has = (subst (λ (xs : List Op). HasAntiTranslation (map operation_of xs)) (drop_all i ops h) (come has)).of_list

pub has_item : (ops : List Op) (i : ℕ) (o : Op) → i < length ops → o ≡ get_or ops i o → operation_of o ≡ anti_translation (triple_of o.shift) → HasAntiTranslation (map operation_of ops)
has_item ops i o h is e = record {
  translation = triple_of o.shift;
  of_list = subst (λ (x : Operation). IsMember x (map operation_of ops)) e (mapped_read operation_of ops i o h is);
}

-- ---- time signs

-- whether each operation has the sign +1
abbrev pub all_same : List Op → Bool
all_same ops = list_all (λ (o : Op). is_same o.sign) ops

first_same : (o : Op) (ops : List Op) → all_same (o ∷ ops) ≡ true → o.sign ≡ Same
first_same o ops e = by o.sign e
  where
    by : (s : Sign) → is_same s && all_same ops ≡ true → s ≡ Same
    by Same f = λ i. Same
    by Reversed f = absurd (cc f)

rest_same : (o : Op) (ops : List Op) → all_same (o ∷ ops) ≡ true → all_same ops ≡ true
rest_same o ops e = by o.sign e
  where
    by : (s : Sign) → is_same s && all_same ops ≡ true → all_same ops ≡ true
    by Same f = f
    by Reversed f = absurd (cc f)

-- where it has, none reverses time
pub type_one : (ops : List Op) → all_same ops ≡ true → IsTypeOne (map operation_of ops)
type_one [] e p m = absurd m
type_one (o ∷ ops) e p (inl f) = ap (λ (x : Operation). x.sign) f ∙ first_same o ops e
type_one (o ∷ ops) e p (inr m) = type_one ops (rest_same o ops e) p m

-- an operation that reverses time
record HasReversed (os : List Operation) : Type 0 where
  operation : Operation
  of_list : IsMember operation os
  reverses : operation.sign ≡ Reversed

reversed_one : (ops : List Op) → all_same ops ≡ false → HasReversed (map operation_of ops)
reversed_one [] e = absurd (cc e)
reversed_one (o ∷ ops) e = by o.sign (λ i. o.sign) e (reversed_one ops)
  where
    by : (s : Sign) → o.sign ≡ s → is_same s && all_same ops ≡ false → (all_same ops ≡ false → HasReversed (map operation_of ops)) → HasReversed (operation_of o ∷ map operation_of ops)
    by Reversed f g rest = record { operation = operation_of o; of_list = inl (λ i. operation_of o); reverses = f }
    by Same f g rest = let r = rest g in record { operation = r.operation; of_list = inr r.of_list; reverses = r.reverses }

-- otherwise the type is 3 where none is (I, t, -1)
pub type_three : (ops : List Op) → all_same ops ≡ false → (HasAntiTranslation (map operation_of ops) → ⊥) → IsTypeThree (map operation_of ops)
type_three ops e none = let r = reversed_one ops e in record { operation = r.operation; of_list = r.of_list; reverses = r.reverses; no_anti_translation = none }

-- and 4 where one is, but not (I, 0, -1)
pub type_four : (os : List Operation) → HasAntiTranslation os → (IsTypeTwo os → ⊥) → IsTypeFour os
type_four os h none = record {
  translation = h.translation;
  nonzero = λ e. none (subst (λ (t : Triple). IsMember (anti_translation t) os) e h.of_list);
  of_list = h.of_list;
}
