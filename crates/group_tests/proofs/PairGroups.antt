-- The identity and an operation that undoes itself are a group.
use Rattle.std.proofs.Common.{◌≡◌, sym, ap, subst, ◌⊎◌, inl, inr, ℕ, ◌≤◌, List, []}
use Rattle.std.specs.Prelude.{◌≢◌}
use Rattle.lists.specs.Increasing.{IsMember, inserted}
use Rattle.lists.proofs.Increasing.{IsMember-inserted}
use Rattle.crystal_spec.specs.Matrices.{Triple}
use Rattle.crystal_spec.specs.Operations.{Operation, compare_of, IsWithinCell}
use Rattle.crystal_spec.proofs.Ordered.{compare_exact}
use Rattle.basis_spec.specs.Translations.{pure_translation}
use Rattle.op_group.specs.Composition.{identity_operation, IsComposed, IsInverseModulo}
use Rattle.op_group.specs.Groups.{IsGroupModulo}
use Rattle.op_group.proofs.Composing.{identity_first, identity_next, origin_within}
use Rattle.mag_type.specs.MagneticTypes.{HasOnlyZeroTranslation}

-- the operations of the list are o and the identity
record IsPair (o : Operation) (os : List Operation) : Type 0 where
  member : (z : Operation) → IsMember z os → (z ≡ o) ⊎ (z ≡ identity_operation)
  first : IsMember o os
  second : IsMember identity_operation os

pair_inserted : (o : Operation) → IsPair o (inserted compare_of o (inserted compare_of identity_operation []))
pair_inserted o = record {
  member = λ z m. by z ((IsMember-inserted compare_exact o (inserted compare_of identity_operation []) z).0 m);
  first = (IsMember-inserted compare_exact o (inserted compare_of identity_operation []) o).1 (inl (λ i. o));
  second = (IsMember-inserted compare_exact o (inserted compare_of identity_operation []) identity_operation).1 (inr (inl (λ i. identity_operation)));
}
  where
    by : (z : Operation) → (z ≡ o) ⊎ IsMember z (inserted compare_of identity_operation []) → (z ≡ o) ⊎ (z ≡ identity_operation)
    by z (inl e) = inl e
    by z (inr (inl e)) = inr e
    by z (inr (inr m)) = absurd m

module _ (n : ℕ) (o : Operation) (h : 1 ≤ n) (within : IsWithinCell n o.translation) (twice : IsComposed n o o identity_operation) where
  within_pair : (z : Operation) → (z ≡ o) ⊎ (z ≡ identity_operation) → IsWithinCell n z.translation
  within_pair z (inl e) = subst (λ (x : Operation). IsWithinCell n x.translation) (sym e) within
  within_pair z (inr e) = subst (λ (x : Operation). IsWithinCell n x.translation) (sym e) (origin_within n h)

  composed_of : (os : List Operation) (a b c d r : Operation) → a ≡ c → b ≡ d → IsMember r os → IsComposed n c d r → (q : Operation) × (IsMember q os × IsComposed n a b q)
  composed_of os a b c d r e f m k = (r, (m, subst (λ (x : Operation). IsComposed n x b r) (sym e) (subst (λ (x : Operation). IsComposed n c x r) (sym f) k)))

  composed_pair : (os : List Operation) → IsPair o os → (a b : Operation) → (a ≡ o) ⊎ (a ≡ identity_operation) → (b ≡ o) ⊎ (b ≡ identity_operation) → (r : Operation) × (IsMember r os × IsComposed n a b r)
  composed_pair os p a b (inl e) (inl f) = composed_of os a b o o identity_operation e f p.second twice
  composed_pair os p a b (inl e) (inr f) = composed_of os a b o identity_operation o e f p.first (identity_next n o within)
  composed_pair os p a b (inr e) (inl f) = composed_of os a b identity_operation o o e f p.first (identity_first n o within)
  composed_pair os p a b (inr e) (inr f) = composed_of os a b identity_operation identity_operation identity_operation e f p.second (identity_first n identity_operation (origin_within n h))

  undone_by_itself : (z : Operation) → (z ≡ o) ⊎ (z ≡ identity_operation) → IsInverseModulo n z z
  undone_by_itself z (inl e) = subst (λ (x : Operation). IsInverseModulo n x x) (sym e) (record { within = within; after = twice; before = twice })
  undone_by_itself z (inr e) =
      let i = identity_first n identity_operation (origin_within n h) in
      subst (λ (x : Operation). IsInverseModulo n x x) (sym e) (record { within = origin_within n h; after = i; before = i })

  pair_group : (os : List Operation) → IsPair o os → IsGroupModulo n os
  pair_group os p = record {
    within_cell = λ z m. within_pair z (p.member z m);
    identity = p.second;
    composed = λ a b j k. composed_pair os p a b (p.member a j) (p.member b k);
    inverses = λ a j. (a, (j, undone_by_itself a (p.member a j)));
  }

  -- the two operations, put in order, are a group
  pub group_of_two : IsGroupModulo n (inserted compare_of o (inserted compare_of identity_operation []))
  group_of_two = pair_group (inserted compare_of o (inserted compare_of identity_operation [])) (pair_inserted o)

-- its only pure translation is 0, where the operation is none
pub primitive_of_two : (o : Operation) → ((t : Triple) → pure_translation t ≢ o) → HasOnlyZeroTranslation (inserted compare_of o (inserted compare_of identity_operation []))
primitive_of_two o other t m = by ((pair_inserted o).member (pure_translation t) m)
  where
    by : (pure_translation t ≡ o) ⊎ (pure_translation t ≡ identity_operation) → t ≡ identity_operation.translation
    by (inl e) = absurd (other t e)
    by (inr e) = ap (λ (x : Operation). x.translation) e
