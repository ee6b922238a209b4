-- The sizes of the group of the identity and an operation that undoes itself.
use Rattle.std.proofs.Common.{◌≡◌, sym, ap, subst, ◌∙◌, ◌⊎◌, inl, inr, ℕ, ◌≤◌, List, [], ◌∷◌, arith}
use Rattle.ring.specs.Size.{AtMost}
use Rattle.lists.specs.Increasing.{IsMember, inserted}
use Rattle.lists.proofs.Increasing.{IsMember-inserted}
use Rattle.matrix3.specs.Matrices.{EachEntry}
use Rattle.crystal_spec.specs.Operations.{Operation, compare_of}
use Rattle.crystal_spec.proofs.Ordered.{compare_exact}
use Rattle.op_group.specs.Composition.{identity_operation}
use Rattle.op_group.specs.Lists.{HasEntriesAtMost, HasFewMatrices}
use Rattle.matrix3.proofs.FitsBySize.{entries_grown}

-- the identity and o, in order
abbrev pub pair_list : Operation → List Operation
pair_list o = inserted compare_of o (inserted compare_of identity_operation [])

member_of_two : (o z : Operation) → IsMember z (pair_list o) → (z ≡ o) ⊎ (z ≡ identity_operation)
member_of_two o z m = by ((IsMember-inserted compare_exact o (inserted compare_of identity_operation []) z).0 m)
  where
    by : (z ≡ o) ⊎ IsMember z (inserted compare_of identity_operation []) → (z ≡ o) ⊎ (z ≡ identity_operation)
    by (inl e) = inl e
    by (inr (inl e)) = inr e
    by (inr (inr m)) = absurd m

pub few_of_two : (o : Operation) → HasFewMatrices 48 (pair_list o)
few_of_two o = record {
  matrices = o.matrix ∷ identity_operation.matrix ∷ [];
  all = λ z m. by z (member_of_two o z m);
  few = omega arith;
}
  where
    by : (z : Operation) → (z ≡ o) ⊎ (z ≡ identity_operation) → IsMember z.matrix (o.matrix ∷ identity_operation.matrix ∷ [])
    by z (inl e) = inl (ap (λ (x : Operation). x.matrix) e)
    by z (inr e) = inr (inl (ap (λ (x : Operation). x.matrix) e))

unit_size : EachEntry (AtMost 128) identity_operation.matrix
unit_size = record { a11 = record { size = omega arith }; a12 = record { size = omega arith }; a13 = record { size = omega arith }; a21 = record { size = omega arith }; a22 = record { size = omega arith }; a23 = record { size = omega arith }; a31 = record { size = omega arith }; a32 = record { size = omega arith }; a33 = record { size = omega arith } }

pub entries_of_two : (o : Operation) → EachEntry (AtMost 128) o.matrix → HasEntriesAtMost 128 (pair_list o)
entries_of_two o small z m = by (member_of_two o z m)
  where
    by : (z ≡ o) ⊎ (z ≡ identity_operation) → EachEntry (AtMost 128) z.matrix
    by (inl e) = subst (λ (x : Operation). EachEntry (AtMost 128) x.matrix) (sym e) small
    by (inr e) = subst (λ (x : Operation). EachEntry (AtMost 128) x.matrix) (sym e) unit_size

pub entries_larger : (k : ℕ) (os : List Operation) → 128 ≤ k → HasEntriesAtMost 128 os → HasEntriesAtMost k os
entries_larger k os h small z m = entries_grown h (small z m)

-- what two insertions make
pub two_inserted : (o p : Operation) (empty first second : List Operation) → empty ≡ [] → p ≡ identity_operation → first ≡ inserted compare_of p empty → second ≡ inserted compare_of o first → second ≡ pair_list o
two_inserted o p empty first second e i f g = g ∙ ap (inserted compare_of o) (f ∙ ap (inserted compare_of p) e ∙ ap (λ (x : Operation). inserted compare_of x []) i)
