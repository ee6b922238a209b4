use Rattle.std.proofs.Common.{◌≡◌, ◌⊎◌, ◌<◌, inl, inr, ◌∙◌, ◌+◌, length, sym, ap, subst, map, take, take_all, List, ℕ, get_or, true}
use Rattle.lists.specs.Increasing.{IsMember}
use Rattle.lists.proofs.Members.{mapped_read}
use Rattle.lists.proofs.Walks.{member_taken}
use Rattle.crystal_spec.specs.Matrices.{Matrix}
use Rattle.crystal_spec.specs.Operations.{Operation}
use Rattle.op_group.specs.declared.operation.Op.{Op}
use Rattle.op_group.specs.Views.{operation_of}
use Rattle.hall_text.proofs.matrices.with_matrix.Goals as goal

pub returns-then-is_same_matrix-clause-found : goal.returns-then-is_same_matrix-clause-found
returns-then-is_same_matrix-clause-found c =
    (mapped_read operation_of c.args.list.now c.loop-o.o-index c.o-item.result c.loop-o-test.true c.o-item.is, c.is_same_matrix.ensures.0 c.if-is_same_matrix.true)

absent_next : (list : List Op) (i : ℕ) (x : Op) (w : Matrix) → i < length list → x ≡ get_or list i x → (w ≡ x.w → ⊥) → ((o : Operation) → IsMember o (map operation_of (take i list)) → w ≡ o.matrix → ⊥) → (o : Operation) → IsMember o (map operation_of (take (i + 1) list)) → w ≡ o.matrix → ⊥
absent_next list i x w l e no_x before o m q =
    by (member_taken operation_of list i x o l e m)
  where
    by : (o ≡ operation_of x) ⊎ IsMember o (map operation_of (take i list)) → ⊥
    by (inr k) = before o k q
    by (inl p) = no_x (q ∙ ap (λ (r : Operation). r.matrix) p)

pub loop-o-preserved : goal.loop-o-preserved
loop-o-preserved c =
    absent_next c.args.list.now c.loop-o.o-index c.o-item.result c.args.w.now c.loop-o-test.true c.o-item.is
    (λ e. let h : c.is_same_matrix.result ≡ true = c.is_same_matrix.ensures.1 e in absurd (cc (h, c.if-is_same_matrix.false)))
    c.loop-o.invariant

pub returns-clause-absent : goal.returns-clause-absent
returns-clause-absent c o m = c.loop-o.invariant o (subst (λ (xs : List Op). IsMember o (map operation_of xs)) (sym (take_all c.loop-o.o-index c.args.list.now c.loop-o-test.false)) m)
