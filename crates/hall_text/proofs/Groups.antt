-- The list of all products of operations that products undo is a group, with few matrices of small entries.
--   products_group       it is a group modulo whole translations
--   products_matrices    its matrices are those of the operations that stand for them
--   products_entries     so their entries are not large
use Rattle.std.proofs.Common.{◌≡◌, ◌^◌, ◌≤◌, List, length, sym, ◌∙◌, ap, subst, arith}
use Rattle.ring.specs.Size.{AtMost}
use Rattle.lists.specs.Increasing.{IsMember}
use Rattle.lists.proofs.Members.{mapped_member}
use Rattle.matrix3.specs.Matrices.{EachEntry}
use Rattle.crystal_spec.specs.Matrices.{Matrix}
use Rattle.crystal_spec.specs.Operations.{Operation, IsWithinCell}
use Rattle.op_group.specs.Composition.{identity_operation, IsComposed, IsInverseModulo}
use Rattle.op_group.specs.Groups.{IsGroupModulo}
use Rattle.hall_symbol.specs.Compositions.{then}
use Rattle.hall_symbol.proofs.Compositions.{then_composed, then_assoc, identity_then, then_identity}
use Rattle.hall_text.specs.Products.{IsProduct, matrices_of, IsGroupOf}
use Rattle.op_group.specs.Lists.{HasEntriesAtMost, HasFewMatrices}
use Rattle.hall_text.specs.Splits.{AreRotations, StandForMatrices}
use Rattle.hall_text.proofs.ProductLemmas.{product_within, product_then, identity_product}
use Rattle.hall_text.proofs.Inverses.{undone}
use Rattle.std.proofs.lemmas.List.{length-map}
use Rattle.hall_text.proofs.Closing.{product_reached, powers_up, raised}

-- What undoes b from one side undoes it from the other, where b undoes a from that side: c b = b a = 1 gives c = a.
other_side : (a b c : Operation) → IsWithinCell 12 a.translation → IsWithinCell 12 c.translation → then b a ≡ identity_operation → then c b ≡ identity_operation → then a b ≡ identity_operation
other_side a b c u v e f =
    let same : a ≡ c = sym (identity_then a u) ∙ ap (λ (o : Operation). then o a) (sym f) ∙ sym (then_assoc c b a) ∙ ap (then c) e ∙ then_identity c v in
    ap (λ (o : Operation). then o b) same ∙ f

module _ (gens os : List Operation) (r : AreRotations gens) (g : IsGroupOf gens os) where
  inverse_of : (a : Operation) → IsProduct gens a → (b : Operation) × (IsMember b os × IsInverseModulo 12 a b)
  inverse_of a k =
      let u = undone gens r.inverses a k in
      let v = undone gens r.inverses u.undo u.product in
      let w = product_within gens u.undo u.product in
      let after = other_side a u.undo v.undo (product_within gens a k) (product_within gens v.undo v.product) u.after v.after in (
        u.undo,
        (
          (g.exact u.undo).1 u.product,
          record {
            within = w;
            after = subst (IsComposed 12 a u.undo) after (then_composed a u.undo);
            before = subst (IsComposed 12 u.undo a) u.after (then_composed u.undo a);
          },
        ),
      )

  pub products_group : IsGroupModulo 12 os
  products_group = record {
    within_cell = λ o m. product_within gens o ((g.exact o).0 m);
    identity = (g.exact identity_operation).1 (identity_product gens);
    composed = λ a b m n. (then a b, ((g.exact (then a b)).1 (product_then gens a b ((g.exact a).0 m) ((g.exact b).0 n)), then_composed a b));
    inverses = λ a m. inverse_of a ((g.exact a).0 m);
  }

module _ (gens reps os : List Operation) (c : StandForMatrices gens reps) (g : IsGroupOf gens os) where
  pub products_matrices : HasFewMatrices 48 os
  products_matrices = record {
    matrices = matrices_of reps;
    all = λ o m. (let h = product_reached gens reps c o ((g.exact o).0 m) in subst (λ (w : Matrix). IsMember w (matrices_of reps)) (sym h.matrix) (mapped_member (λ (p : Operation). p.matrix) h.op reps h.member));
    few = omega (arith, length-map reps (λ (p : Operation). p.matrix), c.partial.few);
  }

  pub products_entries : HasEntriesAtMost (10 ^ 23) os
  products_entries o m =
      let h = product_reached gens reps c o ((g.exact o).0 m) in
      subst (EachEntry (AtMost (10 ^ 23))) (sym h.matrix) (raised h.op.matrix small (raised h.op.matrix (powers_up (length reps) 48 c.partial.few) (c.partial.sized h.op h.member)))
    where
      small : 3 ^ 48 ≤ 10 ^ 23
      small = omega arith
