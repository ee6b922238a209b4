use Rattle.std.proofs.Common.{◌≡◌, ◌∙◌, sym, ap, subst, ℕ, ◌+◌, List, [], ◌∷◌, ◌++◌, rules, arith}
use Rattle.std.specs.Prelude.{◌↔◌}
use Rattle.lists.specs.Increasing.{IsMember}
use Rattle.crystal_spec.specs.Matrices.{Triple}
use Rattle.lattice_iso.specs.Columns.{scalar_product}
use Rattle.lattice_iso.proofs.Candidates.{IsFoundBelow, found_more, found_not, found_all}
use Rattle.lattice_iso.proofs.columns.columns_of_length.Goals.{then-eq+in_ok-push, else-eq}
use Rattle.lattice_iso.proofs.columns.columns_of_length.Goals as goal

pub loop-number-preserved : goal.loop-number-preserved
loop-number-preserved c v =
    let u = c.candidate-column.result in
    let old = c.loop-number.columns.items in
    let P : List Triple → Type 0 = λ l. IsMember v l ↔ IsFoundBelow c.args.g.now c.args.length (c.loop-number.number + 1) v in
    elim c.if-eq.branch [
      | then-eq+in_ok-push w ↦
          let items : c.if-eq.columns.items ≡ old ++ u ∷ [] = search rules in
          let same : scalar_product c.args.g.now u u ≡ c.args.length = search rules in
          subst P (sym items) (found_more c.args.g.now c.args.length c.loop-number.number old c.loop-number.invariant u c.candidate-column.ensures.value same v)
      | else-eq w ↦
          let items : c.if-eq.columns.items ≡ old = search rules in
          let other : scalar_product c.args.g.now u u ≡ c.args.length → ⊥ = search rules in
          subst P (sym items) (found_not c.args.g.now c.args.length c.loop-number.number old c.loop-number.invariant (λ e. other (ap (λ (x : Triple). scalar_product c.args.g.now x x) c.candidate-column.ensures.value ∙ e)) v)
    ]

pub returns : goal.returns
returns c =
    let ended : c.loop-number.number ≡ 27 = omega arith in
    record {
      exact = found_all c.args.g.now c.args.length c.loop-number.columns.items
          (subst (λ (k : ℕ). (v : Triple) → IsMember v c.loop-number.columns.items ↔ IsFoundBelow c.args.g.now c.args.length k v) ended c.loop-number.invariant);
    }
