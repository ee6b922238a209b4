use Rattle.std.proofs.Common.{◌≡◌, ℕ, ◌⊎◌, List, subst, sym, ap, arith, rules}
use Rattle.std.specs.Prelude.{◌↔◌, ◌+◌, IsTrue}
use Rattle.lists.specs.Increasing.{IsMember}
use Rattle.lists.specs.Any.{AnyBelow}
use Rattle.lists.proofs.Any.{more_below, same_below}
use Rattle.crystal_spec.specs.Operations.{Operation}
use Rattle.lattice_iso.specs.Columns.{candidate}
use Rattle.matrix3.specs.Matrices.{of_columns}
use Rattle.crystal_compare.specs.Search.{IsMapBy}
use Rattle.crystal_compare.proofs.Finding.{by_matrix, not_third_column}
use Rattle.crystal_compare.proofs.search.add_of_two.Goals as goal
use Rattle.crystal_compare.proofs.search.add_of_two.Goals.{then-is_third_column+in_ok-add_of_columns, else-is_third_column}

pub loop-number-preserved : goal.loop-number-preserved
loop-number-preserved c o =
    let one = c.args.one.now in
    let s = c.args.other.now in
    let a = c.args.a.now in
    let b = c.args.b.now in
    let k = c.loop-number.number in
    let P = λ (i : ℕ). IsMapBy one s (of_columns a b (candidate i)) o in
    let is = c.candidate-c.ensures.value in
    elim c.if-is_third_column.branch [
      | then-is_third_column+in_ok-add_of_columns v ↦
          subst (λ (l : List Operation). IsMember o l ↔ (AnyBelow (k + 1) P ⊎ IsMember o c.args.found.now)) (sym v.found-is)
          (more_below P k _ _ _ (c.loop-number.invariant o) (by_matrix one s (of_columns a b c.candidate-c.result) (of_columns a b (candidate k)) o _ _ (ap (of_columns a b) is) (v.in_ok-add_of_columns.ensures.members o)))
      | else-is_third_column v ↦
          let no : IsTrue c.is_third_column.result → ⊥ = search rules in
          subst (λ (l : List Operation). IsMember o l ↔ (AnyBelow (k + 1) P ⊎ IsMember o c.args.found.now)) (sym v.found-is)
          (same_below P k _ _ (not_third_column one s c.args.metrics.now.one c.args.metrics.now.other a b (candidate k) c.candidate-c.result o c.requires.metrics is (λ h. no (c.is_third_column.ensures.1 h))) (c.loop-number.invariant o))
    ]

pub returns : goal.returns
returns c =
    let ended : c.loop-number.number ≡ 27 = omega arith in
    record {
      members = λ o. subst (λ (n : ℕ). IsMember o c.loop-number.found ↔ (AnyBelow n (λ (k : ℕ). IsMapBy c.args.one.now c.args.other.now (of_columns c.args.a.now c.args.b.now (candidate k)) o) ⊎ IsMember o c.args.found.now)) ended (c.loop-number.invariant o);
    }
