use Rattle.std.proofs.Common.{◌≡◌, ℕ, ◌⊎◌, List, subst, sym, arith, rules}
use Rattle.std.specs.Prelude.{◌↔◌, ◌+◌, IsTrue}
use Rattle.lists.specs.Increasing.{IsMember}
use Rattle.lists.specs.Any.{AnyBelow}
use Rattle.lists.proofs.Any.{more_below, same_below}
use Rattle.crystal_spec.specs.Matrices.{Triple}
use Rattle.crystal_spec.specs.Operations.{Operation}
use Rattle.lattice_iso.specs.Columns.{candidate}
use Rattle.crystal_compare.specs.Search.{IsMapOfTwo}
use Rattle.crystal_compare.proofs.Finding.{not_second_column}
use Rattle.crystal_compare.proofs.search.add_of_one.Goals as goal
use Rattle.crystal_compare.proofs.search.add_of_one.Goals.{then-is_second_column+in_ok-add_of_two, else-is_second_column}

pub loop-number-preserved : goal.loop-number-preserved
loop-number-preserved c o =
    let one = c.args.one.now in
    let s = c.args.other.now in
    let a = c.args.a.now in
    let k = c.loop-number.number in
    let P = λ (i : ℕ). IsMapOfTwo one s a (candidate i) o in
    let is = c.candidate-b.ensures.value in
    elim c.if-is_second_column.branch [
      | then-is_second_column+in_ok-add_of_two v ↦
          subst (λ (l : List Operation). IsMember o l ↔ (AnyBelow (k + 1) P ⊎ IsMember o c.args.found.now)) (sym v.found-is)
          (more_below P k _ _ _ (c.loop-number.invariant o) (subst (λ (x : Triple). IsMember o v.add_of_two.new.found ↔ (IsMapOfTwo one s a x o ⊎ IsMember o c.loop-number.found)) is (v.in_ok-add_of_two.ensures.members o)))
      | else-is_second_column v ↦
          let no : IsTrue c.is_second_column.result → ⊥ = search rules in
          subst (λ (l : List Operation). IsMember o l ↔ (AnyBelow (k + 1) P ⊎ IsMember o c.args.found.now)) (sym v.found-is)
          (same_below P k _ _ (not_second_column one s c.args.metrics.now.one c.args.metrics.now.other a (candidate k) c.candidate-b.result o c.requires.metrics is (λ h. no (c.is_second_column.ensures.1 h))) (c.loop-number.invariant o))
    ]

pub returns : goal.returns
returns c =
    let ended : c.loop-number.number ≡ 27 = omega arith in
    record {
      members = λ o. subst (λ (n : ℕ). IsMember o c.loop-number.found ↔ (AnyBelow n (λ (k : ℕ). IsMapOfTwo c.args.one.now c.args.other.now c.args.a.now (candidate k) o) ⊎ IsMember o c.args.found.now)) ended (c.loop-number.invariant o);
    }
