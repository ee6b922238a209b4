use Rattle.std.proofs.Common.{◌≡◌, ℕ, ◌⊎◌, List, subst, sym, arith, rules}
use Rattle.std.specs.Prelude.{◌↔◌, ◌+◌, IsTrue}
use Rattle.lists.specs.Increasing.{IsMember}
use Rattle.lists.specs.Any.{AnyBelow}
use Rattle.lists.proofs.Members.{member_at}
use Rattle.lists.proofs.Any.{alone_more, alone_same}
use Rattle.crystal_spec.specs.Matrices.{Triple}
use Rattle.crystal_spec.specs.Crystals.{Structure}
use Rattle.crystal_spec.specs.Operations.{Operation}
use Rattle.crystal.specs.Views.{atom_of}
use Rattle.lattice_iso.specs.Columns.{candidate}
use Rattle.crystal_compare.specs.Search.{AreMetricsOf, IsMapOfOne}
use Rattle.crystal_compare.proofs.Finding.{not_first_column}
use Rattle.crystal_compare.proofs.search.all_of_kind.Goals as goal
use Rattle.crystal_compare.proofs.search.all_of_kind.Goals.{then-is_first_column+in_ok-add_of_one, else-is_first_column}

pub add_of_one-requires-clause-of_cell : goal.add_of_one-requires-clause-of_cell
add_of_one-requires-clause-of_cell c = member_at c.args.one.now.atoms c.rarest.result (atom_of c.atom-from.result.now) c.atom-from.ensures.value

pub loop-number-preserved : goal.loop-number-preserved
loop-number-preserved c o =
    let one = c.args.one.now in
    let s = c.args.other.now in
    let k = c.loop-number.number in
    let P = λ (i : ℕ). IsMapOfOne one s (candidate i) o in
    let m = c.metrics_of-metrics.result in
    let metrics : AreMetricsOf one s m.one m.other = subst (λ (t : Structure). AreMetricsOf one t m.one m.other) c.cell.ensures c.metrics_of-metrics.ensures in
    let is = c.candidate-a.ensures.value in
    elim c.if-is_first_column.branch [
      | then-is_first_column+in_ok-add_of_one v ↦
          subst (λ (l : List Operation). IsMember o l ↔ AnyBelow (k + 1) P) (sym v.found-is)
          (alone_more P k _ _ (c.loop-number.invariant o) (subst (λ (x : Triple). IsMember o v.add_of_one.new.found ↔ (IsMapOfOne one s x o ⊎ IsMember o c.loop-number.found)) is (v.in_ok-add_of_one.ensures.members o)))
      | else-is_first_column v ↦
          let no : IsTrue c.is_first_column.result → ⊥ = search rules in
          subst (λ (l : List Operation). IsMember o l ↔ AnyBelow (k + 1) P) (sym v.found-is)
          (alone_same P k _ (not_first_column one s m.one m.other (candidate k) c.candidate-a.result o metrics is (λ h. no (c.is_first_column.ensures.1 h))) (c.loop-number.invariant o))
    ]

pub returns : goal.returns
returns c o =
    let ended : c.loop-number.number ≡ 27 = omega arith in
    subst (λ (n : ℕ). IsMember o c.loop-number.found ↔ AnyBelow n (λ (k : ℕ). IsMapOfOne c.args.one.now c.args.other.now (candidate k) o)) ended (c.loop-number.invariant o)
