-- The first map of a symbol's group is as a standard cell asks: its Q = P S has the determinant of S, which is the index of the
-- symbol's pure translations.
use Rattle.std.proofs.Common.{◌≡◌, ℕ, ◌≤◌, ℤ, pos, ◌*ℤ◌, ◌<ℤ◌, ◌≤ℤ◌, List, sym, ap, subst, ◌∙◌, arith, lit≤}
use Rattle.std.proofs.lemmas.Int.{ints}
use Rattle.ring.specs.Size.{AtMost}
use Rattle.ring.proofs.IntRing.{one-*ℤ}
use Rattle.matrix3.specs.Matrices.{EachEntry}
use Rattle.matrix3.proofs.FitsBySize.{product_size, entries_grown}
use Rattle.crystal_spec.specs.Matrices.{Matrix, determinant}
use Rattle.crystal_spec.specs.Operations.{Operation}
use Rattle.crystal_spec.proofs.Isometries.{determinant-product}
use Rattle.basis_spec.specs.StepBases.{InLattice}
use Rattle.basis_spec.proofs.StepLists.{list_lattice}
use Rattle.basis_spec.proofs.StepEntries.{index_found}
use Rattle.op_group.specs.Groups.{IsGroupModulo}
use Rattle.match_spec.specs.Points.{Point}
use Rattle.match_spec.specs.FirstMap.{IsFirstMap}
use Rattle.match_spec.proofs.ListedGroups.{some_cells, closed_of, index_small, step_facts}
use Rattle.group_match.proofs.TaskLemmas.{class_size}
use Rattle.standard_cell.specs.Conditions.{CanTake}

at_least : (d : ℤ) → pos 0 <ℤ d → pos 1 ≤ℤ d
at_least d h = omega (arith, ints)

at_most : (n : ℕ) → n ≤ 1728 → pos n ≤ℤ pos 1728
at_most n h = omega (arith, ints)

pub can_take : (h ms : List Operation) (n : ℕ) (class turn : Matrix) (p : Point) → IsGroupModulo 12 h → IsFirstMap h n ms class turn p → CanTake turn p
can_take h ms n class turn p g k =
    let s = k.is_step in
    let facts = step_facts h k.step g s in
    let some = some_cells 12 h g in
    let index : pos s.index ≡ determinant k.step = index_found 12 (InLattice 12 h) (list_lattice 12 h some (closed_of 12 h g)) some s.index k.step s.fore s.steps in
    let same : determinant turn ≡ determinant k.step = ap determinant k.turn_is ∙ determinant-product class k.step ∙ ap (λ (z : ℤ). z *ℤ determinant k.step) k.first.class.proper ∙ one-*ℤ (determinant k.step) in
    record {
      entries = subst (EachEntry (AtMost 5184)) (sym k.turn_is) (entries_grown (lit≤ tt) (product_size class k.step (class_size class k.first.class) facts.small));
      at_least = subst (λ (z : ℤ). pos 1 ≤ℤ z) (sym same) (at_least (determinant k.step) facts.above);
      at_most = subst (λ (z : ℤ). z ≤ℤ pos 1728) (index ∙ sym same) (at_most s.index (index_small 12 (InLattice 12 h) s.index k.step s.fore s.steps));
      in_cell = k.first.least_origin.in_cell;
    }
