use Rattle.std.proofs.Common.{◌≡◌, ◌⊎◌, ◌++◌, [], ◌∷◌, ℕ, List, length, map, sym, ap, subst, ◌∙◌, rules, arith}
use Rattle.std.specs.Prelude.{◌↔◌}
use Rattle.lists.specs.Increasing.{IsMember}
use Rattle.lists.specs.Any.{AnyOf}
use Rattle.lists.proofs.Any.{any_more}
use Rattle.crystal_spec.specs.Matrices.{Triple, sum_of}
use Rattle.positions.specs.Positions.{modulo, triple_of}
use Rattle.op_group.specs.Lists.{OperationList}
use Rattle.op_group.specs.Views.{operation_of}
use Rattle.op_group.specs.declared.operation.Op.{Op}
use Rattle.mag_ops.proofs.CarriedBack.{value_pushed, sums_of_all}
use Rattle.mag_ops.proofs.carried.shifts_of.Goals as goal

pub loop-pure-preserved : goal.loop-pure-preserved
loop-pure-preserved c t =
    let xs = c.loop-pure.shifts.items in
    let P : Op → Type 0 = λ x. t ≡ modulo c.n-n.result (sum_of c.args.start.now (triple_of x.shift)) in
    let items : c.push.new.self.items ≡ xs ++ c.moved.result ∷ [] = search rules in
    let pushed = subst (λ (s : Triple). IsMember t (map triple_of (xs ++ c.moved.result ∷ [])) ↔ ((t ≡ s) ⊎ IsMember t (map triple_of xs))) c.moved.ensures (value_pushed triple_of xs c.moved.result t) in
    any_more c.ops-pure_translations.result.now c.loop-pure.pure-index c.pure-item.result P (omega arith) c.pure-item.is
    (subst (λ (l : List (List ℕ)). IsMember t (map triple_of l) ↔ (P c.pure-item.result ⊎ IsMember t (map triple_of xs))) (sym items) pushed)
    (c.loop-pure.invariant t)

pub returns : goal.returns
returns c =
    let p = c.args.prim.now in
    let ops = c.ops-pure_translations.result.now in
    let ended : c.loop-pure.pure-index ≡ length ops = omega arith in
    let n : c.n-n.result ≡ p.cell.n = search rules in
    let same : map operation_of ops ≡ p.shifts.operations = c.ops-pure_translations.ensures ∙ ap (λ (l : OperationList). l.operations) c.shifts.ensures in
    subst (λ (m : ℕ). (t : Triple) → IsMember t (map triple_of c.sort_unstable.new.self.items) ↔ AnyOf p.shifts.operations (λ q. t ≡ modulo m (sum_of c.args.start.now q.translation))) n
    (sums_of_all c.n-n.result c.args.start.now ops p.shifts.operations c.loop-pure.shifts.items c.sort_unstable.new.self.items same c.sort_unstable.ensures.permutation c.loop-pure.pure-index ended c.loop-pure.invariant)
