use Rattle.std.proofs.Common.{◌≡◌, sym, subst, rules, List}
use Rattle.lists.specs.Increasing.{IsIncreasing, inserted}
use Rattle.lists.proofs.Increasing.{IsIncreasing-inserted}
use Rattle.crystal_spec.specs.Matrices.{Matrix}
use Rattle.lattice_iso.specs.Isometries.{matrix_order}
use Rattle.lattice_iso.proofs.MatrixPlaces.{matrix_order_total, matrix_inserted_member}
use Rattle.lattice_iso.proofs.list.Isos.insert.Goals as goal

-- what was put in its place
pub invariant_of-self : goal.invariant_of-self
invariant_of-self c =
    let placed : c.insert.new.self.items ≡ inserted matrix_order c.args.w c.self.inside.items.items = search rules in
    subst (IsIncreasing matrix_order) (sym placed) (IsIncreasing-inserted matrix_order_total c.args.w _ c.self.invariant)

-- it was there
pub returns-in_default-clause-value : goal.returns-in_default-clause-value
returns-in_default-clause-value c =
    let same = matrix_inserted_member c.args.w c.self.inside.items.items c.self.invariant (search rules) in
    subst (λ (l : List Matrix). l ≡ inserted matrix_order c.args.w l) c.self.view_is same
