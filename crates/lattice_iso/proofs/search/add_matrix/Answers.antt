use Rattle.std.proofs.Common.{◌≡◌, ◌∙◌, ap, rules}
use Rattle.lists.specs.Increasing.{inserted}
use Rattle.crystal_spec.specs.Matrices.{Matrix}
use Rattle.lattice_iso.specs.Isometries.{matrix_order}
use Rattle.lattice_iso.specs.Columns.{scalar_product}
use Rattle.lattice_iso.proofs.ByColumns.{matrix_added}
use Rattle.lattice_iso.proofs.search.add_matrix.Goals as goal

pub returns-in_ok-insert : goal.returns-in_ok-insert
returns-in_ok-insert c =
    let ac : scalar_product c.args.g.now c.args.a.now c.args.c.now ≡ c.args.g.now.a13 = search rules in
    let bc : scalar_product c.args.g.now c.args.b.now c.args.c.now ≡ c.args.g.now.a23 = search rules in
    record { members = matrix_added c.args.g.now c.args.a.now c.args.b.now c.args.c.now c.args.found.now c.insert.new.self ac bc (c.in_ok-insert.ensures.value ∙ ap (λ (w : Matrix). inserted matrix_order w c.args.found.now) c.of_columns.ensures) }
