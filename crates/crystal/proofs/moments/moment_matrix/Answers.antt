use Rattle.std.proofs.Common.{◌≡◌, ap, sym, subst, ◌∙◌, lit≤}
use Rattle.std.specs.Prelude.{ℤ, pos, ◌*ℤ◌}
use Rattle.crystal_spec.specs.declared.MomentKind.{MomentKind}
use Rattle.crystal_spec.specs.declared.Sign.{Sign}
use Rattle.crystal_spec.specs.Matrices.{determinant, matrix_multiple}
use Rattle.crystal_spec.specs.Moments.{axial_factor, moment_matrix}
use Rattle.crystal_spec.specs.Operations.{sign_factor}
use Rattle.crystal_spec.proofs.Isometries.{sign_squared, unit_product}
use Rattle.crystal_spec.proofs.Moments.{axial_factor-unit}
use Rattle.matrix3.specs.Bounds.{EntriesAtMost}
use Rattle.matrix3.proofs.FitsBySize.{entries_grown}
use Rattle.crystal.proofs.Ranges.{turn_entries, unit_entries}
use Rattle.crystal.proofs.moments.moment_matrix.Goals as goal

unit_factor : (s : Sign) (kind : MomentKind) (h f : ℤ) → h *ℤ h ≡ pos 1 → f ≡ sign_factor s *ℤ axial_factor kind h → f *ℤ f ≡ pos 1
unit_factor s kind h f one e = ap (λ (x : ℤ). x *ℤ x) e ∙ unit_product (sign_factor s) (axial_factor kind h) (sign_squared s) (axial_factor-unit kind h one)

pub multiple-requires : goal.multiple-requires
multiple-requires c = record {
  fits = entries_grown (lit≤ tt) (unit_entries 150000000 c.signed_factor-factor.result c.turn_matrix.result
      (unit_factor c.args.sign c.args.kind (determinant c.args.w.now) _ c.requires.isometry c.signed_factor-factor.ensures)
      (subst (EntriesAtMost 150000000) (sym c.turn_matrix.ensures) (turn_entries c.args.kind 150000000 c.args.w.now (lit≤ tt) c.requires.map)));
}

pub returns-clause-value : goal.returns-clause-value
unfolding moment_matrix
returns-clause-value c = c.multiple.ensures ∙ (λ i. matrix_multiple (c.signed_factor-factor.ensures i) (c.turn_matrix.ensures i))

pub returns-clause-size : goal.returns-clause-size
returns-clause-size c =
    subst (EntriesAtMost 150000000) (sym c.multiple.ensures)
    (unit_entries 150000000 c.signed_factor-factor.result c.turn_matrix.result
    (unit_factor c.args.sign c.args.kind (determinant c.args.w.now) _ c.requires.isometry c.signed_factor-factor.ensures)
    (subst (EntriesAtMost 150000000) (sym c.turn_matrix.ensures) (turn_entries c.args.kind 150000000 c.args.w.now (lit≤ tt) c.requires.map)))
