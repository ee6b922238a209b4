use Rattle.std.proofs.Common.{◌^◌, ◌∙◌, pos, sym, subst, ap, lit≤, arith}
use Rattle.std.specs.Prelude.{ℤ}
use Rattle.ring.specs.Size.{AtMost}
use Rattle.crystal_spec.specs.Matrices.{multiple}
use Rattle.matrix3.proofs.FitsBySize.{multiple_size, coordinates_grown}
use Rattle.crystal_compare.proofs.atoms.multiple.Goals as goal

pub multiple-requires : goal.multiple-requires
multiple-requires c =
    let few = c.requires.factor in
    let small : AtMost (10 ^ 6) (pos c.args.k) = record { size = omega (arith, few) } in
    record { fits = coordinates_grown (lit≤ tt) (multiple_size (subst (AtMost (10 ^ 6)) (sym c.from.ensures) small) c.requires.coordinates) }

pub returns : goal.returns
returns c = record { value = c.multiple.ensures ∙ ap (λ (k : ℤ). multiple k c.args.v.now) c.from.ensures }
