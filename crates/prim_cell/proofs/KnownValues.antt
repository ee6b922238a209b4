-- The definitions at a body-centred cube with n = 2, whose index is 2: Q is of the primitive basis (1, 0, -1/2), (0, 1, -1/2),
-- (0, 0, 1/2) of the triangular basis.
use Rattle.std.proofs.Common.{ℤ, pos, negsuc, refl, arith, lit≤, ◌^◌}
use Rattle.std.proofs.lemmas.Int.{ints}
use Rattle.ring.specs.Size.{AtMost}
use Rattle.crystal_spec.specs.Matrices.{Matrix, identity}
use Rattle.positions.specs.Positions.{modulo, triple}
use Rattle.prim_cell.specs.Primitives.{IsImageModulo, ComesFromMetric}

abbrev rows : ℤ → ℤ → ℤ → ℤ → ℤ → ℤ → ℤ → ℤ → ℤ → Matrix
rows a b c d e f g h i = record { a11 = a; a12 = b; a13 = c; a21 = d; a22 = e; a23 = f; a31 = g; a32 = h; a33 = i }

abbrev back : Matrix
back = rows (pos 1) (pos 0) (negsuc 0) (pos 0) (pos 1) (negsuc 0) (pos 0) (pos 0) (pos 2)

-- the atom in the middle comes to whole cells, and so to the origin
middle : IsImageModulo 2 back (triple (pos 0) (pos 0) (pos 0))
unfolding modulo
middle = record { old_position = triple (pos 1) (pos 1) (pos 1); position_is = refl }

-- the metric tensor there, in units of 1/4, comes from the identity
metric : ComesFromMetric 2 back (rows (pos 4) (pos 0) (pos 2) (pos 0) (pos 4) (pos 2) (pos 2) (pos 2) (pos 3))
metric = record {
  old_metric = identity;
  symmetric = refl;
  positive = record { first = omega (arith, ints); second = omega (arith, ints); third = omega (arith, ints) };
  entries = record { a11 = one; a12 = none; a13 = none; a21 = none; a22 = one; a23 = none; a31 = none; a32 = none; a33 = one };
  metric_is = refl;
}
  where
    one : AtMost (10 ^ 9) (pos 1)
    one = record { size = lit≤ tt }

    none : AtMost (10 ^ 9) (pos 0)
    none = record { size = lit≤ tt }
