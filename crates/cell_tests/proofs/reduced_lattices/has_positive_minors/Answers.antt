use Rattle.std.proofs.Common.{ℕ, ◌^◌, sym, subst}
use Rattle.ring.specs.Ring.{int_ops}
use Rattle.ring.specs.Size.{AtMost}
use Rattle.matrix3.specs.Matrices.{EachEntry}
use Rattle.matrix3.specs.Fits.{DeterminantFits}
use Rattle.matrix3.proofs.FitsBySize.{determinant_fits}
use Rattle.crystal_spec.specs.Matrices.{Matrix}
use Rattle.matrix3.specs.Bounds.{EntriesAtMost}
use Rattle.cell_tests.proofs.reduced_lattices.has_positive_minors.Goals as goal

each_of : (n : ℕ) (m : Matrix) → EntriesAtMost n m → EachEntry (AtMost n) m
each_of n m h = record { a11 = h.a11; a12 = h.a12; a13 = h.a13; a21 = h.a21; a22 = h.a22; a23 = h.a23; a31 = h.a31; a32 = h.a32; a33 = h.a33 }

pub handed-requires-clause-fits : goal.handed-requires-clause-fits
handed-requires-clause-fits c = subst (DeterminantFits int_ops (AtMost (10 ^ 36))) (sym c.matrix.ensures) (determinant_fits _ (each_of _ _ c.requires) tt tt)
