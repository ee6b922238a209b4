-- The sizes in the determinant of a metric tensor.
use Rattle.std.proofs.Common.{◌≡◌, zero, suc, ◌*◌, ◌^◌, ℤ, true, arith}
use Rattle.std.specs.Prelude.{pos, negsuc, int_lt, ◌<ℤ◌}
use Rattle.std.proofs.lemmas.Bool.{and_parts}
use Rattle.std.proofs.lemmas.Int.{ints}
use Rattle.crystal_spec.specs.Matrices.{determinant}
use Rattle.crystal_spec.specs.Crystals.{IsPositive}
use Rattle.cell_text.specs.Entries.{is_positive}
use Rattle.ring.specs.Ring.{int_ops}
use Rattle.ring.specs.Size.{AtMost}
use Rattle.ring.proofs.Sizes.{at_most_mul, at_most_add, at_most_neg, weaken}
use Rattle.matrix3.specs.Matrices.{minor}
use Rattle.matrix3.specs.Fits.{MinorFits, DeterminantFits}
use Rattle.crystal_spec.specs.Matrices.{Matrix}
use Rattle.matrix3.specs.Bounds.{EntriesAtMost}

-- a two-term determinant of entries up to 10^9
minor_size : {a b c d : ℤ} → AtMost (10 ^ 9) a → AtMost (10 ^ 9) b → AtMost (10 ^ 9) c → AtMost (10 ^ 9) d → AtMost (2 * 10 ^ 18) (minor int_ops a b c d)
minor_size a b c d = at_most_add (at_most_mul a d) (at_most_neg (at_most_mul b c))

minor_fits : {a b c d : ℤ} → AtMost (10 ^ 9) a → AtMost (10 ^ 9) b → AtMost (10 ^ 9) c → AtMost (10 ^ 9) d → MinorFits int_ops (AtMost (10 ^ 36)) a b c d
minor_fits a b c d = record {
  first = weaken (10 ^ 36) (at_most_mul a d) tt;
  second = weaken (10 ^ 36) (at_most_mul b c) tt;
  difference = weaken (10 ^ 36) (minor_size a b c d) tt;
}

-- entries up to 10^9 leave room for the determinant
pub determinant_fits : (g : Matrix) → EntriesAtMost (10 ^ 9) g → DeterminantFits int_ops (AtMost (10 ^ 36)) g
determinant_fits g h =
    let one = at_most_mul h.a11 (minor_size h.a22 h.a23 h.a32 h.a33) in
    let two = at_most_mul h.a12 (minor_size h.a21 h.a23 h.a31 h.a33) in
    let three = at_most_mul h.a13 (minor_size h.a21 h.a22 h.a31 h.a32) in
    record {
      first_minor = minor_fits h.a22 h.a23 h.a32 h.a33;
      second_minor = minor_fits h.a21 h.a23 h.a31 h.a33;
      third_minor = minor_fits h.a21 h.a22 h.a31 h.a32;
      minors = record {
        first = weaken (10 ^ 36) one tt;
        second = weaken (10 ^ 36) two tt;
        third = weaken (10 ^ 36) three tt;
        two = weaken (10 ^ 36) (at_most_add one (at_most_neg two)) tt;
        three = weaken (10 ^ 36) (at_most_add (at_most_add one (at_most_neg two)) three) tt;
      };
    }

-- ---- positive, as a test

above : (z : ℤ) → int_lt (pos 0) z ≡ true → pos 0 <ℤ z
above (pos zero) e = absurd cc
above (pos (suc n)) e = omega (arith, ints)
above (negsuc n) e = absurd cc

pub positive_is : (g : Matrix) → is_positive g ≡ true → IsPositive g
unfolding is_positive
positive_is g e =
    let p = and_parts _ (int_lt (pos 0) (determinant g)) e in
    let q = and_parts (int_lt (pos 0) g.a11) _ p.0 in
    record { first = above _ q.0; second = above _ q.1; third = above _ p.1 }
