-- How large the matrices are that act on moments.
--
-- The largest numbers of the test of a map are the carried moments: entries of a map up to 1.5 · 10^8 and moments up to
-- 2 · 10^27 give coordinates up to 9 · 10^35, below the 10^36 of an integer.
use Rattle.std.proofs.Common.{◌≡◌, refl, sym, subst, ◌⊎◌, inl, inr, ℕ, ◌≤◌, Bool, true, false, arith}
use Rattle.std.specs.Prelude.{ℤ, pos, negsuc, ◌+ℤ◌, ◌*ℤ◌}
use Rattle.ring.specs.Size.{AtMost}
use Rattle.ring.proofs.Sizes.{at_most_mul}
use Rattle.matrix3.proofs.FitsBySize.{grown}
use Rattle.crystal_spec.specs.declared.MomentKind.{MomentKind}
use Rattle.crystal_spec.specs.Matrices.{Matrix, image, identity, matrix_multiple}
use Rattle.crystal_spec.specs.Moments.{turn_matrix}
use Rattle.std.proofs.lemmas.Int.{ints}
use Rattle.crystal_spec.proofs.Entrywise.{triple_same}
use Rattle.crystal_spec.proofs.Isometries.{unit_cases}
use Rattle.crystal_spec.proofs.Moments.{turn-vector, turn-scalar}
use Rattle.matrix3.specs.Bounds.{EntriesAtMost}

-- the image of zero
pub image-zero : (w : Matrix) → image w (record { x = pos 0; y = pos 0; z = pos 0 }) ≡ record { x = pos 0; y = pos 0; z = pos 0 }
image-zero w = triple_same (row w.a11 w.a12 w.a13) (row w.a21 w.a22 w.a23) (row w.a31 w.a32 w.a33)
  where
    row : (a b c : ℤ) → (a *ℤ pos 0 +ℤ b *ℤ pos 0) +ℤ c *ℤ pos 0 ≡ pos 0
    row a b c = omega (arith, ints)

-- ---- the matrices that act on moments

-- what a change of basis is to moments has no larger entries
pub turn_entries : (kind : MomentKind) (m : ℕ) (r : Matrix) → 1 ≤ m → EntriesAtMost m r → EntriesAtMost m (turn_matrix kind r)
turn_entries kind m r one h = by kind.vector refl
  where
    small : EntriesAtMost m identity
    small = record {
      a11 = record { size = one };
      a12 = record { size = omega arith };
      a13 = record { size = omega arith };
      a21 = record { size = omega arith };
      a22 = record { size = one };
      a23 = record { size = omega arith };
      a31 = record { size = omega arith };
      a32 = record { size = omega arith };
      a33 = record { size = one };
    }

    by : (vector : Bool) → kind.vector ≡ vector → EntriesAtMost m (turn_matrix kind r)
    by true e = subst (EntriesAtMost m) (sym (turn-vector kind r e)) h
    by false e = subst (EntriesAtMost m) (sym (turn-scalar kind r e)) small

-- a number of square 1 is 1 or -1
unit_small : (f : ℤ) → f *ℤ f ≡ pos 1 → AtMost 1 f
unit_small f one = by (unit_cases f one)
  where
    by : (f ≡ pos 1) ⊎ (f ≡ negsuc 0) → AtMost 1 f
    by (inl e) = subst (AtMost 1) (sym e) (record { size = omega arith })
    by (inr e) = subst (AtMost 1) (sym e) (record { size = omega arith })

-- a factor of square 1 leaves the sizes
pub unit_entries : (m : ℕ) (f : ℤ) (a : Matrix) → f *ℤ f ≡ pos 1 → EntriesAtMost m a → EntriesAtMost m (matrix_multiple f a)
unit_entries m f a one h =
    let u = unit_small f one in
    record {
      a11 = grown (omega arith) (at_most_mul u h.a11);
      a12 = grown (omega arith) (at_most_mul u h.a12);
      a13 = grown (omega arith) (at_most_mul u h.a13);
      a21 = grown (omega arith) (at_most_mul u h.a21);
      a22 = grown (omega arith) (at_most_mul u h.a22);
      a23 = grown (omega arith) (at_most_mul u h.a23);
      a31 = grown (omega arith) (at_most_mul u h.a31);
      a32 = grown (omega arith) (at_most_mul u h.a32);
      a33 = grown (omega arith) (at_most_mul u h.a33);
    }
