-- What the program makes of one atom: where its places start, and sizes in two words.
use Rattle.std.proofs.Common.{◌≡◌, ℕ, zero, suc, ◌<◌, ◌≤◌, ℤ, pos, negsuc, ◌+ℤ◌, ◌*ℤ◌, ◌<ℤ◌, ◌≤ℤ◌, List, [], ◌∷◌, length, refl, sym, ap, subst, ◌∙◌, arith}
use Rattle.std.specs.Prelude.{unsigned_abs, slice_get, Some}
use Rattle.std.specs.Int.{int_rem_euclid, int_div_euclid}
use Rattle.ring.specs.Size.{AtMost}
use Rattle.matrix3.specs.Matrices.{EachEntry, EachCoordinate}
use Rattle.crystal_spec.specs.declared.MomentKind.{MomentKind}
use Rattle.crystal_spec.specs.Matrices.{Triple, Matrix, image, adjugate}
use Rattle.crystal_spec.specs.Moments.{turn_matrix}
use Rattle.crystal_spec.specs.Crystals.{Atom}
use Rattle.crystal_spec.proofs.Entrywise.{triple_same}
use Rattle.matrix3.specs.Bounds.{EntriesAtMost, CoordinatesAtMost}
use Rattle.crystal.proofs.Ranges.{turn_entries}
use Rattle.positions.proofs.Residues.{euclid, remainder_within}
use Rattle.standard_cell.specs.declared.frame.Frame.{Frame}
use Rattle.standard_cell.specs.Frames.{IsFrame, step_of, goal_of, IsStart}
use Rattle.standard_cell.proofs.CopyLemmas.{step_above}

natural : (z : ℤ) → pos 0 <ℤ z → pos (unsigned_abs z) ≡ z
natural (pos n) h = refl
natural (negsuc n) h = absurd h.lt

split : (s a r : ℤ) → pos 0 <ℤ s → r ≡ int_rem_euclid a s → a ≡ r +ℤ s *ℤ int_div_euclid a s
split (pos n) a r above e = euclid a n above ∙ ap (λ (z : ℤ). z +ℤ pos n *ℤ int_div_euclid a (pos n)) (sym e)
split (negsuc n) a r above e = absurd above.lt

within : (s a r : ℤ) → pos 0 <ℤ s → r ≡ int_rem_euclid a s → (pos 0 ≤ℤ r) × (r <ℤ s)
within (pos n) a r above e = let h = remainder_within a n above in (subst (λ (z : ℤ). pos 0 ≤ℤ z) (sym e) h.0, subst (λ (z : ℤ). z <ℤ pos n) (sym e) h.1)
within (negsuc n) a r above e = absurd above.lt

-- the remainders are a start
pub start_of : (f : Frame) → IsFrame f → (y r v : Triple) (d : ℤ) → d ≡ step_of f → v ≡ image (adjugate f.turn) (goal_of f y) → r.x ≡ int_rem_euclid v.x d → r.y ≡ int_rem_euclid v.y d → r.z ≡ int_rem_euclid v.z d → IsStart f y r
start_of f frame y r v d d_is v_is x y' z =
    let s = step_of f in
    let above = step_above f frame in
    let ex = x ∙ ap (int_rem_euclid v.x) d_is in
    let ey = y' ∙ ap (int_rem_euclid v.y) d_is in
    let ez = z ∙ ap (int_rem_euclid v.z) d_is in
    let wx = within s v.x r.x above ex in
    let wy = within s v.y r.y above ey in
    let wz = within s v.z r.z above ez in
    record {
      cells = record { x = int_div_euclid v.x s; y = int_div_euclid v.y s; z = int_div_euclid v.z s };
      is = sym v_is ∙ triple_same (split s v.x r.x above ex) (split s v.y r.y above ey) (split s v.z r.z above ez);
      in_cell = record { x_low = wx.0; x_high = wx.1; y_low = wy.0; y_high = wy.1; z_low = wz.0; z_high = wz.1 };
    }

-- ---- sizes of entries in two words

pub entries_of : {n : ℕ} {a : Matrix} → EachEntry (AtMost n) a → EntriesAtMost n a
entries_of h = record { a11 = h.a11; a12 = h.a12; a13 = h.a13; a21 = h.a21; a22 = h.a22; a23 = h.a23; a31 = h.a31; a32 = h.a32; a33 = h.a33 }

pub each_of : {n : ℕ} {a : Matrix} → EntriesAtMost n a → EachEntry (AtMost n) a
each_of h = record { a11 = h.a11; a12 = h.a12; a13 = h.a13; a21 = h.a21; a22 = h.a22; a23 = h.a23; a31 = h.a31; a32 = h.a32; a33 = h.a33 }

pub coordinates_each : {n : ℕ} {v : Triple} → CoordinatesAtMost n v → EachCoordinate (AtMost n) v
coordinates_each h = record { x = h.x; y = h.y; z = h.z }

pub turn_each : (kind : MomentKind) (m : ℕ) (r : Matrix) → 1 ≤ m → EachEntry (AtMost m) r → EachEntry (AtMost m) (turn_matrix kind r)
turn_each kind m r some h = each_of (turn_entries kind m r some (entries_of h))

-- ---- the element at a place

pub record ElementAt (xs : List Atom) (i : ℕ) : Type 0 where
  pub atom : Atom
  pub is : slice_get xs i ≡ Some atom

pub element_at : (xs : List Atom) (i : ℕ) → i < length xs → ElementAt xs i
element_at [] i h = absurd (omega arith)
element_at (x ∷ xs) zero h = record { atom = x; is = refl }
element_at (x ∷ xs) (suc i) h = let r = element_at xs i (omega (arith, h)) in record { atom = r.atom; is = r.is }
