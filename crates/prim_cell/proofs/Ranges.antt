-- How large the numbers of a primitive cell are.
--
-- The index d is at most 1024, the number of atoms. The entries of index · P in the triangular basis are at most d, so the
-- metric tensor there has entries of at most 9 d² times those of the cell, 9.5 · 10^15; reduction does not enlarge them.
-- Let Q take coordinates to the reduced basis, and G' = d² Pᵀ G P be its metric tensor. Then Qᵀ G' Q = d² G, so a column of Q
-- has a squared length q of at most d² · 10^9 in G'. The metric tensor is reduced, so its diagonal entry a, a positive integer,
-- has a x² ≤ 2 q for a coordinate x of the column: x is at most 4.6 · 10^7. The adjugate of Q has entries up to twice the
-- square.
use Rattle.std.proofs.Common.{◌≡◌, ℕ, suc, ◌+◌, ◌*◌, ◌^◌, ◌≤◌, ◌<◌, [], ◌∷◌, ℤ, pos, negsuc, ◌+ℤ◌, ◌*ℤ◌, neg_ℤ, unsigned_abs, ◌≤ℤ◌, ◌<ℤ◌, refl, ap, subst, ◌∙◌, lit≤, mul-le-mul, arith}
use Rattle.std.proofs.lemmas.Int.{ints, unsigned_abs-mul}
use Rattle.ring.specs.Ring.{int_ops, quoted, var, con, ◌:+◌, ◌:*◌, ◌:-◌}
use Rattle.ring.specs.Size.{AtMost}
use Rattle.ring.proofs.Solving.{by_ring}
use Rattle.ring.proofs.IntRing.{int_laws}
use Rattle.ring.proofs.Sizes.{at_most_mul, at_most_add, at_most_neg}
use Rattle.ring.proofs.IntOrder.{mul_nonneg, add_nonneg, sq_nonneg, le_by_sub}
use Rattle.matrix3.specs.Matrices.{EachEntry}
use Rattle.crystal_spec.specs.Matrices.{Matrix, adjugate}
use Rattle.crystal_spec.proofs.Identities.{by_integers}
use Rattle.lattice_spec.specs.Tensor.{Tensor, tensor_matrix, squared_length}
use Rattle.lattice_spec.proofs.Limits.{IsReduced}
use Rattle.lattice_spec.proofs.Isometry.{carried, both, matrix, tensor_after}
use Rattle.lattice_spec.proofs.Cauchy.{reduced_positive, bb_positive}
use Rattle.lattice_spec.proofs.Bounds.{IsInBox, box_of_column}
use Rattle.crystal.specs.declared.limits.TheConstants.{MOST_ATOMS}
use Rattle.matrix3.specs.Bounds.{EntriesAtMost}
use Rattle.matrix3.proofs.FitsBySize.{grown, entries_grown, product_size, transposed_size}
use Rattle.basis_spec.specs.Metrics.{matrix_multiple, metric_in}

-- the two ways to say it
pub entries_of_each : (n m : ℕ) (a : Matrix) → n ≤ m → EachEntry (AtMost n) a → EntriesAtMost m a
entries_of_each n m a le h = record {
  a11 = grown le h.a11;
  a12 = grown le h.a12;
  a13 = grown le h.a13;
  a21 = grown le h.a21;
  a22 = grown le h.a22;
  a23 = grown le h.a23;
  a31 = grown le h.a31;
  a32 = grown le h.a32;
  a33 = grown le h.a33;
}

-- the metric tensor in the triangular basis
pub step_metric_small : (p g : Matrix) → EntriesAtMost MOST_ATOMS p → EntriesAtMost (10 ^ 9) g → EntriesAtMost (10 ^ 16) (metric_in p g)
step_metric_small p g h k =
    let m = 10 ^ 9 * MOST_ATOMS + 10 ^ 9 * MOST_ATOMS + 10 ^ 9 * MOST_ATOMS in
    entries_grown {a = metric_in p g} (lit≤ tt) (product_size _ _ (transposed_size p h) (product_size g p k h))

-- ---- the entries of Q
root : (k r : ℕ) → k * k < suc r * suc r → k ≤ r
root k r h = grind (arith, mul-le-mul)

abs-le : (a b : ℤ) → pos 0 ≤ℤ a → a ≤ℤ b → unsigned_abs a ≤ unsigned_abs b
abs-le a b h k = omega (arith, ints)

less_one : (a : ℤ) → pos 0 <ℤ a → pos 0 ≤ℤ (a +ℤ neg_ℤ (pos 1))
less_one a h = omega (arith, ints)

-- x² ≤ 2 q, since 2 q - x² = (2 q - a x²) + (a - 1) x²
square_most : (a q x : ℤ) → pos 0 <ℤ a → IsInBox a q x → (x *ℤ x) ≤ℤ (pos 2 *ℤ q)
square_most a q x h k = le_by_sub (x *ℤ x) (pos 2 *ℤ q)
    (subst (λ (z : ℤ). pos 0 ≤ℤ z)
    (by_integers (a ∷ q ∷ x ∷ []) ((con (pos 2) :* var 1 :- var 0 :* (var 2 :* var 2)) :+ (var 0 :- con (pos 1)) :* (var 2 :* var 2)) (con (pos 2) :* var 1 :- var 2 :* var 2) refl)
    (add_nonneg _ _ k (mul_nonneg _ _ (less_one a h) (sq_nonneg x))))

coordinate_small : (a q x : ℤ) → pos 0 <ℤ a → IsInBox a q x → AtMost (MOST_ATOMS * MOST_ATOMS * 10 ^ 9) q → AtMost (50 * 10 ^ 6) x
coordinate_small a q x h k s =
    let one = abs-le (x *ℤ x) (pos 2 *ℤ q) (sq_nonneg x) (square_most a q x h k) in
    let two = unsigned_abs-mul x x in
    let three = unsigned_abs-mul (pos 2) q in
    record { size = root (unsigned_abs x) (50 * 10 ^ 6) (omega (arith, one, two, three, s.size)) }

-- the three coordinates of a column of squared length q
column_small : (s : Tensor ℤ) (x y z q : ℤ) → IsReduced s → squared_length int_ops s x y z ≡ q → AtMost (MOST_ATOMS * MOST_ATOMS * 10 ^ 9) q → (AtMost (50 * 10 ^ 6) x × (AtMost (50 * 10 ^ 6) y × AtMost (50 * 10 ^ 6) z))
column_small s x y z q m e h =
    let b = box_of_column s q x y z m e in
    (coordinate_small s.aa q x m.a_positive b.first h, (coordinate_small s.bb q y (bb_positive s (reduced_positive s m)) b.second h, coordinate_small s.cc q z (above s.bb s.cc (bb_positive s (reduced_positive s m)) m.b_to_c) b.third h))
  where
    above : (b c : ℤ) → pos 0 <ℤ b → b ≤ℤ c → pos 0 <ℤ c
    above b c h k = omega (arith, ints)

-- the squared lengths of the columns of Q
length-1 : (s : Tensor ℤ) (w : Matrix) → squared_length int_ops s w.a11 w.a21 w.a31 ≡ (metric_in w (tensor_matrix s)).a11
length-1 s w = by_ring int_ops int_laws (both s w) (squared_length quoted tensor_after matrix.a11 matrix.a21 matrix.a31) (carried quoted tensor_after matrix).a11 refl

length-2 : (s : Tensor ℤ) (w : Matrix) → squared_length int_ops s w.a12 w.a22 w.a32 ≡ (metric_in w (tensor_matrix s)).a22
length-2 s w = by_ring int_ops int_laws (both s w) (squared_length quoted tensor_after matrix.a12 matrix.a22 matrix.a32) (carried quoted tensor_after matrix).a22 refl

length-3 : (s : Tensor ℤ) (w : Matrix) → squared_length int_ops s w.a13 w.a23 w.a33 ≡ (metric_in w (tensor_matrix s)).a33
length-3 s w = by_ring int_ops int_laws (both s w) (squared_length quoted tensor_after matrix.a13 matrix.a23 matrix.a33) (carried quoted tensor_after matrix).a33 refl

multiple_small : (d : ℕ) (z : ℤ) → d ≤ MOST_ATOMS → AtMost (10 ^ 9) z → AtMost (MOST_ATOMS * MOST_ATOMS * 10 ^ 9) ((pos d *ℤ pos d) *ℤ z)
multiple_small d z le h =
    let k : AtMost MOST_ATOMS (pos d) = record { size = le } in
    at_most_mul (at_most_mul k k) h

-- Q, of determinant d, takes coordinates to those in a reduced basis
pub back_small : (s : Tensor ℤ) (g r : Matrix) (d : ℕ) → IsReduced s → metric_in r (tensor_matrix s) ≡ matrix_multiple (pos d *ℤ pos d) g → d ≤ MOST_ATOMS → EntriesAtMost (10 ^ 9) g → EntriesAtMost (50 * 10 ^ 6) r
back_small s g r d m e le h =
    let j = column_small s r.a11 r.a21 r.a31 _ m (length-1 s r ∙ ap (λ (a : Matrix). a.a11) e) (multiple_small d g.a11 le h.a11) in
    let k = column_small s r.a12 r.a22 r.a32 _ m (length-2 s r ∙ ap (λ (a : Matrix). a.a22) e) (multiple_small d g.a22 le h.a22) in
    let l = column_small s r.a13 r.a23 r.a33 _ m (length-3 s r ∙ ap (λ (a : Matrix). a.a33) e) (multiple_small d g.a33 le h.a33) in
    record { a11 = j.0; a12 = k.0; a13 = l.0; a21 = j.1.0; a22 = k.1.0; a23 = l.1.0; a31 = j.1.1; a32 = k.1.1; a33 = l.1.1 }

minor_small : (a b c d : ℤ) → AtMost (50 * 10 ^ 6) a → AtMost (50 * 10 ^ 6) b → AtMost (50 * 10 ^ 6) c → AtMost (50 * 10 ^ 6) d → AtMost (5 * 10 ^ 15) (a *ℤ d +ℤ neg_ℤ (b *ℤ c))
minor_small a b c d ha hb hc hd = grown (lit≤ tt) (at_most_add (at_most_mul ha hd) (at_most_neg (at_most_mul hb hc)))

-- and its adjugate
pub fore_small : (r : Matrix) → EntriesAtMost (50 * 10 ^ 6) r → EntriesAtMost (5 * 10 ^ 15) (adjugate r)
fore_small r h = record {
  a11 = minor_small _ _ _ _ h.a22 h.a23 h.a32 h.a33;
  a12 = minor_small _ _ _ _ h.a13 h.a12 h.a33 h.a32;
  a13 = minor_small _ _ _ _ h.a12 h.a13 h.a22 h.a23;
  a21 = minor_small _ _ _ _ h.a23 h.a21 h.a33 h.a31;
  a22 = minor_small _ _ _ _ h.a11 h.a13 h.a31 h.a33;
  a23 = minor_small _ _ _ _ h.a13 h.a11 h.a23 h.a21;
  a31 = minor_small _ _ _ _ h.a21 h.a22 h.a31 h.a32;
  a32 = minor_small _ _ _ _ h.a12 h.a11 h.a32 h.a31;
  a33 = minor_small _ _ _ _ h.a11 h.a12 h.a21 h.a22;
}

-- the scale of the primitive cell, the square of the index times that of the cell, is from 1 to 10^16
pub scale_within : (i : ℕ) (s : ℤ) → 1 ≤ i → i ≤ MOST_ATOMS → pos 1 ≤ℤ s → s ≤ℤ pos (10 ^ 9) → (pos 1 ≤ℤ ((pos i *ℤ pos i) *ℤ s)) × (((pos i *ℤ pos i) *ℤ s) ≤ℤ pos (10 ^ 16))
scale_within i (pos s) some few low high =
    let one : 1 ≤ s = omega (arith, ints, low) in
    let many : s ≤ 10 ^ 9 = omega (arith, ints, high) in
    let least : 1 * 1 * 1 ≤ i * i * s = mul-le-mul (mul-le-mul some some) one in
    let most : i * i * s ≤ MOST_ATOMS * MOST_ATOMS * 10 ^ 9 = mul-le-mul (mul-le-mul few few) many in
    (omega (arith, ints, least), omega (arith, ints, most))
scale_within i (negsuc s) some few low high = absurd (omega (arith, ints, low))
