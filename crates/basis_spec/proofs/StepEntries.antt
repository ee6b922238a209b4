-- The entries of the matrices of a triangular basis, as step_basis finds them.
--
-- The matrix to a basis is told by its product with the basis, so it is the one of which the sizes are known. The entries
-- of the basis are from 0 to n, and n · fore = index · basis, so each entry of fore is at most the index.
use Rattle.std.proofs.Common.{◌≡◌, ℕ, ℤ, pos, negsuc, ◌*ℤ◌, ◌≤ℤ◌, ◌<ℤ◌, [], ◌∷◌, refl, sym, ap, subst, ◌∙◌, arith}
use Rattle.std.proofs.lemmas.Int.{ints}
use Rattle.ring.specs.Ring.{var, ◌:*◌}
use Rattle.ring.specs.Size.{AtMost}
use Rattle.ring.proofs.IntOrder.{mul_pos}
use Rattle.matrix3.specs.Matrices.{EachEntry}
use Rattle.crystal_spec.specs.Matrices.{Triple, Matrix, product, image, determinant, adjugate, multiple, identity}
use Rattle.crystal_spec.proofs.Entrywise.{triple_same}
use Rattle.crystal_spec.proofs.Identities.{by_integers}
use Rattle.basis_spec.specs.Metrics.{matrix_multiple}
use Rattle.basis_spec.specs.StepBases.{IsLattice, IsStepBasis, IsSteps}
use Rattle.basis_spec.proofs.MatrixLaws.{adjugate-product, axis1, axis2, axis3, image-identity, image-product, image-multiple, image-matrix_multiple, image-image_adjugate, same_images}
use Rattle.basis_spec.proofs.Cancelling.{mul_cancel, multiple_cancel}
use Rattle.basis_spec.proofs.StepBases.{back, back_whole, basis_above}
use Rattle.basis_spec.proofs.StepIndex.{index_cube}
use Rattle.basis_spec.proofs.StepSizes.{IsWithin, x2_below, times_one, times_none, back_small, ratio_within}

-- the matrix to a basis is told by its product with the basis
pub back_once : (k : ℤ) (b q r : Matrix) → pos 0 <ℤ determinant b → product q b ≡ matrix_multiple k identity → product r b ≡ matrix_multiple k identity → q ≡ r
back_once k b q r above e f = same_images q r (λ v. multiple_cancel (determinant b) (image q v) (image r v) above (through q e v ∙ sym (through r f v)))
  where
    through : (q : Matrix) → product q b ≡ matrix_multiple k identity → (v : Triple) → multiple (determinant b) (image q v) ≡ image (matrix_multiple k identity) (image (adjugate b) v)
    through q e v = sym (image-multiple q (determinant b) v) ∙ ap (image q) (sym (image-image_adjugate b v)) ∙ sym (image-product q b (image (adjugate b) v)) ∙ ap (λ (m : Matrix). image m (image (adjugate b) v)) e

-- the index is the determinant of the matrix to the triangular basis
pub index_is_determinant : (n index : ℕ) (in_it : Triple → Type 0) (l : IsLattice n in_it) (b : Matrix) (s : IsStepBasis in_it b) → pos index *ℤ (b.a11 *ℤ (b.a22 *ℤ b.a33)) ≡ pos n *ℤ (pos n *ℤ pos n) → pos index ≡ determinant (back n in_it l b s)
index_is_determinant n index in_it l b s e =
    let v = b.a11 *ℤ (b.a22 *ℤ b.a33) in
    mul_cancel v (pos index) (determinant (back n in_it l b s)) (mul_pos b.a11 (b.a22 *ℤ b.a33) s.first.positive (mul_pos b.a22 b.a33 s.second.positive s.third.positive))
    (turned v (pos index) ∙ e ∙ sym (index_cube n in_it l b s) ∙ turned (determinant (back n in_it l b s)) v)
  where
    turned : (a c : ℤ) → a *ℤ c ≡ c *ℤ a
    turned a c = by_integers (a ∷ c ∷ []) (var 0 :* var 1) (var 1 :* var 0) refl

-- index · P is the adjugate of Q
pub fore_is_adjugate : (index : ℕ) (fore r : Matrix) → pos 0 <ℤ determinant r → pos index ≡ determinant r → product fore r ≡ matrix_multiple (pos index) identity → fore ≡ adjugate r
fore_is_adjugate index fore r above e f = back_once (determinant r) r fore (adjugate r) above (f ∙ ap (λ (d : ℤ). matrix_multiple d identity) e) (adjugate-product r)

-- from -m to m, as a size
within_size : (m : ℕ) (z : ℤ) → IsWithin (pos m) z → AtMost m z
within_size m (pos z) w = let h = w.high in record { size = omega (arith, ints) }
within_size m (negsuc z) w = let h = w.low in record { size = omega (arith, ints) }

-- k times the identity, applied
times : (k : ℤ) (v : Triple) → image (matrix_multiple k identity) v ≡ multiple k v
times k v = image-matrix_multiple k identity v ∙ ap (multiple k) (image-identity v)

-- from 0 to n
abbrev pub IsFromZeroTo : ℤ → ℤ → Type 0
IsFromZeroTo n z = (pos 0 ≤ℤ z) × (z ≤ℤ n)

-- a triangular basis has an index and the two matrices
pub steps_of_basis : (n index : ℕ) (in_it : Triple → Type 0) (l : IsLattice n in_it) (b : Matrix) (s : IsStepBasis in_it b) → pos index ≡ determinant (back n in_it l b s) → IsSteps n in_it index (back n in_it l b s) (adjugate (back n in_it l b s))
steps_of_basis n index in_it l b s e =
    let q = back n in_it l b s in
    record {
      basis = b;
      is_basis = s;
      index_is = ap (λ (d : ℤ). d *ℤ (b.a11 *ℤ (b.a22 *ℤ b.a33))) e ∙ index_cube n in_it l b s;
      back_is = back_whole n in_it l b s;
      fore_is = adjugate-product q ∙ ap (λ (d : ℤ). matrix_multiple d identity) (sym e);
    }

module _ (n : ℕ) (in_it : Triple → Type 0) (l : IsLattice n in_it) (some : pos 0 <ℤ pos n) (index : ℕ) (found fore : Matrix) (k : IsSteps n in_it index found fore) where
  -- the matrix that was found is the one to the triangular basis
  pub found_is : back n in_it l k.basis k.is_basis ≡ found
  found_is = back_once (pos n) k.basis (back n in_it l k.basis k.is_basis) found (basis_above n in_it l k.basis k.is_basis) (back_whole n in_it l k.basis k.is_basis) k.back_is

  -- and the index its determinant
  pub index_found : pos index ≡ determinant found
  index_found = index_is_determinant n index in_it l k.basis k.is_basis k.index_is ∙ ap determinant found_is

  sized : (z : ℤ) → IsWithin (determinant (back n in_it l k.basis k.is_basis)) z → AtMost index z
  sized z w = within_size index z (subst (λ (m : ℤ). IsWithin m z) (sym (index_is_determinant n index in_it l k.basis k.is_basis k.index_is)) w)

  -- each entry of the matrix to the triangular basis is at most the index
  pub back_entries : EachEntry (AtMost index) found
  back_entries =
      let q = back n in_it l k.basis k.is_basis in
      let e = back_small n in_it l k.basis k.is_basis some in
      subst (EachEntry (AtMost index)) found_is (record {
        a11 = sized q.a11 e.a11;
        a12 = sized q.a12 e.a12;
        a13 = sized q.a13 e.a13;
        a21 = sized q.a21 e.a21;
        a22 = sized q.a22 e.a22;
        a23 = sized q.a23 e.a23;
        a31 = sized q.a31 e.a31;
        a32 = sized q.a32 e.a32;
        a33 = sized q.a33 e.a33;
      })

  -- whole cells along the axes are in the lattice
  first_most : k.basis.a11 ≤ℤ pos n
  first_most = k.is_basis.first.least (pos n) some (subst in_it (triple_same (times_one n in_it l k.basis k.is_basis some) (times_none n in_it l k.basis k.is_basis some) (times_none n in_it l k.basis k.is_basis some)) (l.cells axis1))

  second_most : k.basis.a22 ≤ℤ pos n
  second_most = k.is_basis.second.least (pos n) some (pos 0, subst in_it (triple_same (times_none n in_it l k.basis k.is_basis some) (times_one n in_it l k.basis k.is_basis some) (times_none n in_it l k.basis k.is_basis some)) (l.cells axis2))

  third_most : k.basis.a33 ≤ℤ pos n
  third_most = k.is_basis.third.least (pos n) some (pos 0, (pos 0, subst in_it (triple_same (times_none n in_it l k.basis k.is_basis some) (times_none n in_it l k.basis k.is_basis some) (times_one n in_it l k.basis k.is_basis some)) (l.cells axis3)))

  positive_to : (z m : ℤ) → pos 0 <ℤ z → z ≤ℤ m → IsFromZeroTo m z
  positive_to z m h j = (omega (arith, ints), j)

  below_to : (z s m : ℤ) → pos 0 ≤ℤ z → z <ℤ s → s ≤ℤ m → IsFromZeroTo m z
  below_to z s m h i j = (h, omega (arith, ints))

  up_to : (z s m : ℤ) → pos 0 ≤ℤ z → z ≤ℤ s → s ≤ℤ m → IsFromZeroTo m z
  up_to z s m h i j = (h, omega (arith, ints))

  zero_to : (z m : ℤ) → z ≡ pos 0 → pos 0 <ℤ m → IsFromZeroTo m z
  zero_to z m e h = (omega (arith, ints), omega (arith, ints))

  -- each entry of the triangular basis is from 0 to n
  pub basis_entries : EachEntry (IsFromZeroTo (pos n)) k.basis
  basis_entries =
      let b = k.basis in
      let s = k.is_basis in
      record {
        a11 = positive_to b.a11 (pos n) s.first.positive first_most;
        a12 = up_to b.a12 b.a11 (pos n) s.second_from (x2_below n in_it l k.basis k.is_basis some) first_most;
        a13 = below_to b.a13 b.a11 (pos n) s.third_x.0 s.third_x.1 first_most;
        a21 = zero_to b.a21 (pos n) s.zeros.0 some;
        a22 = positive_to b.a22 (pos n) s.second.positive second_most;
        a23 = below_to b.a23 b.a22 (pos n) s.third_y.0 s.third_y.1 second_most;
        a31 = zero_to b.a31 (pos n) s.zeros.1 some;
        a32 = zero_to b.a32 (pos n) s.zeros.2 some;
        a33 = positive_to b.a33 (pos n) s.third.positive third_most;
      }

  -- n · fore is index · basis
  pub fore-multiple : matrix_multiple (pos n) fore ≡ matrix_multiple (pos index) k.basis
  fore-multiple = same_images (matrix_multiple (pos n) fore) (matrix_multiple (pos index) k.basis) (λ v.
      image-matrix_multiple (pos n) fore v ∙ sym (image-multiple fore (pos n) v)
      ∙ ap (image fore) (sym (sym (image-product found k.basis v) ∙ ap (λ (m : Matrix). image m v) k.back_is ∙ times (pos n) v))
      ∙ sym (image-product fore found (image k.basis v)) ∙ ap (λ (m : Matrix). image m (image k.basis v)) k.fore_is ∙ times (pos index) (image k.basis v)
      ∙ sym (image-matrix_multiple (pos index) k.basis v))

  small_ratio : (f z : ℤ) → IsFromZeroTo (pos n) z → pos n *ℤ f ≡ pos index *ℤ z → AtMost index f
  small_ratio f z h e = within_size index f (ratio_within n in_it l k.basis k.is_basis some f (pos index) z (not_below index) h.0 h.1 e)
    where
      not_below : (m : ℕ) → pos 0 ≤ℤ pos m
      not_below m = omega (arith, ints)

  -- each entry of the matrix back is at most the index
  pub fore_entries : EachEntry (AtMost index) fore
  fore_entries =
      let b = k.basis in
      let e = basis_entries in
      record {
        a11 = small_ratio fore.a11 b.a11 e.a11 (ap (λ (m : Matrix). m.a11) fore-multiple);
        a12 = small_ratio fore.a12 b.a12 e.a12 (ap (λ (m : Matrix). m.a12) fore-multiple);
        a13 = small_ratio fore.a13 b.a13 e.a13 (ap (λ (m : Matrix). m.a13) fore-multiple);
        a21 = small_ratio fore.a21 b.a21 e.a21 (ap (λ (m : Matrix). m.a21) fore-multiple);
        a22 = small_ratio fore.a22 b.a22 e.a22 (ap (λ (m : Matrix). m.a22) fore-multiple);
        a23 = small_ratio fore.a23 b.a23 e.a23 (ap (λ (m : Matrix). m.a23) fore-multiple);
        a31 = small_ratio fore.a31 b.a31 e.a31 (ap (λ (m : Matrix). m.a31) fore-multiple);
        a32 = small_ratio fore.a32 b.a32 e.a32 (ap (λ (m : Matrix). m.a32) fore-multiple);
        a33 = small_ratio fore.a33 b.a33 e.a33 (ap (λ (m : Matrix). m.a33) fore-multiple);
      }
