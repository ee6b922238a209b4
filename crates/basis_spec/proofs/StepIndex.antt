-- The index of a triangular basis, and the matrix that takes coordinates to it.
--
-- The product of the matrix to the basis and the basis is n, so that of their determinants is n³. The translations of a
-- crystal are a lattice. A change of basis by a matrix of determinant 1, as a reduction is, leaves its members.
use Rattle.std.proofs.Common.{◌≡◌, ℕ, suc, zero, ℤ, pos, negsuc, ◌*ℤ◌, ◌≤ℤ◌, ◌<ℤ◌, [], ◌∷◌, refl, sym, ap, subst, ◌∙◌, arith}
use Rattle.std.proofs.lemmas.Int.{ints}
use Rattle.ring.specs.Ring.{var, con, ◌:*◌}
use Rattle.ring.proofs.IntOrder.{mul_pos}
use Rattle.crystal_spec.specs.Matrices.{Triple, Matrix, product, image, determinant, multiple, sum_of, identity}
use Rattle.basis_spec.specs.Metrics.{matrix_multiple}
use Rattle.crystal_spec.specs.Crystals.{Structure}
use Rattle.basis_spec.specs.Translations.{IsTranslation}
use Rattle.basis_spec.specs.Bases.{IsBack}
use Rattle.basis_spec.specs.StepBases.{IsLattice, IsStepBasis}
use Rattle.basis_spec.proofs.MatrixLaws.{image-identity, image-multiple, image-product, image-matrix_multiple, determinant-matrix_multiple, same_images, subtract_add}
use Rattle.basis_spec.proofs.Cancelling.{multiple_cancel}
use Rattle.basis_spec.proofs.Translations.{determinant-identity, occupied_as, is_translation, moves, moves_back}
use Rattle.basis_spec.proofs.OperationBases.{cells_translation}
use Rattle.basis_spec.proofs.PrimitiveCell.{translation_sum}
use Rattle.basis_spec.proofs.StepBases.{basis_above, determinant_basis, back, back_whole, basis-back, back-basis, coordinates, spanned}
use Rattle.crystal_spec.proofs.Identities.{by_integers}
use Rattle.crystal_spec.proofs.Isometries.{determinant-product}

-- the determinant of the matrix to the basis, times s1 s2 s3, is n³
pub index_cube : (n : ℕ) (in_it : Triple → Type 0) (l : IsLattice n in_it) (b : Matrix) (s : IsStepBasis in_it b) →
    determinant (back n in_it l b s) *ℤ (b.a11 *ℤ (b.a22 *ℤ b.a33)) ≡ pos n *ℤ (pos n *ℤ pos n)
index_cube n in_it l b s =
    ap (λ z. determinant (back n in_it l b s) *ℤ z) (sym (determinant_basis n in_it l b s)) ∙ sym (determinant-product (back n in_it l b s) b) ∙ ap determinant (back_whole n in_it l b s)
    ∙ determinant-matrix_multiple (pos n) identity ∙ ap (λ z. (pos n *ℤ (pos n *ℤ pos n)) *ℤ z) determinant-identity ∙ by_integers (pos n ∷ []) ((var 0 :* (var 0 :* var 0)) :* con (pos 1)) (var 0 :* (var 0 :* var 0)) refl

-- a matrix of determinant 1 leaves the determinant
pub determinant_then : (q r : Matrix) → determinant q ≡ pos 1 → determinant (product q r) ≡ determinant r
determinant_then q r one = determinant-product q r ∙ ap (λ z. z *ℤ determinant r) one ∙ by_integers (determinant r ∷ []) (con (pos 1) :* var 0) (var 0) refl

positive_factor : (a c : ℤ) → pos 0 <ℤ c → pos 0 <ℤ (a *ℤ c) → pos 1 ≤ℤ a
positive_factor (pos zero) c h k = absurd (omega (arith, ints))
positive_factor (pos (suc a)) c h k = omega (arith, ints)
positive_factor (negsuc a) (pos c) h k = absurd (omega (arith, ints))
positive_factor (negsuc a) (negsuc c) h k = absurd h.lt

-- the opposite of a translation is one
translation_back : (c : Structure) (t : Triple) → IsTranslation c t → IsTranslation c (multiple (negsuc 0) t)
translation_back c t h = is_translation c (multiple (negsuc 0) t)
    (λ s p m o. moves_back c t h s (sum_of p (multiple (negsuc 0) t)) m (occupied_as c s (sym (subtract_add p t)) refl o))
    (λ s p m o. occupied_as c s (subtract_add p t) refl (moves c t h s (sum_of p (multiple (negsuc 0) t)) m o))

-- so the translations are a lattice
pub translations_lattice : (c : Structure) → IsLattice c.n (IsTranslation c)
translations_lattice c = record { cells = cells_translation c; sums = translation_sum c; opposites = translation_back c }

-- the matrix to a triangular basis takes coordinates to those in a basis of the lattice
pub step_back : (n : ℕ) (in_it : Triple → Type 0) (l : IsLattice n in_it) (b : Matrix) (s : IsStepBasis in_it b) → pos 0 <ℤ pos n → IsBack n in_it (back n in_it l b s)
step_back n in_it l b s some =
    let r = back n in_it l b s in
    record {
      determinant_positive = positive_factor (determinant r) (determinant b) (basis_above n in_it l b s)
          (subst (λ (z : ℤ). pos 0 <ℤ z) (sym (ap (λ z. determinant r *ℤ z) (determinant_basis n in_it l b s) ∙ index_cube n in_it l b s)) (mul_pos (pos n) (pos n *ℤ pos n) some (mul_pos (pos n) (pos n) some some)));
      steps = b;
      whole = back_whole n in_it l b s;
      exact = λ t. (
        (λ h. let y = coordinates n in_it l b s t h in record { cells = y.0; is = ap (image r) y.1 ∙ back-basis n in_it l b s y.0 }),
        (λ h. subst in_it
            (multiple_cancel (pos n) (image b h.cells) t some (sym (image-multiple b (pos n) h.cells) ∙ ap (image b) (sym h.is) ∙ basis-back n in_it l b s t))
            (spanned n in_it l b s h.cells)),
      );
    }

-- so does what a change of basis by a matrix of determinant 1 makes of it
pub back_then : (n : ℕ) (in_it : Triple → Type 0) (q base r : Matrix) → determinant q ≡ pos 1 → product q base ≡ identity → product base q ≡ identity → IsBack n in_it r → IsBack n in_it (product q r)
back_then n in_it q base r one whole whole' k = record {
  determinant_positive = subst (λ (z : ℤ). pos 1 ≤ℤ z) (sym (determinant_then q r one)) k.determinant_positive;
  steps = product k.steps base;
  whole = same_images (product (product q r) (product k.steps base)) (matrix_multiple (pos n) identity) (λ v.
      image-product (product q r) (product k.steps base) v ∙ image-product q r (image (product k.steps base) v) ∙ ap (λ u. image q (image r u)) (image-product k.steps base v)
      ∙ ap (image q) (sym (image-product r k.steps (image base v)) ∙ ap (λ a. image a (image base v)) k.whole ∙ times_n (image base v)) ∙ image-multiple q (pos n) (image base v)
      ∙ ap (multiple (pos n)) (sym (image-product q base v) ∙ ap (λ a. image a v) whole ∙ image-identity v) ∙ sym (times_n v));
  exact = λ t. (
    (λ h. let d = (k.exact t).0 h in record { cells = image q d.cells; is = image-product q r t ∙ ap (image q) d.is ∙ image-multiple q (pos n) d.cells }),
    (λ h. (k.exact t).1 (record { cells = image base h.cells; is = undo (image r t) ∙ ap (image base) (sym (image-product q r t) ∙ h.is) ∙ image-multiple base (pos n) h.cells })),
  );
}
  where
    times_n : (y : Triple) → image (matrix_multiple (pos n) identity) y ≡ multiple (pos n) y
    times_n y = image-matrix_multiple (pos n) identity y ∙ ap (multiple (pos n)) (image-identity y)

    undo : (v : Triple) → v ≡ image base (image q v)
    undo v = sym (sym (image-product base q v) ∙ ap (λ a. image a v) whole' ∙ image-identity v)
