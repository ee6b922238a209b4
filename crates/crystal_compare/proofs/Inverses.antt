-- Matrices of determinant 1 or -1: their inverses, what they cancel, and positions whole cells apart.
use Rattle.std.proofs.Common.{◌≡◌, [], ◌∷◌, ◌++◌, ℤ, pos, negsuc, ◌*ℤ◌, refl, sym, ap, ◌∙◌}
use Rattle.ring.specs.Ring.{quoted, var, con}
use Rattle.matrix3.specs.Matrices.{coordinates, vector_of_variables}
use Rattle.matrix3.specs.Matrices as formulas
use Rattle.crystal_spec.specs.Matrices.{Triple, Matrix, product, image, determinant, adjugate, multiple, sum_of, identity}
use Rattle.crystal_spec.proofs.Identities.{by_triples}
use Rattle.crystal_spec.proofs.Isometries.{image-adjugate, determinant-product, unit_of_product, cancel_image}
use Rattle.basis_spec.specs.Metrics.{matrix_multiple}
use Rattle.basis_spec.proofs.MatrixLaws.{image-product, image-identity, image-matrix_multiple, image-multiple, image-sum_of, image-image_adjugate, sum_swap, same_images}
use Rattle.basis_spec.proofs.Cancelling.{sum_cancel, unit_twice}
use Rattle.basis_spec.proofs.Translations.{determinant-identity}

-- the inverse, where the determinant is 1 or -1
abbrev pub inverse : Matrix → Matrix
inverse w = matrix_multiple (determinant w) (adjugate w)

pub inverse_undoes : (w : Matrix) (v : Triple) → determinant w *ℤ determinant w ≡ pos 1 → image (inverse w) (image w v) ≡ v
inverse_undoes w v one = image-matrix_multiple (determinant w) (adjugate w) (image w v) ∙ ap (multiple (determinant w)) (image-adjugate w v) ∙ unit_twice (determinant w) v one

pub undoes_inverse : (w : Matrix) (v : Triple) → determinant w *ℤ determinant w ≡ pos 1 → image w (image (inverse w) v) ≡ v
undoes_inverse w v one =
    ap (image w) (image-matrix_multiple (determinant w) (adjugate w) v) ∙ image-multiple w (determinant w) (image (adjugate w) v) ∙ ap (multiple (determinant w)) (image-image_adjugate w v) ∙ unit_twice (determinant w) v one

pub inverse_before : (w : Matrix) → determinant w *ℤ determinant w ≡ pos 1 → product (inverse w) w ≡ identity
inverse_before w one = same_images (product (inverse w) w) identity (λ v. image-product (inverse w) w v ∙ inverse_undoes w v one ∙ sym (image-identity v))

pub inverse_after : (w : Matrix) → determinant w *ℤ determinant w ≡ pos 1 → product w (inverse w) ≡ identity
inverse_after w one = same_images (product w (inverse w)) identity (λ v. image-product w (inverse w) v ∙ undoes_inverse w v one ∙ sym (image-identity v))

pub inverse_unit : (w : Matrix) → determinant w *ℤ determinant w ≡ pos 1 → determinant (inverse w) *ℤ determinant (inverse w) ≡ pos 1
inverse_unit w one = unit_of_product (determinant (inverse w)) (determinant w) (sym (determinant-product (inverse w) w) ∙ ap determinant (inverse_before w one) ∙ determinant-identity)

-- ---- what cancels
pub left_cancel : (m a b : Matrix) → determinant m *ℤ determinant m ≡ pos 1 → product m a ≡ product m b → a ≡ b
left_cancel m a b one e = same_images a b (λ v. cancel_image m (image a v) (image b v) one (sym (image-product m a v) ∙ ap (λ (q : Matrix). image q v) e ∙ image-product m b v))

pub right_cancel : (m a b : Matrix) → determinant m *ℤ determinant m ≡ pos 1 → product a m ≡ product b m → a ≡ b
right_cancel m a b one e =
    same_images a b (λ v. ap (image a) (sym (undoes_inverse m v one)) ∙ sym (image-product a m (image (inverse m) v)) ∙ ap (λ (q : Matrix). image q (image (inverse m) v)) e ∙ image-product b m (image (inverse m) v) ∙ ap (image b) (undoes_inverse m v one))

-- ---- whole cells apart

-- x is y and multiples of d
pub record AreCellsApart (d : ℤ) (x y : Triple) : Type 0 where
  pub cells : Triple
  pub is : x ≡ sum_of y (multiple d cells)

pub apart_sym : (d : ℤ) (x y : Triple) → AreCellsApart d x y → AreCellsApart d y x
apart_sym d x y h = record { cells = multiple (negsuc 0) h.cells; is = taken ∙ ap (λ (v : Triple). sum_of v (multiple d (multiple (negsuc 0) h.cells))) (sym h.is) }
  where
    taken : y ≡ sum_of (sum_of y (multiple d h.cells)) (multiple d (multiple (negsuc 0) h.cells))
    taken =
        let u = vector_of_variables 0 in
        let v = vector_of_variables 3 in
        by_triples (coordinates y ++ coordinates h.cells ++ d ∷ []) u (formulas.sum_of quoted (formulas.sum_of quoted u (formulas.multiple quoted (var 6) v)) (formulas.multiple quoted (var 6) (formulas.multiple quoted (con (negsuc 0)) v))) refl

pub apart_trans : (d : ℤ) (x y z : Triple) → AreCellsApart d x y → AreCellsApart d y z → AreCellsApart d x z
apart_trans d x y z h k = record { cells = sum_of k.cells h.cells; is = h.is ∙ ap (λ (v : Triple). sum_of v (multiple d h.cells)) k.is ∙ together }
  where
    together : sum_of (sum_of z (multiple d k.cells)) (multiple d h.cells) ≡ sum_of z (multiple d (sum_of k.cells h.cells))
    together =
        let u = vector_of_variables 0 in
        let v = vector_of_variables 3 in
        let w = vector_of_variables 6 in
        by_triples (coordinates z ++ coordinates k.cells ++ coordinates h.cells ++ d ∷ [])
        (formulas.sum_of quoted (formulas.sum_of quoted u (formulas.multiple quoted (var 9) v)) (formulas.multiple quoted (var 9) w))
        (formulas.sum_of quoted u (formulas.multiple quoted (var 9) (formulas.sum_of quoted v w))) refl

-- what both have more does not matter
pub apart_less : (d : ℤ) (x y t : Triple) → AreCellsApart d (sum_of x t) (sum_of y t) → AreCellsApart d x y
apart_less d x y t h = record { cells = h.cells; is = sum_cancel x (sum_of y (multiple d h.cells)) t (h.is ∙ sum_swap y t (multiple d h.cells)) }

-- a matrix of determinant 1 or -1 leaves them so
pub apart_before : (d : ℤ) (m : Matrix) (x y : Triple) → determinant m *ℤ determinant m ≡ pos 1 → AreCellsApart d (image m x) (image m y) → AreCellsApart d x y
apart_before d m x y one h = record {
  cells = image (inverse m) h.cells;
  is = cancel_image m x (sum_of y (multiple d (image (inverse m) h.cells))) one
      (h.is ∙ sym (image-sum_of m y (multiple d (image (inverse m) h.cells)) ∙ ap (sum_of (image m y)) (image-multiple m d (image (inverse m) h.cells) ∙ ap (multiple d) (undoes_inverse m h.cells one))));
}
