-- An isometry of a positive metric has determinant 1 or -1, so it takes two positions to two.
use Rattle.std.proofs.Common.{◌≡◌, refl, sym, ap, ◌∙◌, ℕ, zero, suc, ◌*◌, ◌≤◌, [], ◌∷◌, ◌++◌, arith}
use Rattle.std.specs.Prelude.{ℤ, pos, negsuc, ◌*ℤ◌, ◌<ℤ◌, ◌⊎◌, unsigned_abs}
use Rattle.std.proofs.Common.{inl, inr}
use Rattle.std.proofs.lemmas.Int.{ints, unsigned_abs-mul}
use Rattle.std.proofs.Math.Nat.{mul-le-mul_left}
use Rattle.ring.specs.Ring.{quoted, var, con, ◌:*◌}
use Rattle.matrix3.specs.Matrices.{entries, coordinates, matrix_of_variables, vector_of_variables}
use Rattle.matrix3.specs.Matrices as formulas
use Rattle.crystal_spec.specs.Matrices.{Matrix, Triple, product, determinant, transposed, adjugate, image, multiple}
use Rattle.crystal_spec.specs.declared.Sign.{Sign}
use Rattle.crystal_spec.specs.declared.Sign.TheVariants.{Same, Reversed}
use Rattle.crystal_spec.specs.Crystals.{IsPositive, KeepsMetric}
use Rattle.crystal_spec.specs.Operations.{sign_factor}
use Rattle.crystal_spec.proofs.Identities.{by_integers, by_triples}

pub determinant-transposed : (w : Matrix) → determinant (transposed w) ≡ determinant w
determinant-transposed w =
    by_integers (entries w) (formulas.determinant quoted (formulas.transposed (matrix_of_variables 0))) (formulas.determinant quoted (matrix_of_variables 0)) refl

pub determinant-product : (a b : Matrix) → determinant (product a b) ≡ determinant a *ℤ determinant b
determinant-product a b =
    let x = matrix_of_variables 0 in
    let y = matrix_of_variables 9 in
    by_integers (entries a ++ entries b) (formulas.determinant quoted (formulas.product quoted x y)) (formulas.determinant quoted x :* formulas.determinant quoted y) refl

-- the only integer whose product with a positive one is that one
one_times : (a g : ℤ) → pos 0 <ℤ g → a *ℤ g ≡ g → a ≡ pos 1
one_times (pos zero) g p e = omega (arith, ints)
one_times (pos (suc zero)) g p e = refl
one_times (pos (suc (suc n))) (pos m) p e = absurd (omega (arith, ints))
one_times (pos (suc (suc n))) (negsuc m) p e = absurd (omega (arith, ints))
one_times (negsuc n) (pos m) p e = absurd (omega (arith, ints))
one_times (negsuc n) (negsuc m) p e = absurd (omega (arith, ints))

-- the determinant of an isometry of a positive metric has the square 1
pub determinant-isometry : (g w : Matrix) → IsPositive g → KeepsMetric g w → determinant w *ℤ determinant w ≡ pos 1
determinant-isometry g w p k =
    one_times (determinant w *ℤ determinant w) (determinant g) p.third
    (by_integers (determinant w ∷ determinant g ∷ []) (var 0 :* var 0 :* var 1) (var 0 :* (var 1 :* var 0)) refl
    ∙ sym (determinant-product (transposed w) (product g w) ∙ ap (λ h. h *ℤ determinant (product g w)) (determinant-transposed w) ∙ ap (λ h. determinant w *ℤ h) (determinant-product g w))
    ∙ ap determinant k)

-- an integer whose square is 1 is 1 or -1
pub unit_cases : (h : ℤ) → h *ℤ h ≡ pos 1 → (h ≡ pos 1) ⊎ (h ≡ negsuc 0)
unit_cases (pos zero) e = absurd (omega (arith, ints))
unit_cases (pos (suc zero)) e = inl refl
unit_cases (pos (suc (suc n))) e = absurd (omega (arith, ints))
unit_cases (negsuc zero) e = inr refl
unit_cases (negsuc (suc n)) e = absurd (omega (arith, ints))

-- the adjugate undoes a matrix, but for the determinant
pub image-adjugate : (w : Matrix) (v : Triple) → image (adjugate w) (image w v) ≡ multiple (determinant w) v
image-adjugate w v =
    let x = matrix_of_variables 0 in
    let y = vector_of_variables 9 in
    by_triples (entries w ++ coordinates v) (formulas.image quoted (formulas.adjugate quoted x) (formulas.image quoted x y)) (formulas.multiple quoted (formulas.determinant quoted x) y) refl

multiple-multiple : (a b : ℤ) (v : Triple) → multiple a (multiple b v) ≡ multiple (a *ℤ b) v
multiple-multiple a b v =
    let y = vector_of_variables 2 in
    by_triples (a ∷ b ∷ coordinates v) (formulas.multiple quoted (var 0) (formulas.multiple quoted (var 1) y)) (formulas.multiple quoted (var 0 :* var 1) y) refl

pub multiple-one : (v : Triple) → multiple (pos 1) v ≡ v
multiple-one v =
    let y = vector_of_variables 0 in
    by_triples (coordinates v) (formulas.multiple quoted (con (pos 1)) y) y refl

-- a factor whose square is 1 can be cancelled
pub cancel_multiple : (a : ℤ) (u v : Triple) → a *ℤ a ≡ pos 1 → multiple a u ≡ multiple a v → u ≡ v
cancel_multiple a u v one e = sym (once u) ∙ ap (multiple a) e ∙ once v
  where
    once : (v : Triple) → multiple a (multiple a v) ≡ v
    once v = multiple-multiple a a v ∙ ap (λ b. multiple b v) one ∙ multiple-one v

-- a matrix whose determinant has the square 1 takes two triples to two
pub cancel_image : (w : Matrix) (u v : Triple) → determinant w *ℤ determinant w ≡ pos 1 → image w u ≡ image w v → u ≡ v
cancel_image w u v one e = cancel_multiple (determinant w) u v one (sym (image-adjugate w u) ∙ ap (image (adjugate w)) e ∙ image-adjugate w v)

-- a time sign as a factor has the square 1
pub sign_squared : (s : Sign) → sign_factor s *ℤ sign_factor s ≡ pos 1
sign_squared Same = refl
sign_squared Reversed = refl

-- so has a product of such factors
pub unit_product : (a b : ℤ) → a *ℤ a ≡ pos 1 → b *ℤ b ≡ pos 1 → (a *ℤ b) *ℤ (a *ℤ b) ≡ pos 1
unit_product a b p q = by_integers (a ∷ b ∷ []) ((var 0 :* var 1) :* (var 0 :* var 1)) ((var 0 :* var 0) :* (var 1 :* var 1)) refl ∙ ap (λ x. x *ℤ (b *ℤ b)) p ∙ ap (λ x. pos 1 *ℤ x) q

one_natural : (m n : ℕ) → m * n ≡ 1 → m ≡ 1
one_natural zero n e = absurd (omega (arith, e))
one_natural (suc zero) n e = refl
one_natural (suc (suc m)) zero e = absurd (omega (arith, e))
one_natural (suc (suc m)) (suc n) e =
    let more : suc (suc m) * 1 ≤ suc (suc m) * suc n = mul-le-mul_left (suc (suc m)) (omega arith) in
    absurd (omega (arith, e, more))

-- an integer with an inverse has the square 1
pub unit_of_product : (h x : ℤ) → h *ℤ x ≡ pos 1 → h *ℤ h ≡ pos 1
unit_of_product h x e = by h (one_natural (unsigned_abs h) (unsigned_abs x) (sym (unsigned_abs-mul h x) ∙ ap unsigned_abs e))
  where
    by : (h : ℤ) → unsigned_abs h ≡ 1 → h *ℤ h ≡ pos 1
    by (pos zero) p = absurd (cc p)
    by (pos (suc zero)) p = refl
    by (pos (suc (suc n))) p = absurd (cc p)
    by (negsuc zero) p = refl
    by (negsuc (suc n)) p = absurd (cc p)
