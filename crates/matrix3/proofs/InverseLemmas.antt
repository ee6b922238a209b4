-- The adjugate times k is the inverse, where the determinant times k is 1.
--   adjugate_inverse_on           over a ring whose laws hold among the elements of P
--   adjugate_inverse_integers     integers, where k is the determinant, 1 or -1
--   unit_of_abs                   an integer of size 1 is 1 or -1
--   adjugate_inverse_fractions    fractions, where k is the reciprocal of the determinant
use Rattle.std.proofs.Common.{◌≡◌, ◌≢◌, ◌∷◌, ◌^◌, ℤ, pos, negsuc, unsigned_abs, ◌*ℤ◌, refl, sym, ap, ap₂, ◌∙◌, subst, arith, Bool, true, false}
use Rattle.std.specs.Prelude.{IsTrue, ◌↔◌}
use Rattle.ring.specs.Ring.{Ops, Expr, var, quoted, int_ops}
use Rattle.ring.specs.Size.{AtMost}
use Rattle.ring.proofs.RingSound.{LawsOn, everywhere}
use Rattle.ring.proofs.IntRing.{int_laws}
use Rattle.ring.proofs.Sizes.{at_most_mul, weaken}
use Rattle.numbers.specs.Fraction.{Fraction, fraction_ops, IsLowest, whole, reciprocal}
use Rattle.numbers.proofs.FractionLemmas.{reciprocal_is, multiply-reciprocal, zero_is}
use Rattle.numbers.proofs.FractionRing.{fraction_laws}
use Rattle.exact_num.specs.declared.frac.Frac.{Frac}
use Rattle.exact_num.specs.Meanings.{fraction_of}
use Rattle.matrix3.specs.declared.matrix.Mat3.{Mat3}
use Rattle.matrix3.specs.Matrices.{product, determinant, adjugate, scalar, matrix_map, entries, matrix_of_variables, EachEntry}
use Rattle.matrix3.specs.Fits.{AdjugateFits}
use Rattle.matrix3.specs.Inverse.{IsInverse, IsUnit, one, minus_one, quotient_by}
use Rattle.matrix3.proofs.MatrixLaws.{by_ring_matrix_on, entries_in}

module _ {R : Type 0} (o : Ops R) (P : R → Type 0) (L : LawsOn o P) where
  open o use {◌⊗◌, int}

  -- the adjugate times k is the inverse, where the determinant times k is 1
  pub adjugate_inverse_on : (a : Mat3 R) (k : R) → EachEntry P a → P k → determinant o a ⊗ k ≡ int (pos 1) → IsInverse o a (matrix_map (λ x. x ⊗ k) (adjugate o a))
  adjugate_inverse_on a k p q e =
      let A = matrix_of_variables 1 in
      let B = matrix_map (λ x. Expr.product x (var 0)) (adjugate quoted A) in
      let D = scalar quoted (Expr.product (determinant quoted A) (var 0)) in
      record {
        left = by_ring_matrix_on o P L (k ∷ entries a) (q, entries_in P a p) (product quoted B A) D refl ∙ ap (scalar o) e;
        right = by_ring_matrix_on o P L (k ∷ entries a) (q, entries_in P a p) (product quoted A B) D refl ∙ ap (scalar o) e;
      }

-- 1 and -1 are their own reciprocals
unit-squared : (d : ℤ) → IsUnit d → d *ℤ d ≡ pos 1
unit-squared _ one = refl
unit-squared _ minus_one = refl

-- an integer times 1 or -1 is of the same size
unit-size : (d x : ℤ) → IsUnit d → AtMost (10 ^ 36) x → AtMost (10 ^ 36) (x *ℤ d)
unit-size d x u h = weaken (10 ^ 36) (at_most_mul h (unit_is u)) tt
  where
    unit_is : {d : ℤ} → IsUnit d → AtMost 1 d
    unit_is one = record { size = omega arith }
    unit_is minus_one = record { size = omega arith }

-- an integer of size 1 is 1 or -1
pub unit_of_abs : (d : ℤ) → unsigned_abs d ≡ 1 → IsUnit d
unit_of_abs (pos n) h = subst (λ k. IsUnit (pos k)) (sym h) one
unit_of_abs (negsuc n) h = let e : n ≡ 0 = omega arith in subst (λ k. IsUnit (negsuc k)) (sym e) minus_one

-- integers: d is the determinant, 1 or -1, and b the adjugate
module _ (a : Mat3 ℤ) (d : ℤ) (b : Mat3 ℤ) (u : IsUnit (determinant int_ops a)) (ed : d ≡ determinant int_ops a) (eb : b ≡ adjugate int_ops a) where
  -- the entries of the adjugate times the determinant are values of the type
  pub adjugate_times_unit_fits : AdjugateFits int_ops (AtMost (10 ^ 36)) a → EachEntry (AtMost (10 ^ 36)) (matrix_map (λ x. x *ℤ d) b)
  adjugate_times_unit_fits f =
      let k : IsUnit d = subst IsUnit (sym ed) u in
      subst (λ (m : Mat3 ℤ). EachEntry (AtMost (10 ^ 36)) (matrix_map (λ x. x *ℤ d) m)) (sym eb) (record {
        a11 = unit-size d _ k f.a11.difference;
        a12 = unit-size d _ k f.a12.difference;
        a13 = unit-size d _ k f.a13.difference;
        a21 = unit-size d _ k f.a21.difference;
        a22 = unit-size d _ k f.a22.difference;
        a23 = unit-size d _ k f.a23.difference;
        a31 = unit-size d _ k f.a31.difference;
        a32 = unit-size d _ k f.a32.difference;
        a33 = unit-size d _ k f.a33.difference;
      })

  -- and they are the inverse
  pub adjugate_inverse_integers : (r : Mat3 ℤ) → r ≡ matrix_map (λ x. x *ℤ d) b → IsInverse int_ops a r
  adjugate_inverse_integers r er =
      let t : EachEntry (λ (_ : ℤ). Unit {0}) a = record { a11 = tt; a12 = tt; a13 = tt; a21 = tt; a22 = tt; a23 = tt; a31 = tt; a32 = tt; a33 = tt } in
      subst (IsInverse int_ops a) (sym (er ∙ ap₂ (λ (k : ℤ) (m : Mat3 ℤ). matrix_map (λ x. x *ℤ k) m) ed eb)) (adjugate_inverse_on int_ops (λ _. Unit {0}) (everywhere int_ops int_laws) a (determinant int_ops a) t tt (unit-squared _ u))

-- what a test answered `false` for does not hold
pub fails : {A : Type 0} (b : Bool) → IsTrue b ↔ A → b ≡ false → A → ⊥
fails true h e a = cc
fails false h e a = let t : false ≡ true = h.1 a in cc

-- a fraction that is not 0 has a numerator that is not 0
pub numerator_not_zero : (p : Fraction) → IsLowest p → p ≢ whole (pos 0) → p.numerator ≢ pos 0
numerator_not_zero p h other e = other (zero_is p.numerator p.denominator h e)

-- fractions: the adjugate b divided by the determinant d, where that is not 0
pub adjugate_inverse_fractions : (a : Mat3 Frac) (d : Frac) (b r : Mat3 Frac) → fraction_of d ≢ whole (pos 0) → fraction_of d ≡ determinant fraction_ops (matrix_map fraction_of a) → matrix_map fraction_of b ≡ adjugate fraction_ops (matrix_map fraction_of a) → matrix_map fraction_of r ≡ matrix_map (quotient_by (fraction_of d)) (matrix_map fraction_of b) → IsInverse fraction_ops (matrix_map fraction_of a) (matrix_map fraction_of r)
adjugate_inverse_fractions a d b r other ed eb er =
    let m = matrix_map fraction_of a in
    let p : EachEntry IsLowest m = record { a11 = a.a11.lowest; a12 = a.a12.lowest; a13 = a.a13.lowest; a21 = a.a21.lowest; a22 = a.a22.lowest; a23 = a.a23.lowest; a31 = a.a31.lowest; a32 = a.a32.lowest; a33 = a.a33.lowest } in
    let nonzero = numerator_not_zero (fraction_of d) d.lowest other in
    let unit = multiply-reciprocal d.num d.den d.lowest nonzero in
    subst (IsInverse fraction_ops m) (sym (er ∙ ap (matrix_map (quotient_by (fraction_of d))) eb)) (adjugate_inverse_on fraction_ops IsLowest fraction_laws m (reciprocal (fraction_of d)) p (reciprocal_is d.num d.den d.lowest nonzero) (ap (quotient_by (fraction_of d)) (sym ed) ∙ unit))
