-- An operation about a shifted origin is: the shift undone, the operation, and the shift.
use Rattle.std.proofs.Common.{◌≡◌, ℕ, ◌*◌, ◌++◌, refl, sym, ap, ◌∙◌, arith}
use Rattle.std.specs.Prelude.{pos, ◌*ℤ◌, ◌-ℤ◌}
use Rattle.std.proofs.lemmas.Int.{ints}
use Rattle.ring.specs.Ring.{quoted, con}
use Rattle.matrix3.specs.declared.vector.Vec3.{Vec3}
use Rattle.matrix3.specs.Matrices.{entries, coordinates, matrix_of_variables, vector_of_variables, vector_map}
use Rattle.matrix3.specs.Matrices as formulas
use Rattle.crystal_spec.specs.Matrices.{Triple, Matrix, image, identity, product, multiple, sum_of, difference}
use Rattle.crystal_spec.specs.Crystals.{position_after}
use Rattle.crystal_spec.specs.Operations.{Operation}
use Rattle.crystal_spec.proofs.Entrywise.{triple_same}
use Rattle.crystal_spec.proofs.Identities.{by_triples, by_matrices}
use Rattle.basis_spec.specs.Translations.{pure_translation}
use Rattle.op_group.specs.Composition.{IsComposed}
use Rattle.hall_symbol.specs.Symbols.{shifted}
use Rattle.hall_symbol.specs.Compositions.{reduced, then}
use Rattle.hall_symbol.proofs.Compositions.{both_same, reduced_same, reduced_is, then_composed, composed_then, then_within, then_sign}

-- eleven times a number of twelfths undoes it
pub undoes : (x : ℕ) → pos (11 * x) ≡ pos 12 *ℤ pos x -ℤ pos x
undoes x = omega (arith, ints)

pub opposite_is : (v : Vec3 ℕ) (b : Triple) → b ≡ record { x = pos (11 * v.x); y = pos (11 * v.y); z = pos (11 * v.z) } → b ≡ difference (multiple (pos 12) (vector_map pos v)) (vector_map pos v)
opposite_is v b e = e ∙ triple_same (undoes v.x) (undoes v.y) (undoes v.z)

-- w b + o = q + 12 c, I q + t = r + 12 d and b = 12 t - t: o + t - w t = r + 12 (c + d - w t)
turned : (w : Matrix) (b o t q r c d : Triple) → b ≡ difference (multiple (pos 12) t) t → position_after w o b ≡ sum_of q (multiple (pos 12) c) → position_after identity t q ≡ sum_of r (multiple (pos 12) d) →
    difference (sum_of o t) (image w t) ≡ sum_of r (multiple (pos 12) (difference (sum_of c d) (image w t)))
turned w b o t q r c d e f g =
    let m = matrix_of_variables 0 in
    let u9 = vector_of_variables 9 in
    let u12 = vector_of_variables 12 in
    let u15 = vector_of_variables 15 in
    let u18 = vector_of_variables 18 in
    let twelve = con (pos 12) in
    by_triples (entries w ++ coordinates o ++ coordinates t)
    (formulas.difference quoted (formulas.sum_of quoted u9 u12) (formulas.image quoted m u12))
    (formulas.difference quoted (formulas.sum_of quoted (formulas.sum_of quoted (formulas.image quoted m (formulas.difference quoted (formulas.multiple quoted twelve u12) u12)) u9) u12) (formulas.multiple quoted twelve (formulas.image quoted m u12))) refl
    ∙ ap (λ (v : Triple). difference (sum_of (position_after w o v) t) (multiple (pos 12) (image w t))) (sym e)
    ∙ ap (λ (v : Triple). difference (sum_of v t) (multiple (pos 12) (image w t))) f
    ∙ by_triples (entries w ++ coordinates q ++ coordinates c ++ coordinates t)
    (formulas.difference quoted (formulas.sum_of quoted (formulas.sum_of quoted u9 (formulas.multiple quoted twelve u12)) u15) (formulas.multiple quoted twelve (formulas.image quoted m u15)))
    (formulas.difference quoted (formulas.sum_of quoted (formulas.sum_of quoted (formulas.image quoted (formulas.scalar quoted (con (pos 1))) u9) u15) (formulas.multiple quoted twelve u12)) (formulas.multiple quoted twelve (formulas.image quoted m u15))) refl
    ∙ ap (λ (v : Triple). difference (sum_of v (multiple (pos 12) c)) (multiple (pos 12) (image w t))) g
    ∙ by_triples (entries w ++ coordinates r ++ coordinates d ++ coordinates c ++ coordinates t)
    (formulas.difference quoted (formulas.sum_of quoted (formulas.sum_of quoted u9 (formulas.multiple quoted twelve u12)) (formulas.multiple quoted twelve u15)) (formulas.multiple quoted twelve (formulas.image quoted m u18)))
    (formulas.sum_of quoted u9 (formulas.multiple quoted twelve (formulas.difference quoted (formulas.sum_of quoted u15 u12) (formulas.image quoted m u18)))) refl

-- the matrix between two translations
pub product-identity : (w : Matrix) → product w identity ≡ w
product-identity w = by_matrices (entries w) (formulas.product quoted (matrix_of_variables 0) (formulas.scalar quoted (con (pos 1)))) (matrix_of_variables 0) refl

identity-product : (w : Matrix) → product identity w ≡ w
identity-product w = by_matrices (entries w) (formulas.product quoted (formulas.scalar quoted (con (pos 1))) (matrix_of_variables 0)) (matrix_of_variables 0) refl

shift_then : (b t : Triple) (o : Operation) → b ≡ difference (multiple (pos 12) t) t → then (then (pure_translation b) o) (pure_translation t) ≡ shifted t o
shift_then b t o e =
    let q = then (pure_translation b) o in
    let f = then_composed (pure_translation b) o in
    let g = then_composed q (pure_translation t) in
    let m : (then q (pure_translation t)).matrix ≡ o.matrix = g.matrix ∙ identity-product q.matrix ∙ f.matrix ∙ product-identity o.matrix in
    let s : (then q (pure_translation t)).sign ≡ o.sign = then_sign q (pure_translation t) ∙ then_sign (pure_translation b) o ∙ both_same o.sign in
    let p : (then q (pure_translation t)).translation ≡ reduced (difference (sum_of o.translation t) (image o.matrix t)) =
    sym (reduced_is (then q (pure_translation t)).translation (then_within q (pure_translation t)))
    ∙ sym (reduced_same (difference (sum_of o.translation t) (image o.matrix t)) (then q (pure_translation t)).translation (difference (sum_of f.translation.cells g.translation.cells) (image o.matrix t))
    (turned o.matrix b o.translation t q.translation (then q (pure_translation t)).translation f.translation.cells g.translation.cells e f.translation.same g.translation.same)) in
    λ i. record { matrix = m i; translation = p i; sign = s i }

-- the same, of what is composed
pub shifted_is : (b t : Triple) (o q r : Operation) → b ≡ difference (multiple (pos 12) t) t → IsComposed 12 (pure_translation b) o q → IsComposed 12 q (pure_translation t) r → r ≡ shifted t o
shifted_is b t o q r e f g =
    composed_then q (pure_translation t) r g ∙ ap (λ (p : Operation). then p (pure_translation t)) (composed_then (pure_translation b) o q f) ∙ shift_then b t o e
