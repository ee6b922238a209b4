-- Basis changes of determinant 1 from one metric tensor to another, one after the other.
--   tensor_of_variables      the tensor of the variables 0 to 5, for identities by computation
--   tensor_entries t         its six entries
--   congruent o w g          wᵀ g w, the metric g in the basis of the columns of w
--   IsBasisChange g s p q    the basis change p leads from the metric g to s, has determinant 1 and the inverse q
--   change_start             the identity is one
--   change_more              one more basis change after another
--   change_back              the inverse leads back
use Rattle.std.proofs.Common.{◌≡◌, ℤ, pos, ◌*ℤ◌, List, [], ◌∷◌, ◌++◌, refl, sym, ◌∙◌, ap}
use Rattle.ring.specs.Ring.{Ops, Expr, int_ops, var, con, quoted}
use Rattle.ring.proofs.IntRing.{int_laws}
use Rattle.matrix3.specs.declared.matrix.Mat3.{Mat3}
use Rattle.matrix3.specs.Matrices.{product, transposed, determinant, scalar, entries, matrix_of_variables}
use Rattle.matrix3.proofs.MatrixLaws.{by_ring_matrix, product_assoc, determinant-product}
use Rattle.crystal_spec.specs.Matrices.{Matrix, identity}
use Rattle.lattice_spec.specs.Tensor.{Tensor}

-- the tensor of the variables 0 to 5
abbrev pub tensor_of_variables : Tensor Expr
tensor_of_variables = record { aa = var 0; bb = var 1; cc = var 2; bc = var 3; ac = var 4; ab = var 5 }

-- the six entries
abbrev pub tensor_entries : {R : Type 0} → Tensor R → List R
tensor_entries t = t.aa ∷ t.bb ∷ t.cc ∷ t.bc ∷ t.ac ∷ t.ab ∷ []

-- wᵀ g w
abbrev pub congruent : {R : Type 0} → Ops R → Mat3 R → Mat3 R → Mat3 R
congruent o w g = product o (transposed w) (product o g w)

-- the basis change p leads from g to s, keeps the volume and the handedness, and q undoes it
pub record IsBasisChange (g s p q : Matrix) : Type 0 where
  pub metric : congruent int_ops p g ≡ s
  pub unit_determinant : determinant int_ops p ≡ pos 1
  pub inverse : product int_ops p q ≡ identity
  pub inverse_left : product int_ops q p ≡ identity

-- one congruence after another is that of the product
pub congruent-congruent : (g w v : Matrix) → congruent int_ops v (congruent int_ops w g) ≡ congruent int_ops (product int_ops w v) g
congruent-congruent g w v =
    let G = matrix_of_variables 0 in
    let W = matrix_of_variables 9 in
    let V = matrix_of_variables 18 in
    by_ring_matrix int_ops int_laws (entries g ++ entries w ++ entries v) (congruent quoted V (congruent quoted W G)) (congruent quoted (product quoted W V) G) refl

congruent-identity : (g : Matrix) → congruent int_ops identity g ≡ g
congruent-identity g =
    by_ring_matrix int_ops int_laws (entries g) (congruent quoted (scalar quoted (con (pos 1))) (matrix_of_variables 0)) (matrix_of_variables 0) refl

identity-product : (a : Matrix) → product int_ops identity a ≡ a
identity-product a =
    by_ring_matrix int_ops int_laws (entries a) (product quoted (scalar quoted (con (pos 1))) (matrix_of_variables 0)) (matrix_of_variables 0) refl

middle : (a t u b : Matrix) → product int_ops t u ≡ identity → product int_ops a b ≡ identity → product int_ops (product int_ops a t) (product int_ops u b) ≡ identity
middle a t u b h k =
    product_assoc int_ops int_laws a t (product int_ops u b)
    ∙ ap (product int_ops a) (sym (product_assoc int_ops int_laws t u b) ∙ ap (λ (m : Matrix). product int_ops m b) h ∙ identity-product b) ∙ k

-- the identity changes nothing
pub change_start : (g : Matrix) → IsBasisChange g g identity identity
change_start g = record { metric = congruent-identity g; unit_determinant = refl; inverse = refl; inverse_left = refl }

-- a basis change t from s to s' after one from g to s
pub change_more : (g s s' p q t u : Matrix) → IsBasisChange g s p q → IsBasisChange s s' t u → IsBasisChange g s' (product int_ops p t) (product int_ops u q)
change_more g s s' p q t u r k = record {
  metric = sym (congruent-congruent g p t) ∙ ap (congruent int_ops t) r.metric ∙ k.metric;
  unit_determinant = determinant-product int_ops int_laws p t ∙ ap (λ (z : ℤ). z *ℤ determinant int_ops t) r.unit_determinant ∙ ap (λ (z : ℤ). pos 1 *ℤ z) k.unit_determinant;
  inverse = middle p t u q k.inverse r.inverse;
  inverse_left = middle u q p t r.inverse_left k.inverse_left;
}

-- the inverse leads back to the first metric
pub change_back : (g s p q : Matrix) → IsBasisChange g s p q → congruent int_ops q s ≡ g
change_back g s p q r =
    ap (congruent int_ops q) (sym r.metric) ∙ congruent-congruent g p q ∙ ap (λ (m : Matrix). congruent int_ops m g) r.inverse ∙ congruent-identity g
