-- The laws of three by three matrices over a commutative ring, of any size.
--   product_assoc             (A B) C = A (B C)
--   image-product             (A B) v = A (B v)
--   transposed-product        (A B)ᵀ = Bᵀ Aᵀ
--   determinant-product       det (A B) = det A · det B
--   determinant-transposed    det Aᵀ = det A
--   product-adjugate          adj(A) A = det A · I
--   product-adjugate_right    A adj(A) = det A · I
--   product-scalar            (k I) A = k A, at k = 1: I A = A
--   by_ring_matrix            an identity of matrices by computation, entry by entry; by_ring_vector of columns
-- Each stands twice: where the ring's laws hold among the elements of P alone, with the ending `_on` and the premise that
-- P holds for the entries; and where they hold among all elements. At numbers of a type `T: Exact` the first is used, with
-- `T.ring m`, `T.IsProper m` and `T.laws m`.
use Rattle.std.proofs.Common.{◌≡◌, List, [], ◌∷◌, ◌++◌, pos, refl, ap}
use Rattle.ring.specs.Ring.{Ops, Expr, var, quoted, norm, eval, env_of}
use Rattle.ring.proofs.RingSound.{Laws, LawsOn, everywhere}
use Rattle.ring.proofs.Solving.{AllIn, at, by_ring_on}
use Rattle.matrix3.specs.declared.vector.Vec3.{Vec3}
use Rattle.matrix3.specs.declared.matrix.Mat3.{Mat3}
use Rattle.matrix3.specs.Matrices.{product, image, transposed, determinant, adjugate, scalar, matrix_map, vector_map, entries, coordinates, matrix_of_variables, vector_of_variables, EachEntry, EachCoordinate}

-- P holds for each entry, and for each coordinate, in order
pub entries_in : {R : Type 0} (P : R → Type 0) (a : Mat3 R) → EachEntry P a → AllIn P (entries a)
entries_in P a p = (p.a11, (p.a12, (p.a13, (p.a21, (p.a22, (p.a23, (p.a31, (p.a32, (p.a33, tt)))))))))

pub coordinates_in : {R : Type 0} (P : R → Type 0) (v : Vec3 R) → EachCoordinate P v → AllIn P (coordinates v)
coordinates_in P v p = (p.x, (p.y, (p.z, tt)))

-- P holds for each of two lists
pub both_in : {R : Type 0} (P : R → Type 0) (xs ys : List R) → AllIn P xs → AllIn P ys → AllIn P (xs ++ ys)
both_in P [] ys p q = q
both_in P (x ∷ xs) ys p q = (p.0, both_in P xs ys p.1 q)

-- where the laws hold among the elements of P
module _ {R : Type 0} (o : Ops R) (P : R → Type 0) (L : LawsOn o P) where
  open o use {◌⊗◌, int}

  -- matrices of expressions that come to one polynomial in each entry have one value
  pub by_ring_matrix_on : (xs : List R) → AllIn P xs → (s t : Mat3 Expr) → matrix_map norm s ≡ matrix_map norm t → matrix_map (eval o (env_of (int (pos 0)) xs)) s ≡ matrix_map (eval o (env_of (int (pos 0)) xs)) t
  by_ring_matrix_on xs ps s t e = λ k. record {
    a11 = by_ring_on o P L xs ps s.a11 t.a11 (ap (λ m. m.a11) e) k;
    a12 = by_ring_on o P L xs ps s.a12 t.a12 (ap (λ m. m.a12) e) k;
    a13 = by_ring_on o P L xs ps s.a13 t.a13 (ap (λ m. m.a13) e) k;
    a21 = by_ring_on o P L xs ps s.a21 t.a21 (ap (λ m. m.a21) e) k;
    a22 = by_ring_on o P L xs ps s.a22 t.a22 (ap (λ m. m.a22) e) k;
    a23 = by_ring_on o P L xs ps s.a23 t.a23 (ap (λ m. m.a23) e) k;
    a31 = by_ring_on o P L xs ps s.a31 t.a31 (ap (λ m. m.a31) e) k;
    a32 = by_ring_on o P L xs ps s.a32 t.a32 (ap (λ m. m.a32) e) k;
    a33 = by_ring_on o P L xs ps s.a33 t.a33 (ap (λ m. m.a33) e) k;
  }

  -- and columns of expressions
  pub by_ring_vector_on : (xs : List R) → AllIn P xs → (s t : Vec3 Expr) → vector_map norm s ≡ vector_map norm t → vector_map (eval o (env_of (int (pos 0)) xs)) s ≡ vector_map (eval o (env_of (int (pos 0)) xs)) t
  by_ring_vector_on xs ps s t e = λ k. record {
    x = by_ring_on o P L xs ps s.x t.x (ap (λ v. v.x) e) k;
    y = by_ring_on o P L xs ps s.y t.y (ap (λ v. v.y) e) k;
    z = by_ring_on o P L xs ps s.z t.z (ap (λ v. v.z) e) k;
  }

  -- (A B) C = A (B C)
  pub product_assoc_on : (a b c : Mat3 R) → EachEntry P a → EachEntry P b → EachEntry P c → product o (product o a b) c ≡ product o a (product o b c)
  product_assoc_on a b c p q r =
      let A = matrix_of_variables 0 in
      let B = matrix_of_variables 9 in
      let C = matrix_of_variables 18 in
      by_ring_matrix_on (entries a ++ (entries b ++ entries c)) (both_in P (entries a) (entries b ++ entries c) (entries_in P a p) (both_in P (entries b) (entries c) (entries_in P b q) (entries_in P c r))) (product quoted (product quoted A B) C) (product quoted A (product quoted B C)) refl

  -- (A B) v = A (B v)
  pub image-product_on : (a b : Mat3 R) (v : Vec3 R) → EachEntry P a → EachEntry P b → EachCoordinate P v → image o (product o a b) v ≡ image o a (image o b v)
  image-product_on a b v p q r =
      let A = matrix_of_variables 0 in
      let B = matrix_of_variables 9 in
      let V = vector_of_variables 18 in
      by_ring_vector_on (entries a ++ (entries b ++ coordinates v)) (both_in P (entries a) (entries b ++ coordinates v) (entries_in P a p) (both_in P (entries b) (coordinates v) (entries_in P b q) (coordinates_in P v r))) (image quoted (product quoted A B) V) (image quoted A (image quoted B V)) refl

  -- (A B)ᵀ = Bᵀ Aᵀ
  pub transposed-product_on : (a b : Mat3 R) → EachEntry P a → EachEntry P b → transposed (product o a b) ≡ product o (transposed b) (transposed a)
  transposed-product_on a b p q =
      let A = matrix_of_variables 0 in
      let B = matrix_of_variables 9 in
      by_ring_matrix_on (entries a ++ entries b) (both_in P (entries a) (entries b) (entries_in P a p) (entries_in P b q)) (transposed (product quoted A B)) (product quoted (transposed B) (transposed A)) refl

  -- det (A B) = det A · det B
  pub determinant-product_on : (a b : Mat3 R) → EachEntry P a → EachEntry P b → determinant o (product o a b) ≡ determinant o a ⊗ determinant o b
  determinant-product_on a b p q =
      let A = matrix_of_variables 0 in
      let B = matrix_of_variables 9 in
      by_ring_on o P L (entries a ++ entries b) (both_in P (entries a) (entries b) (entries_in P a p) (entries_in P b q)) (determinant quoted (product quoted A B)) (Expr.product (determinant quoted A) (determinant quoted B)) refl

  -- det Aᵀ = det A
  pub determinant-transposed_on : (a : Mat3 R) → EachEntry P a → determinant o (transposed a) ≡ determinant o a
  determinant-transposed_on a p =
      let A = matrix_of_variables 0 in
      by_ring_on o P L (entries a) (entries_in P a p) (determinant quoted (transposed A)) (determinant quoted A) refl

  -- adj(A) A = det A · I
  pub product-adjugate_on : (a : Mat3 R) → EachEntry P a → product o (adjugate o a) a ≡ scalar o (determinant o a)
  product-adjugate_on a p =
      let A = matrix_of_variables 0 in
      by_ring_matrix_on (entries a) (entries_in P a p) (product quoted (adjugate quoted A) A) (scalar quoted (determinant quoted A)) refl

  -- A adj(A) = det A · I
  pub product-adjugate_right_on : (a : Mat3 R) → EachEntry P a → product o a (adjugate o a) ≡ scalar o (determinant o a)
  product-adjugate_right_on a p =
      let A = matrix_of_variables 0 in
      by_ring_matrix_on (entries a) (entries_in P a p) (product quoted A (adjugate quoted A)) (scalar quoted (determinant quoted A)) refl

  -- (k I) A has each entry of A times k
  pub product-scalar_on : (k : R) (a : Mat3 R) → P k → EachEntry P a → product o (scalar o k) a ≡ matrix_map (λ x. k ⊗ x) a
  product-scalar_on k a p q =
      let A = matrix_of_variables 1 in
      by_ring_matrix_on (k ∷ entries a) (p, entries_in P a q) (product quoted (scalar quoted (var 0)) A) (matrix_map (Expr.product (var 0)) A) refl

  -- A (k I) has each entry of A times k
  pub product-scalar_right_on : (k : R) (a : Mat3 R) → P k → EachEntry P a → product o a (scalar o k) ≡ matrix_map (λ x. k ⊗ x) a
  product-scalar_right_on k a p q =
      let A = matrix_of_variables 1 in
      by_ring_matrix_on (k ∷ entries a) (p, entries_in P a q) (product quoted A (scalar quoted (var 0))) (matrix_map (Expr.product (var 0)) A) refl

-- what asks nothing holds for each entry
each : {R : Type 0} (a : Mat3 R) → EachEntry (λ (_ : R). Unit {0}) a
each a = record { a11 = tt; a12 = tt; a13 = tt; a21 = tt; a22 = tt; a23 = tt; a31 = tt; a32 = tt; a33 = tt }

all : {R : Type 0} (xs : List R) → AllIn (λ (_ : R). Unit {0}) xs
all [] = tt
all (x ∷ xs) = (tt, all xs)

-- where they hold among all elements
module _ {R : Type 0} (o : Ops R) (L : Laws o) where
  open o use {◌⊗◌}

  -- matrices of expressions that come to one polynomial in each entry have one value
  pub by_ring_matrix : (xs : List R) (s t : Mat3 Expr) → matrix_map norm s ≡ matrix_map norm t → matrix_map (eval o (at o L xs)) s ≡ matrix_map (eval o (at o L xs)) t
  by_ring_matrix xs = by_ring_matrix_on o (λ _. Unit {0}) (everywhere o L) xs (all xs)

  -- and columns of expressions
  pub by_ring_vector : (xs : List R) (s t : Vec3 Expr) → vector_map norm s ≡ vector_map norm t → vector_map (eval o (at o L xs)) s ≡ vector_map (eval o (at o L xs)) t
  by_ring_vector xs = by_ring_vector_on o (λ _. Unit {0}) (everywhere o L) xs (all xs)

  -- (A B) C = A (B C)
  pub product_assoc : (a b c : Mat3 R) → product o (product o a b) c ≡ product o a (product o b c)
  product_assoc a b c = product_assoc_on o (λ _. Unit {0}) (everywhere o L) a b c (each a) (each b) (each c)

  -- (A B) v = A (B v)
  pub image-product : (a b : Mat3 R) (v : Vec3 R) → image o (product o a b) v ≡ image o a (image o b v)
  image-product a b v =
      image-product_on o (λ _. Unit {0}) (everywhere o L) a b v (each a) (each b) (record { x = tt; y = tt; z = tt })

  -- (A B)ᵀ = Bᵀ Aᵀ
  pub transposed-product : (a b : Mat3 R) → transposed (product o a b) ≡ product o (transposed b) (transposed a)
  transposed-product a b = transposed-product_on o (λ _. Unit {0}) (everywhere o L) a b (each a) (each b)

  -- det (A B) = det A · det B
  pub determinant-product : (a b : Mat3 R) → determinant o (product o a b) ≡ determinant o a ⊗ determinant o b
  determinant-product a b = determinant-product_on o (λ _. Unit {0}) (everywhere o L) a b (each a) (each b)

  -- det Aᵀ = det A
  pub determinant-transposed : (a : Mat3 R) → determinant o (transposed a) ≡ determinant o a
  determinant-transposed a = determinant-transposed_on o (λ _. Unit {0}) (everywhere o L) a (each a)

  -- adj(A) A = det A · I
  pub product-adjugate : (a : Mat3 R) → product o (adjugate o a) a ≡ scalar o (determinant o a)
  product-adjugate a = product-adjugate_on o (λ _. Unit {0}) (everywhere o L) a (each a)

  -- A adj(A) = det A · I
  pub product-adjugate_right : (a : Mat3 R) → product o a (adjugate o a) ≡ scalar o (determinant o a)
  product-adjugate_right a = product-adjugate_right_on o (λ _. Unit {0}) (everywhere o L) a (each a)

  -- (k I) A has each entry of A times k
  pub product-scalar : (k : R) (a : Mat3 R) → product o (scalar o k) a ≡ matrix_map (λ x. k ⊗ x) a
  product-scalar k a = product-scalar_on o (λ _. Unit {0}) (everywhere o L) k a tt (each a)

  -- A (k I) has each entry of A times k
  pub product-scalar_right : (k : R) (a : Mat3 R) → product o a (scalar o k) ≡ matrix_map (λ x. k ⊗ x) a
  product-scalar_right k a = product-scalar_right_on o (λ _. Unit {0}) (everywhere o L) k a tt (each a)
