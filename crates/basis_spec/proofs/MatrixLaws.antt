-- The laws of columns and matrices of integers, each by computation: both sides come to one polynomial in each entry.
-- A law is named by the left side of its equation: `image-product` tells of the image under a product.
use Rattle.std.proofs.Common.{◌≡◌, ℤ, pos, negsuc, ◌*ℤ◌, [], ◌∷◌, ◌++◌, refl, sym, ◌∙◌}
use Rattle.ring.specs.Ring.{Expr, quoted, var, con, ◌:*◌, int_ops}
use Rattle.matrix3.specs.declared.vector.Vec3.{Vec3}
use Rattle.matrix3.specs.declared.matrix.Mat3.{Mat3}
use Rattle.matrix3.specs.Matrices.{dot, entries, coordinates, matrix_of_variables, vector_of_variables}
use Rattle.matrix3.specs.Matrices as formulas
use Rattle.crystal_spec.specs.Matrices.{Triple, Matrix, product, difference, image, determinant, adjugate, multiple, sum_of, identity, transposed}
use Rattle.crystal_spec.proofs.Identities.{by_integers, by_triples, by_matrices}
pub use Rattle.crystal_spec.proofs.MatrixLaws.{quoted_multiple, image-product, image-identity, image-matrix_multiple, multiple_swap, product-matrix_multiple_left, product-matrix_multiple_right}
use Rattle.positions.specs.Positions.{triple, origin}
use Rattle.basis_spec.specs.Metrics.{matrix_multiple, metric_in}

-- this crate's words as expressions
abbrev quoted_metric : Mat3 Expr → Mat3 Expr → Mat3 Expr
quoted_metric p g = formulas.product quoted (formulas.transposed p) (formulas.product quoted g p)

abbrev quoted_origin : Vec3 Expr
quoted_origin = record { x = con (pos 0); y = con (pos 0); z = con (pos 0) }

-- the squared length vᵀ g v of a vector under the metric tensor g
abbrev pub squared_length : Matrix → Triple → ℤ
squared_length g v = dot int_ops v.x v.y v.z (image g v).x (image g v).y (image g v).z

abbrev quoted_norm : Mat3 Expr → Vec3 Expr → Expr
quoted_norm g v = dot quoted v.x v.y v.z (formulas.image quoted g v).x (formulas.image quoted g v).y (formulas.image quoted g v).z

pub product_assoc : (a b c : Matrix) → product (product a b) c ≡ product a (product b c)
product_assoc a b c =
    let x = matrix_of_variables 0 in
    let y = matrix_of_variables 9 in
    let z = matrix_of_variables 18 in
    by_matrices (entries a ++ entries b ++ entries c) (formulas.product quoted (formulas.product quoted x y) z) (formulas.product quoted x (formulas.product quoted y z)) refl

pub image-sum_of : (a : Matrix) (u v : Triple) → image a (sum_of u v) ≡ sum_of (image a u) (image a v)
image-sum_of a u v =
    let x = matrix_of_variables 0 in
    let y = vector_of_variables 9 in
    let z = vector_of_variables 12 in
    by_triples (entries a ++ coordinates u ++ coordinates v) (formulas.image quoted x (formulas.sum_of quoted y z)) (formulas.sum_of quoted (formulas.image quoted x y) (formulas.image quoted x z)) refl

pub image-multiple : (a : Matrix) (k : ℤ) (v : Triple) → image a (multiple k v) ≡ multiple k (image a v)
image-multiple a k v =
    let x = matrix_of_variables 0 in
    let y = vector_of_variables 10 in
    by_triples (entries a ++ k ∷ coordinates v) (formulas.image quoted x (formulas.multiple quoted (var 9) y)) (formulas.multiple quoted (var 9) (formulas.image quoted x y)) refl

pub multiple-multiple : (k l : ℤ) (v : Triple) → multiple k (multiple l v) ≡ multiple (k *ℤ l) v
multiple-multiple k l v =
    let x = vector_of_variables 2 in
    by_triples (k ∷ l ∷ coordinates v) (formulas.multiple quoted (var 0) (formulas.multiple quoted (var 1) x)) (formulas.multiple quoted (var 0 :* var 1) x) refl

pub multiple-sum_of : (k : ℤ) (u v : Triple) → multiple k (sum_of u v) ≡ sum_of (multiple k u) (multiple k v)
multiple-sum_of k u v =
    let x = vector_of_variables 1 in
    let y = vector_of_variables 4 in
    by_triples (k ∷ coordinates u ++ coordinates v) (formulas.multiple quoted (var 0) (formulas.sum_of quoted x y)) (formulas.sum_of quoted (formulas.multiple quoted (var 0) x) (formulas.multiple quoted (var 0) y)) refl

pub multiple-zero : (v : Triple) → multiple (pos 0) v ≡ origin
multiple-zero v =
    let x = vector_of_variables 0 in
    by_triples (coordinates v) (formulas.multiple quoted (con (pos 0)) x) quoted_origin refl

pub multiple-origin : (k : ℤ) → multiple k origin ≡ origin
multiple-origin k =
    by_triples (k ∷ []) (formulas.multiple quoted (var 0) quoted_origin) quoted_origin refl

pub sum_comm : (u v : Triple) → sum_of u v ≡ sum_of v u
sum_comm u v =
    let x = vector_of_variables 0 in
    let y = vector_of_variables 3 in
    by_triples (coordinates u ++ coordinates v) (formulas.sum_of quoted x y) (formulas.sum_of quoted y x) refl

pub sum_assoc : (u v w : Triple) → sum_of (sum_of u v) w ≡ sum_of u (sum_of v w)
sum_assoc u v w =
    let x = vector_of_variables 0 in
    let y = vector_of_variables 3 in
    let z = vector_of_variables 6 in
    by_triples (coordinates u ++ coordinates v ++ coordinates w) (formulas.sum_of quoted (formulas.sum_of quoted x y) z) (formulas.sum_of quoted x (formulas.sum_of quoted y z)) refl

pub sum_swap : (u v w : Triple) → sum_of (sum_of u v) w ≡ sum_of (sum_of u w) v
sum_swap u v w =
    let x = vector_of_variables 0 in
    let y = vector_of_variables 3 in
    let z = vector_of_variables 6 in
    by_triples (coordinates u ++ coordinates v ++ coordinates w) (formulas.sum_of quoted (formulas.sum_of quoted x y) z) (formulas.sum_of quoted (formulas.sum_of quoted x z) y) refl

pub sum_of-origin : (u : Triple) → sum_of u origin ≡ u
sum_of-origin u =
    let x = vector_of_variables 0 in
    by_triples (coordinates u) (formulas.sum_of quoted x quoted_origin) x refl

pub add_subtract : (u v : Triple) → sum_of (sum_of u v) (multiple (negsuc 0) v) ≡ u
add_subtract u v =
    let x = vector_of_variables 0 in
    let y = vector_of_variables 3 in
    by_triples (coordinates u ++ coordinates v) (formulas.sum_of quoted (formulas.sum_of quoted x y) (formulas.multiple quoted (con (negsuc 0)) y)) x refl

pub subtract_add : (u v : Triple) → sum_of (sum_of u (multiple (negsuc 0) v)) v ≡ u
subtract_add u v =
    let x = vector_of_variables 0 in
    let y = vector_of_variables 3 in
    by_triples (coordinates u ++ coordinates v) (formulas.sum_of quoted (formulas.sum_of quoted x (formulas.multiple quoted (con (negsuc 0)) y)) y) x refl

pub add_difference : (u v : Triple) → sum_of v (sum_of u (multiple (negsuc 0) v)) ≡ u
add_difference u v =
    let x = vector_of_variables 0 in
    let y = vector_of_variables 3 in
    by_triples (coordinates u ++ coordinates v) (formulas.sum_of quoted y (formulas.sum_of quoted x (formulas.multiple quoted (con (negsuc 0)) y))) x refl

pub difference_is : (u v : Triple) → difference u v ≡ sum_of u (multiple (negsuc 0) v)
difference_is u v =
    let x = vector_of_variables 0 in
    let y = vector_of_variables 3 in
    by_triples (coordinates u ++ coordinates v) (formulas.difference quoted x y) (formulas.sum_of quoted x (formulas.multiple quoted (con (negsuc 0)) y)) refl

pub image-image_adjugate : (a : Matrix) (v : Triple) → image a (image (adjugate a) v) ≡ multiple (determinant a) v
image-image_adjugate a v =
    let x = matrix_of_variables 0 in
    let y = vector_of_variables 9 in
    by_triples (entries a ++ coordinates v) (formulas.image quoted x (formulas.image quoted (formulas.adjugate quoted x) y)) (formulas.multiple quoted (formulas.determinant quoted x) y) refl

pub determinant-matrix_multiple : (k : ℤ) (a : Matrix) → determinant (matrix_multiple k a) ≡ (k *ℤ (k *ℤ k)) *ℤ determinant a
determinant-matrix_multiple k a =
    let x = matrix_of_variables 1 in
    by_integers (k ∷ entries a) (formulas.determinant quoted (quoted_multiple (var 0) x)) ((var 0 :* (var 0 :* var 0)) :* formulas.determinant quoted x) refl

pub determinant-metric_in : (w g : Matrix) → determinant (metric_in w g) ≡ (determinant w *ℤ determinant w) *ℤ determinant g
determinant-metric_in w g =
    let x = matrix_of_variables 0 in
    let y = matrix_of_variables 9 in
    by_integers (entries w ++ entries g) (formulas.determinant quoted (quoted_metric x y)) ((formulas.determinant quoted x :* formulas.determinant quoted x) :* formulas.determinant quoted y) refl

pub determinant-adjugate : (a : Matrix) → determinant (adjugate a) ≡ determinant a *ℤ determinant a
determinant-adjugate a =
    let x = matrix_of_variables 0 in
    by_integers (entries a) (formulas.determinant quoted (formulas.adjugate quoted x)) (formulas.determinant quoted x :* formulas.determinant quoted x) refl

pub metric_in-product : (v w g : Matrix) → metric_in (product v w) g ≡ metric_in w (metric_in v g)
metric_in-product v w g =
    let x = matrix_of_variables 0 in
    let y = matrix_of_variables 9 in
    let z = matrix_of_variables 18 in
    by_matrices (entries v ++ entries w ++ entries g) (quoted_metric (formulas.product quoted x y) z) (quoted_metric y (quoted_metric x z)) refl

pub metric_in-multiple_metric : (w : Matrix) (k : ℤ) (g : Matrix) → metric_in w (matrix_multiple k g) ≡ matrix_multiple k (metric_in w g)
metric_in-multiple_metric w k g =
    let x = matrix_of_variables 0 in
    let y = matrix_of_variables 10 in
    by_matrices (entries w ++ k ∷ entries g) (quoted_metric x (quoted_multiple (var 9) y)) (quoted_multiple (var 9) (quoted_metric x y)) refl

pub metric_in-matrix_multiple : (k : ℤ) (w g : Matrix) → metric_in (matrix_multiple k w) g ≡ matrix_multiple (k *ℤ k) (metric_in w g)
metric_in-matrix_multiple k w g =
    let x = matrix_of_variables 1 in
    let y = matrix_of_variables 10 in
    by_matrices (k ∷ entries w ++ entries g) (quoted_metric (quoted_multiple (var 0) x) y) (quoted_multiple (var 0 :* var 0) (quoted_metric x y)) refl

pub metric_in_adjugate-metric_in : (r g : Matrix) → metric_in (adjugate r) (metric_in r g) ≡ matrix_multiple (determinant r *ℤ determinant r) g
metric_in_adjugate-metric_in r g =
    let x = matrix_of_variables 0 in
    let y = matrix_of_variables 9 in
    by_matrices (entries r ++ entries g) (quoted_metric (formulas.adjugate quoted x) (quoted_metric x y)) (quoted_multiple (formulas.determinant quoted x :* formulas.determinant quoted x) y) refl

pub metric_in-metric_in_adjugate : (r g : Matrix) → metric_in r (metric_in (adjugate r) g) ≡ matrix_multiple (determinant r *ℤ determinant r) g
metric_in-metric_in_adjugate r g =
    let x = matrix_of_variables 0 in
    let y = matrix_of_variables 9 in
    by_matrices (entries r ++ entries g) (quoted_metric x (quoted_metric (formulas.adjugate quoted x) y)) (quoted_multiple (formulas.determinant quoted x :* formulas.determinant quoted x) y) refl

pub metric_in-identity : (g : Matrix) → metric_in identity g ≡ g
metric_in-identity g =
    let x = matrix_of_variables 0 in
    by_matrices (entries g) (quoted_metric (formulas.scalar quoted (con (pos 1))) x) x refl

pub product-identity : (g : Matrix) → product g identity ≡ g
product-identity g =
    let x = matrix_of_variables 0 in
    by_matrices (entries g) (formulas.product quoted x (formulas.scalar quoted (con (pos 1)))) x refl

pub product-multiple : (k : ℤ) (g : Matrix) → product (matrix_multiple k identity) g ≡ matrix_multiple k g
product-multiple k g =
    let x = matrix_of_variables 1 in
    by_matrices (k ∷ entries g) (formulas.product quoted (quoted_multiple (var 0) (formulas.scalar quoted (con (pos 1)))) x) (quoted_multiple (var 0) x) refl

pub product-adjugate : (g : Matrix) → product g (adjugate g) ≡ matrix_multiple (determinant g) identity
product-adjugate g =
    let x = matrix_of_variables 0 in
    by_matrices (entries g) (formulas.product quoted x (formulas.adjugate quoted x)) (quoted_multiple (formulas.determinant quoted x) (formulas.scalar quoted (con (pos 1)))) refl

pub adjugate-product : (g : Matrix) → product (adjugate g) g ≡ matrix_multiple (determinant g) identity
adjugate-product g =
    let x = matrix_of_variables 0 in
    by_matrices (entries g) (formulas.product quoted (formulas.adjugate quoted x) x) (quoted_multiple (formulas.determinant quoted x) (formulas.scalar quoted (con (pos 1)))) refl

pub matrix_multiple-twice : (k l : ℤ) (a : Matrix) → matrix_multiple k (matrix_multiple l a) ≡ matrix_multiple (k *ℤ l) a
matrix_multiple-twice k l a =
    let x = matrix_of_variables 2 in
    by_matrices (k ∷ l ∷ entries a) (quoted_multiple (var 0) (quoted_multiple (var 1) x)) (quoted_multiple (var 0 :* var 1) x) refl

pub metric_in-transposed : (r g : Matrix) → metric_in r (transposed g) ≡ transposed (metric_in r g)
metric_in-transposed r g =
    let x = matrix_of_variables 0 in
    let y = matrix_of_variables 9 in
    by_matrices (entries r ++ entries g) (quoted_metric x (formulas.transposed y)) (formulas.transposed (quoted_metric x y)) refl

pub squared_length-metric_in : (r g : Matrix) (v : Triple) → squared_length (metric_in r g) v ≡ squared_length g (image r v)
squared_length-metric_in r g v =
    let x = matrix_of_variables 0 in
    let y = matrix_of_variables 9 in
    let z = vector_of_variables 18 in
    by_integers (entries r ++ entries g ++ coordinates v) (quoted_norm (quoted_metric x y) z) (quoted_norm y (formulas.image quoted x z)) refl

-- k times the identity, by its entries
pub matrix_multiple-identity : (k : ℤ) → matrix_multiple k identity ≡ formulas.scalar int_ops k
matrix_multiple-identity k =
    by_matrices (k ∷ []) (quoted_multiple (var 0) (formulas.scalar quoted (con (pos 1)))) (formulas.scalar quoted (var 0)) refl

-- ---- matrices by their columns

-- a matrix by its columns
abbrev pub columns : Triple → Triple → Triple → Matrix
columns u v w = record { a11 = u.x; a12 = v.x; a13 = w.x; a21 = u.y; a22 = v.y; a23 = w.y; a31 = u.z; a32 = v.z; a33 = w.z }

abbrev quoted_columns : Vec3 Expr → Vec3 Expr → Vec3 Expr → Mat3 Expr
quoted_columns u v w = record { a11 = u.x; a12 = v.x; a13 = w.x; a21 = u.y; a22 = v.y; a23 = w.y; a31 = u.z; a32 = v.z; a33 = w.z }

-- the columns of the identity
abbrev pub axis1 : Triple
axis1 = triple (pos 1) (pos 0) (pos 0)

abbrev pub axis2 : Triple
axis2 = triple (pos 0) (pos 1) (pos 0)

abbrev pub axis3 : Triple
axis3 = triple (pos 0) (pos 0) (pos 1)

abbrev quoted_axis : ℤ → ℤ → ℤ → Vec3 Expr
quoted_axis x y z = record { x = con x; y = con y; z = con z }

-- the columns of a matrix are the images of those of the identity
pub columns_of : (a : Matrix) → columns (image a axis1) (image a axis2) (image a axis3) ≡ a
columns_of a =
    let x = matrix_of_variables 0 in
    let i = quoted_axis (pos 1) (pos 0) (pos 0) in
    let j = quoted_axis (pos 0) (pos 1) (pos 0) in
    let k = quoted_axis (pos 0) (pos 0) (pos 1) in
    by_matrices (entries a) (quoted_columns (formulas.image quoted x i) (formulas.image quoted x j) (formulas.image quoted x k)) x refl

-- the columns of a product are the images of those of the second matrix
pub columns_of_product : (b : Matrix) (u v w : Triple) → columns (image b u) (image b v) (image b w) ≡ product b (columns u v w)
columns_of_product b u v w =
    let a = matrix_of_variables 0 in
    let x = vector_of_variables 9 in
    let y = vector_of_variables 12 in
    let z = vector_of_variables 15 in
    by_matrices (entries b ++ coordinates u ++ coordinates v ++ coordinates w) (quoted_columns (formulas.image quoted a x) (formulas.image quoted a y) (formulas.image quoted a z)) (formulas.product quoted a (quoted_columns x y z)) refl

-- two matrices that take each triple to one are one
pub same_images : (a b : Matrix) → ((v : Triple) → image a v ≡ image b v) → a ≡ b
same_images a b f = sym (columns_of a) ∙ (λ i. columns (f axis1 i) (f axis2 i) (f axis3 i)) ∙ columns_of b

-- a is b after a matrix
pub record Factor (a b : Matrix) : Type 0 where
  pub matrix : Matrix
  pub is : a ≡ product b matrix

-- so it is where each image under a is an image under b
pub factor : (a b : Matrix) → ((v : Triple) → (u : Triple) × (image a v ≡ image b u)) → Factor a b
factor a b f =
    let f1 = f axis1 in
    let f2 = f axis2 in
    let f3 = f axis3 in
    record {
      matrix = columns f1.0 f2.0 f3.0;
      is = sym (columns_of a) ∙ (λ i. columns (f1.1 i) (f2.1 i) (f3.1 i)) ∙ columns_of_product b f1.0 f2.0 f3.0;
    }
