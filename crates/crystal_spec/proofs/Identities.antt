-- Identities of triples and matrices of integers, by computation.
--
-- A formula at `quoted` and at the variables is an expression in each entry; its values are the formula at the integers.
use Rattle.std.proofs.Common.{◌≡◌, List, ℤ, ap}
use Rattle.ring.specs.Ring.{int_ops, Expr, norm, eval}
use Rattle.ring.proofs.Solving.{by_ring, at}
use Rattle.ring.proofs.IntRing.{int_laws}
use Rattle.matrix3.specs.declared.vector.Vec3.{Vec3}
use Rattle.matrix3.specs.declared.matrix.Mat3.{Mat3}
use Rattle.matrix3.specs.Matrices.{matrix_map, vector_map}

-- of integers, the values of the variables being xs
pub by_integers : (xs : List ℤ) (s t : Expr) → norm s ≡ norm t → eval int_ops (at int_ops int_laws xs) s ≡ eval int_ops (at int_ops int_laws xs) t
by_integers xs = by_ring int_ops int_laws xs

-- of triples
pub by_triples : (xs : List ℤ) (s t : Vec3 Expr) → vector_map norm s ≡ vector_map norm t → vector_map (eval int_ops (at int_ops int_laws xs)) s ≡ vector_map (eval int_ops (at int_ops int_laws xs)) t
by_triples xs s t h = λ i. record {
  x = by_integers xs s.x t.x (ap (λ v. v.x) h) i;
  y = by_integers xs s.y t.y (ap (λ v. v.y) h) i;
  z = by_integers xs s.z t.z (ap (λ v. v.z) h) i;
}

-- of matrices
pub by_matrices : (xs : List ℤ) (s t : Mat3 Expr) → matrix_map norm s ≡ matrix_map norm t → matrix_map (eval int_ops (at int_ops int_laws xs)) s ≡ matrix_map (eval int_ops (at int_ops int_laws xs)) t
by_matrices xs s t h = λ i. record {
  a11 = by_integers xs s.a11 t.a11 (ap (λ m. m.a11) h) i;
  a12 = by_integers xs s.a12 t.a12 (ap (λ m. m.a12) h) i;
  a13 = by_integers xs s.a13 t.a13 (ap (λ m. m.a13) h) i;
  a21 = by_integers xs s.a21 t.a21 (ap (λ m. m.a21) h) i;
  a22 = by_integers xs s.a22 t.a22 (ap (λ m. m.a22) h) i;
  a23 = by_integers xs s.a23 t.a23 (ap (λ m. m.a23) h) i;
  a31 = by_integers xs s.a31 t.a31 (ap (λ m. m.a31) h) i;
  a32 = by_integers xs s.a32 t.a32 (ap (λ m. m.a32) h) i;
  a33 = by_integers xs s.a33 t.a33 (ap (λ m. m.a33) h) i;
}
