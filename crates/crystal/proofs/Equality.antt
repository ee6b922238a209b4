-- What `==` says of columns and matrices of integers: the two are one.
use Rattle.std.proofs.Common.{◌≡◌, Bool, ap, ◌&&◌}
use Rattle.std.specs.Prelude.{IsTrue, ◌↔◌}
use Rattle.std.specs.Bool.{Decides}
use Rattle.std.specs.Ordering.{int_eq}
use Rattle.std.proofs.lemmas.Bool.Decides.{Decides-int_eq, Decides-and, Decides-like, Decides-at}
use Rattle.crystal_spec.specs.Matrices.{Triple, Matrix}
use Rattle.crystal_spec.proofs.Entrywise.{triple_same, matrix_same}

tested : {P : Type 0} (b r : Bool) → r ≡ b → Decides b P → IsTrue r ↔ P
tested b r e d = Decides-at r b e d

abbrev pub test_of_triples : Triple → Triple → Bool
test_of_triples u v = int_eq u.x v.x && (int_eq u.y v.y && int_eq u.z v.z)

abbrev pub test_of_matrices : Matrix → Matrix → Bool
test_of_matrices a b = int_eq a.a11 b.a11 && (int_eq a.a12 b.a12 && (int_eq a.a13 b.a13 && (int_eq a.a21 b.a21 && (int_eq a.a22 b.a22 && (int_eq a.a23 b.a23 && (int_eq a.a31 b.a31 && (int_eq a.a32 b.a32 && int_eq a.a33 b.a33)))))))

pub equal_triples : (u v : Triple) (r : Bool) → r ≡ test_of_triples u v → IsTrue r ↔ (u ≡ v)
equal_triples u v r e = tested (test_of_triples u v) r e (Decides-like _
    (λ h. triple_same h.0 h.1.0 h.1.1)
    (λ p. (ap (λ (t : Triple). t.x) p, (ap (λ (t : Triple). t.y) p, ap (λ (t : Triple). t.z) p)))
    (Decides-and _ _ (Decides-int_eq u.x v.x) (Decides-and _ _ (Decides-int_eq u.y v.y) (Decides-int_eq u.z v.z))))

pub equal_matrices : (a b : Matrix) (r : Bool) → r ≡ test_of_matrices a b → IsTrue r ↔ (a ≡ b)
equal_matrices a b r e = tested (test_of_matrices a b) r e (Decides-like _
    (λ h. matrix_same h.0 h.1.0 h.1.1.0 h.1.1.1.0 h.1.1.1.1.0 h.1.1.1.1.1.0 h.1.1.1.1.1.1.0 h.1.1.1.1.1.1.1.0 h.1.1.1.1.1.1.1.1)
    (λ p. (ap (λ (t : Matrix). t.a11) p, (ap (λ (t : Matrix). t.a12) p, (ap (λ (t : Matrix). t.a13) p, (ap (λ (t : Matrix). t.a21) p, (ap (λ (t : Matrix). t.a22) p, (ap (λ (t : Matrix). t.a23) p, (ap (λ (t : Matrix). t.a31) p, (ap (λ (t : Matrix). t.a32) p, ap (λ (t : Matrix). t.a33) p)))))))))
    (Decides-and _ _ (Decides-int_eq a.a11 b.a11) (Decides-and _ _ (Decides-int_eq a.a12 b.a12) (Decides-and _ _ (Decides-int_eq a.a13 b.a13) (Decides-and _ _ (Decides-int_eq a.a21 b.a21) (Decides-and _ _ (Decides-int_eq a.a22 b.a22) (Decides-and _ _ (Decides-int_eq a.a23 b.a23) (Decides-and _ _ (Decides-int_eq a.a31 b.a31) (Decides-and _ _ (Decides-int_eq a.a32 b.a32) (Decides-int_eq a.a33 b.a33))))))))))
