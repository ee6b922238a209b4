-- Blocks of 27 matrices with the same first two rows.
use Rattle.std.proofs.Common.{◌≡◌, refl, sym, ap, ◌∙◌, ℕ, ◌+◌, ◌*◌, ◌%◌, ◌<◌, ◌≤◌, pos, ◌-ℤ◌, ◌++◌, arith}
use Rattle.ring.specs.Ring.{int_ops, quoted}
use Rattle.matrix3.specs.Matrices.{dot, minor, entries, matrix_of_variables}
use Rattle.matrix3.specs.Matrices as formulas
use Rattle.crystal_spec.specs.Matrices.{Matrix, image}
use Rattle.crystal_spec.proofs.Identities.{by_integers}
use Rattle.positions.specs.Positions.{triple}
use Rattle.group_match.specs.Candidates.{matrix_of_number}
use Rattle.group_match.specs.Matching.{conjugate, HasSameRows, third_column}

-- the third column of P C adj(P) by its first two entries
a13_is : (p c : Matrix) → (conjugate p c).a13 ≡ (image p (image c (third_column p))).x
a13_is p c =
    let x = matrix_of_variables 0 in
    let y = matrix_of_variables 9 in
    let a = formulas.adjugate quoted x in
    by_integers (entries p ++ entries c) (formulas.product quoted (formulas.product quoted x y) a).a13 (formulas.image quoted x (formulas.image quoted y (record { x = a.a13; y = a.a23; z = a.a33 }))).x refl

a23_is : (p c : Matrix) → (conjugate p c).a23 ≡ (image p (image c (third_column p))).y
a23_is p c =
    let x = matrix_of_variables 0 in
    let y = matrix_of_variables 9 in
    let a = formulas.adjugate quoted x in
    by_integers (entries p ++ entries c) (formulas.product quoted (formulas.product quoted x y) a).a23 (formulas.image quoted x (formulas.image quoted y (record { x = a.a13; y = a.a23; z = a.a33 }))).y refl

-- they depend on the first two rows alone
same_column : (p q c : Matrix) → HasSameRows p q → image c (third_column p) ≡ image c (third_column q)
same_column p q c r = λ i. image c (triple (minor int_ops (r.a12 i) (r.a13 i) (r.a22 i) (r.a23 i)) (minor int_ops (r.a13 i) (r.a11 i) (r.a23 i) (r.a21 i)) (minor int_ops (r.a11 i) (r.a12 i) (r.a21 i) (r.a22 i)))

pub same_a13 : (p q c : Matrix) → HasSameRows p q → (conjugate q c).a13 ≡ (image p (image c (third_column p))).x
same_a13 p q c r = a13_is q c ∙ sym (λ i. dot int_ops (r.a11 i) (r.a12 i) (r.a13 i) (same_column p q c r i).x (same_column p q c r i).y (same_column p q c r i).z)

pub same_a23 : (p q c : Matrix) → HasSameRows p q → (conjugate q c).a23 ≡ (image p (image c (third_column p))).y
same_a23 p q c r = a23_is q c ∙ sym (λ i. dot int_ops (r.a21 i) (r.a22 i) (r.a23 i) (same_column p q c r i).x (same_column p q c r i).y (same_column p q c r i).z)

-- the matrices of a block
pub same_rows : (b j : ℕ) → b * 27 ≤ j → j < b * 27 + 27 → HasSameRows (matrix_of_number (b * 27)) (matrix_of_number j)
same_rows b j l h = record {
  a11 = digit (omega (arith, l, h));
  a12 = digit (omega (arith, l, h));
  a13 = digit (omega (arith, l, h));
  a21 = digit (omega (arith, l, h));
  a22 = digit (omega (arith, l, h));
  a23 = digit (omega (arith, l, h));
}
  where
    digit : {m k : ℕ} → m ≡ k → pos (m % 3) -ℤ pos 1 ≡ pos (k % 3) -ℤ pos 1
    digit e = ap (λ (m : ℕ). pos (m % 3) -ℤ pos 1) e
