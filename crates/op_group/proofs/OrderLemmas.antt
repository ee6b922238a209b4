-- The order that the program computes, in three parts, is the order of operations.
use Rattle.std.proofs.Common.{◌≡◌, refl, sym, ap, ◌∙◌, ℕ, List, [], ◌∷◌, ◌++◌, pos, length, map, arith}
use Rattle.std.specs.declared.cmp.Ordering.{Ordering}
use Rattle.std.specs.Ordering.{ordering_then, int_cmp, nat_cmp}
use Rattle.std.specs.Cmp.Lexicographic.{slice_cmp}
use Rattle.std.proofs.lemmas.Int.{ints}
use Rattle.std.proofs.lemmas.Bool.Decides.{nat_tests}
use Rattle.lists.proofs.Orders.{then_assoc, then_equal, slice_cmp-append}
use Rattle.matrix3.specs.Matrices.{entries, coordinates}
use Rattle.crystal_spec.specs.Matrices.{Matrix}
use Rattle.crystal_spec.specs.Operations.{compare_of, sign_rank}
use Rattle.op_group.specs.Views.{operation_of}
use Rattle.positions.specs.Positions.{triple_of}
use Rattle.op_group.specs.declared.operation.Op.{Op}

-- the order of matrices: the first of the nine entries that differs decides
abbrev pub matrix_cmp : Matrix → Matrix → Ordering
matrix_cmp v w =
    ordering_then (int_cmp v.a11 w.a11) (ordering_then (int_cmp v.a12 w.a12) (ordering_then (int_cmp v.a13 w.a13) (
    ordering_then (int_cmp v.a21 w.a21) (ordering_then (int_cmp v.a22 w.a22) (ordering_then (int_cmp v.a23 w.a23) (
    ordering_then (int_cmp v.a31 w.a31) (ordering_then (int_cmp v.a32 w.a32) (int_cmp v.a33 w.a33))))))))

int_cmp_pos : (x y : ℕ) → int_cmp (pos x) (pos y) ≡ nat_cmp x y
int_cmp_pos x y = grind (arith, nat_tests, ints)

-- natural numbers are ordered as the integers that they are
slice_cmp_pos : (xs ys : List ℕ) → slice_cmp int_cmp (map pos xs) (map pos ys) ≡ slice_cmp nat_cmp xs ys
slice_cmp_pos [] [] = refl
slice_cmp_pos [] (y ∷ ys) = refl
slice_cmp_pos (x ∷ xs) [] = refl
slice_cmp_pos (x ∷ xs) (y ∷ ys) = ap (λ o. ordering_then o (slice_cmp int_cmp (map pos xs) (map pos ys))) (int_cmp_pos x y) ∙ ap (ordering_then (nat_cmp x y)) (slice_cmp_pos xs ys)

coordinates_of : (ts : List ℕ) → length ts ≡ 3 → coordinates (triple_of ts) ≡ map pos ts
coordinates_of (x ∷ y ∷ z ∷ []) e = refl
coordinates_of _ e = absurd (omega arith)

matrix_cmp_entries : (v w : Matrix) → slice_cmp int_cmp (entries v) (entries w) ≡ matrix_cmp v w
matrix_cmp_entries v w = simp then_equal

translation_cmp : (ts us : List ℕ) → length ts ≡ 3 → length us ≡ 3 → slice_cmp int_cmp (coordinates (triple_of ts)) (coordinates (triple_of us)) ≡ slice_cmp nat_cmp ts us
translation_cmp ts us p q = ap (λ cs. slice_cmp int_cmp cs (coordinates (triple_of us))) (coordinates_of ts p) ∙ ap (slice_cmp int_cmp (map pos ts)) (coordinates_of us q) ∙ slice_cmp_pos ts us

-- matrices first, then translation parts, then the ranks of the signs
pub compare_of_parts : (a b : Op) (m n : ℕ) → length a.shift ≡ 3 → length b.shift ≡ 3 → pos m ≡ sign_rank a.sign → pos n ≡ sign_rank b.sign →
    compare_of (operation_of a) (operation_of b) ≡ ordering_then (ordering_then (matrix_cmp a.w b.w) (slice_cmp nat_cmp a.shift b.shift)) (nat_cmp m n)
unfolding compare_of
compare_of_parts a b m n p q s t =
    let ma = entries a.w in
    let mb = entries b.w in
    let ta = coordinates (triple_of a.shift) in
    let tb = coordinates (triple_of b.shift) in
    let ranks = ap (λ x. slice_cmp int_cmp (x ∷ []) (sign_rank b.sign ∷ [])) (sym s) ∙ ap (λ x. slice_cmp int_cmp (pos m ∷ []) (x ∷ [])) (sym t) ∙ slice_cmp_pos (m ∷ []) (n ∷ []) ∙ then_equal (nat_cmp m n) in
    slice_cmp-append int_cmp ma mb (ta ++ sign_rank a.sign ∷ []) (tb ++ sign_rank b.sign ∷ []) refl
    ∙ ap (ordering_then (slice_cmp int_cmp ma mb)) (slice_cmp-append int_cmp ta tb (sign_rank a.sign ∷ []) (sign_rank b.sign ∷ []) refl)
    ∙ sym (then_assoc (slice_cmp int_cmp ma mb) (slice_cmp int_cmp ta tb) (slice_cmp int_cmp (sign_rank a.sign ∷ []) (sign_rank b.sign ∷ [])))
    ∙ ap (ordering_then (ordering_then (slice_cmp int_cmp ma mb) (slice_cmp int_cmp ta tb))) ranks
    ∙ ap (λ o. ordering_then (ordering_then o (slice_cmp int_cmp ta tb)) (nat_cmp m n)) (matrix_cmp_entries a.w b.w)
    ∙ ap (λ o. ordering_then (ordering_then (matrix_cmp a.w b.w) o) (nat_cmp m n)) (translation_cmp a.shift b.shift p q)
