-- The order that the program computes, in three parts, is the order of operations.
use Rattle.std.proofs.Common.{◌≡◌, refl, sym, ap, ◌∙◌, ℕ, [], ◌∷◌, ◌++◌, pos, arith}
use Rattle.std.specs.declared.cmp.Ordering.{Ordering}
use Rattle.std.specs.Ordering.{ordering_then, int_cmp, nat_cmp}
use Rattle.std.specs.Cmp.Lexicographic.{slice_cmp}
use Rattle.std.proofs.lemmas.Int.{ints}
use Rattle.std.proofs.lemmas.Bool.Decides.{nat_tests}
use Rattle.lists.proofs.Orders.{then_assoc, then_equal, slice_cmp-append}
use Rattle.matrix3.specs.Matrices.{entries, coordinates}
use Rattle.crystal_spec.specs.Matrices.{Triple}
use Rattle.crystal_spec.specs.Operations.{Operation, compare_of, sign_rank}
use Rattle.op_group.proofs.OrderLemmas.{matrix_cmp}
use Rattle.crystal_compare.specs.Steps.{operation_of}
use Rattle.crystal_compare.specs.declared.whole_map.WholeMap.{WholeMap}

-- the order of columns: the first of the three coordinates that differs decides
abbrev pub triple_cmp : Triple → Triple → Ordering
triple_cmp u v = ordering_then (int_cmp u.x v.x) (ordering_then (int_cmp u.y v.y) (int_cmp u.z v.z))

int_cmp_pos : (x y : ℕ) → int_cmp (pos x) (pos y) ≡ nat_cmp x y
int_cmp_pos x y = grind (arith, nat_tests, ints)

matrix_cmp_entries : (a b : WholeMap) → slice_cmp int_cmp (entries a.w) (entries b.w) ≡ matrix_cmp a.w b.w
matrix_cmp_entries a b = simp then_equal

triple_cmp_coordinates : (u v : Triple) → slice_cmp int_cmp (coordinates u) (coordinates v) ≡ triple_cmp u v
triple_cmp_coordinates u v = simp then_equal

-- three parts: matrices, translation parts, signs
pub compare_parts : (a b : Operation) → compare_of a b ≡ ordering_then (slice_cmp int_cmp (entries a.matrix) (entries b.matrix)) (ordering_then (triple_cmp a.translation b.translation) (int_cmp (sign_rank a.sign) (sign_rank b.sign)))
unfolding compare_of
compare_parts a b =
    slice_cmp-append int_cmp (entries a.matrix) (entries b.matrix) (coordinates a.translation ++ sign_rank a.sign ∷ []) (coordinates b.translation ++ sign_rank b.sign ∷ []) refl
    ∙ ap (ordering_then (slice_cmp int_cmp (entries a.matrix) (entries b.matrix)))
    (slice_cmp-append int_cmp (coordinates a.translation) (coordinates b.translation) (sign_rank a.sign ∷ []) (sign_rank b.sign ∷ []) refl
    ∙ (λ i. ordering_then (triple_cmp_coordinates a.translation b.translation i) (then_equal (int_cmp (sign_rank a.sign) (sign_rank b.sign)) i)))

-- what the program computes
pub compare_of_parts : (a b : WholeMap) (m n : ℕ) → pos m ≡ sign_rank a.sign → pos n ≡ sign_rank b.sign →
    compare_of (operation_of a) (operation_of b) ≡ ordering_then (ordering_then (matrix_cmp a.w b.w) (triple_cmp a.shift b.shift)) (nat_cmp m n)
compare_of_parts a b m n s t =
    compare_parts (operation_of a) (operation_of b)
    ∙ ap (λ o. ordering_then o (ordering_then (triple_cmp a.shift b.shift) (int_cmp (sign_rank a.sign) (sign_rank b.sign)))) (matrix_cmp_entries a b)
    ∙ ap (λ o. ordering_then (matrix_cmp a.w b.w) (ordering_then (triple_cmp a.shift b.shift) o)) ((λ i. int_cmp (sym s i) (sym t i)) ∙ int_cmp_pos m n)
    ∙ sym (then_assoc (matrix_cmp a.w b.w) (triple_cmp a.shift b.shift) (nat_cmp m n))
