-- Which operations carry one position to another.
use Rattle.std.proofs.Common.{◌≡◌, refl, sym, ap, subst, ◌∙◌, ◌⊎◌, inl, inr, ℕ, ◌+◌, [], ◌∷◌, ◌++◌, List, drop}
use Rattle.std.specs.Prelude.{◌↔◌, ℤ, pos, negsuc, slice_get, Some}
use Rattle.ring.specs.Ring.{quoted, var, con}
use Rattle.lists.specs.Increasing.{IsMember}
use Rattle.lists.proofs.Walks.{drop_at}
use Rattle.matrix3.specs.Matrices.{coordinates, vector_of_variables}
use Rattle.matrix3.specs.Matrices as formulas
use Rattle.crystal_spec.specs.Matrices.{Triple, image, multiple, sum_of, difference}
use Rattle.crystal_spec.specs.Operations.{Operation, IsWithinCell}
use Rattle.crystal_spec.specs.Cells.{DiffersByCells}
use Rattle.crystal_spec.proofs.Identities.{by_triples}
use Rattle.positions.specs.Positions.{IsModulo}
use Rattle.basis_spec.proofs.PrimitiveCell.{differs_sym, differs_trans}
use Rattle.basis_spec.proofs.PureTranslations.{translations_same}
use Rattle.site_orbits.specs.Orbits.{Carries, IsAlike}

-- where i + t is q but for whole cells, q - i is t but for whole cells
to_difference : (i t q d : Triple) (n : ℤ) → sum_of i t ≡ sum_of q (multiple n d) → difference q i ≡ sum_of t (multiple n (multiple (negsuc 0) d))
to_difference i t q d n e =
    let x = vector_of_variables 0 in
    let y = vector_of_variables 3 in
    let u = vector_of_variables 6 in
    by_triples (coordinates i ++ coordinates q ++ coordinates d ++ n ∷ [])
    (formulas.difference quoted y x)
    (formulas.sum_of quoted (formulas.difference quoted (formulas.sum_of quoted y (formulas.multiple quoted (var 9) u)) x) (formulas.multiple quoted (var 9) (formulas.multiple quoted (con (negsuc 0)) u))) refl
    ∙ ap (λ (v : Triple). sum_of (difference v i) (multiple n (multiple (negsuc 0) d))) (sym e)
    ∙ by_triples (coordinates i ++ coordinates t ++ coordinates d ++ n ∷ [])
    (formulas.sum_of quoted (formulas.difference quoted (formulas.sum_of quoted x y) x) (formulas.multiple quoted (var 9) (formulas.multiple quoted (con (negsuc 0)) u)))
    (formulas.sum_of quoted y (formulas.multiple quoted (var 9) (formulas.multiple quoted (con (negsuc 0)) u))) refl

-- and back
of_difference : (i t q d : Triple) (n : ℤ) → difference q i ≡ sum_of t (multiple n d) → sum_of i t ≡ sum_of q (multiple n (multiple (negsuc 0) d))
of_difference i t q d n e =
    let x = vector_of_variables 0 in
    let y = vector_of_variables 3 in
    let u = vector_of_variables 6 in
    let l = formulas.multiple quoted (var 9) (formulas.multiple quoted (con (negsuc 0)) u) in
    by_triples (coordinates i ++ coordinates t ++ coordinates d ++ n ∷ [])
    (formulas.sum_of quoted x y)
    (formulas.sum_of quoted (formulas.sum_of quoted x (formulas.sum_of quoted y (formulas.multiple quoted (var 9) u))) l) refl
    ∙ ap (λ (v : Triple). sum_of (sum_of i v) (multiple n (multiple (negsuc 0) d))) (sym e)
    ∙ by_triples (coordinates i ++ coordinates q ++ coordinates d ++ n ∷ [])
    (formulas.sum_of quoted (formulas.sum_of quoted x (formulas.difference quoted y x)) l)
    (formulas.sum_of quoted y l) refl

-- the translation part of an operation that carries p to q, but for whole cells
pub own_translation : (n : ℕ) (o : Operation) (p q : Triple) → Carries n o p q → DiffersByCells n (difference q (image o.matrix p)) o.translation
own_translation n o p q h = record { cells = multiple (negsuc 0) h.cells; is = to_difference (image o.matrix p) o.translation q h.cells (pos n) h.is }

-- the translation part with which the matrix carries p to q is that of the operation exactly where the operation does so
pub carries_exactly : (n : ℕ) (o : Operation) (p q t : Triple) → IsWithinCell n o.translation → IsModulo n (difference q (image o.matrix p)) t → (o.translation ≡ t) ↔ Carries n o p q
carries_exactly n o p q t within folds = (into, back)
  where
    into : o.translation ≡ t → Carries n o p q
    into e = record {
      cells = multiple (negsuc 0) folds.cells;
      is = ap (sum_of (image o.matrix p)) e ∙ of_difference (image o.matrix p) t q folds.cells (pos n) folds.same;
    }

    back : Carries n o p q → o.translation ≡ t
    back h =
        let given : DiffersByCells n (difference q (image o.matrix p)) t = record { cells = folds.cells; is = folds.same } in
        translations_same n o.translation t within folds.within (differs_trans (differs_sym (own_translation n o p q h)) given)

-- ---- going through a list
-- where none of the rest after the operation number i carries p to q, and it does not, none of the rest from it on does
pub alike_rest : (n : ℕ) (os : List Operation) (i : ℕ) (o : Operation) (p q : Triple) → slice_get os i ≡ Some o → (Carries n o p q → ⊥) → IsAlike n (drop i os) p q → IsAlike n (drop (i + 1) os) p q
alike_rest n os i o p q at not h = by (subst (λ (l : List Operation). IsMember h.operation l) (drop_at os i o at) h.of_list)
  where
    by : (h.operation ≡ o) ⊎ IsMember h.operation (drop (i + 1) os) → IsAlike n (drop (i + 1) os) p q
    by (inl e) = absurd (not (subst (λ (a : Operation). Carries n a p q) e h.carries))
    by (inr m) = record { operation = h.operation; of_list = m; carries = h.carries }
