-- The sum of the gaps over a list, from the front.
use Rattle.std.proofs.Common.{◌≡◌, refl, sym, ap, subst, ◌∙◌, ℕ, ◌+◌, ◌*◌, ◌^◌, ◌<◌, ◌≤◌, ℤ, pos, List, ◌++◌, drop, map, get_or, length, arith}
use Rattle.ring.specs.Ring.{con, quoted}
use Rattle.ring.specs.Size.{AtMost}
use Rattle.lists.proofs.Walks.{drop_read}
use Rattle.matrix3.specs.Matrices.{EachCoordinate, coordinates, vector_of_variables}
use Rattle.matrix3.specs.Matrices as formulas
use Rattle.crystal_spec.specs.Matrices.{Triple, Matrix, sum_of}
use Rattle.crystal_spec.proofs.Identities.{by_triples}
use Rattle.positions.specs.Positions.{origin}
use Rattle.match_spec.specs.Searching.{gap_of, gap_sum}
use Rattle.group_match.specs.declared.pair.Matched.{Matched}
use Rattle.group_match.specs.Matching.{pair_of}
use Rattle.matrix3.proofs.FitsBySize.{coordinates_grown, sum_size}
use Rattle.std.proofs.lemmas.List.{drop_all}

zero_first : (t : Triple) → sum_of origin t ≡ t
zero_first t = by_triples (coordinates t) (formulas.sum_of quoted (record { x = con (pos 0); y = con (pos 0); z = con (pos 0) }) (vector_of_variables 0)) (vector_of_variables 0) refl

zero_last : (t : Triple) → sum_of t origin ≡ t
zero_last t = by_triples (coordinates t) (formulas.sum_of quoted (vector_of_variables 0) (record { x = con (pos 0); y = con (pos 0); z = con (pos 0) })) (vector_of_variables 0) refl

regroup : (a g s : Triple) → sum_of (sum_of a g) s ≡ sum_of a (sum_of g s)
regroup a g s = by_triples (coordinates a ++ coordinates g ++ coordinates s) (formulas.sum_of quoted (formulas.sum_of quoted (vector_of_variables 0) (vector_of_variables 3)) (vector_of_variables 6)) (formulas.sum_of quoted (vector_of_variables 0) (formulas.sum_of quoted (vector_of_variables 3) (vector_of_variables 6))) refl

pub counted_none : (s t : Triple) → s ≡ origin → sum_of s t ≡ t
counted_none s t e = ap (λ v. sum_of v t) e ∙ zero_first t

pub none_size : (s : Triple) → s ≡ origin → EachCoordinate (AtMost 0) s
none_size s e = subst (EachCoordinate (AtMost 0)) (sym e) (record { x = zero; y = zero; z = zero })
  where
    zero : AtMost 0 (pos 0)
    zero = record { size = omega arith }

pub counted_on : (q : Matrix) (n : ℤ) (xs : List Matched) (i : ℕ) (x : Matched) (s t : Triple) → i < length xs → x ≡ get_or xs i x → t ≡ sum_of s (gap_of q n (pair_of x)) → sum_of s (gap_sum q n (map pair_of (drop i xs))) ≡ gap_sum q n (map pair_of xs) → sum_of t (gap_sum q n (map pair_of (drop (i + 1) xs))) ≡ gap_sum q n (map pair_of xs)
counted_on q n xs i x s t below is e h =
    let rest = gap_sum q n (map pair_of (drop (i + 1) xs)) in
    ap (λ v. sum_of v rest) e ∙ (regroup s (gap_of q n (pair_of x)) rest ∙ (ap (λ ys. sum_of s (gap_sum q n (map pair_of ys))) (sym (drop_read xs i x below is)) ∙ h))

pub counted_all : (q : Matrix) (n : ℤ) (xs : List Matched) (i : ℕ) (s : Triple) → length xs ≤ i → sum_of s (gap_sum q n (map pair_of (drop i xs))) ≡ gap_sum q n (map pair_of xs) → s ≡ gap_sum q n (map pair_of xs)
counted_all q n xs i s ended h = sym (zero_last s) ∙ (ap (λ ys. sum_of s (gap_sum q n (map pair_of ys))) (sym (drop_all i xs ended)) ∙ h)

pub grown_size : (i : ℕ) (s g t : Triple) → t ≡ sum_of s g → EachCoordinate (AtMost (i * (2 * 10 ^ 11))) s → EachCoordinate (AtMost (2 * 10 ^ 11)) g → EachCoordinate (AtMost ((i + 1) * (2 * 10 ^ 11))) t
grown_size i s g t e a b = subst (EachCoordinate (AtMost ((i + 1) * (2 * 10 ^ 11)))) (sym e) (coordinates_grown more (sum_size a b))
  where
    more : i * (2 * 10 ^ 11) + 2 * 10 ^ 11 ≤ (i + 1) * (2 * 10 ^ 11)
    more = omega arith

pub fits_size : (i l : ℕ) (s g : Triple) → i < l → l ≤ 96 → EachCoordinate (AtMost (i * (2 * 10 ^ 11))) s → EachCoordinate (AtMost (2 * 10 ^ 11)) g → EachCoordinate (AtMost (10 ^ 36)) (sum_of s g)
fits_size i l s g below few a b = coordinates_grown more (sum_size a b)
  where
    more : i * (2 * 10 ^ 11) + 2 * 10 ^ 11 ≤ 10 ^ 36
    more = omega (arith, below, few)
