-- The index of the triangular basis of a list, and the matrices to it and back: how large they are, and that n times the
-- inverse of the basis is the matrix to it.
use Rattle.std.proofs.Common.{◌≡◌, sym, ap, subst, ◌∙◌, ℕ, ◌^◌, ◌<◌, ◌≤◌, List, length, arith}
use Rattle.std.specs.Prelude.{ℤ, pos, negsuc, ◌*ℤ◌, ◌<ℤ◌}
use Rattle.std.proofs.lemmas.Int.{ints}
use Rattle.ring.specs.Size.{AtMost}
use Rattle.lists.specs.Increasing.{IsIncreasing}
use Rattle.lists.proofs.Increasing.{increasing_distinct}
use Rattle.matrix3.specs.Matrices.{EachEntry}
use Rattle.crystal_spec.specs.Matrices.{Matrix, product, image, determinant, adjugate, multiple, identity}
use Rattle.crystal_spec.specs.Operations.{Operation, compare_of}
use Rattle.crystal_spec.proofs.Ordered.{compare_total}
use Rattle.basis_spec.specs.Metrics.{matrix_multiple}
use Rattle.basis_spec.specs.Translations.{pure_translation}
use Rattle.basis_spec.specs.StepBases.{InLattice, IsClosed, IsLattice, IsStepBasis, IsSteps}
use Rattle.basis_spec.proofs.MatrixLaws.{adjugate-product, image-identity, image-product, image-matrix_multiple, same_images}
use Rattle.basis_spec.proofs.Cancelling.{image_cancel}
use Rattle.basis_spec.proofs.Candidates.{same_natural}
use Rattle.basis_spec.proofs.StepBases.{back, back_whole, basis_above, basis-back}
use Rattle.basis_spec.proofs.StepIndex.{index_cube}
use Rattle.basis_spec.proofs.StepCount.{count_is_index}
use Rattle.basis_spec.proofs.StepEntries.{IsFromZeroTo, back_entries, basis_entries, fore_entries}
use Rattle.basis_spec.proofs.StepLists.{list_lattice}
use Rattle.op_group.specs.Lists.{AllWithinCell, HasOnlyPureTranslations}
use Rattle.op_group.specs.Steps.{HasInverse}
use Rattle.op_group.proofs.PureTranslations.{Pure, pure_of}
use Rattle.op_group.proofs.LeastSteps.{some_cells, in_lattice, of_lattice}

raise : {m : ℕ} {z : ℤ} (n : ℕ) → m ≤ n → AtMost m z → AtMost n z
raise n h k = record { size = omega (arith, h, k.size) }

raised : {m : ℕ} {a : Matrix} (n : ℕ) → m ≤ n → EachEntry (AtMost m) a → EachEntry (AtMost n) a
raised n h e = record {
  a11 = raise n h e.a11;
  a12 = raise n h e.a12;
  a13 = raise n h e.a13;
  a21 = raise n h e.a21;
  a22 = raise n h e.a22;
  a23 = raise n h e.a23;
  a31 = raise n h e.a31;
  a32 = raise n h e.a32;
  a33 = raise n h e.a33;
}

sized : (z : ℤ) (n m : ℕ) → n ≤ m → IsFromZeroTo (pos n) z → AtMost m z
sized (pos k) n m h e = let j = e.1 in record { size = omega (arith, ints) }
sized (negsuc k) n m h e = let j = e.0 in absurd j.le

all_sized : {a : Matrix} (n m : ℕ) → n ≤ m → EachEntry (IsFromZeroTo (pos n)) a → EachEntry (AtMost m) a
all_sized n m h e = record {
  a11 = sized _ n m h e.a11;
  a12 = sized _ n m h e.a12;
  a13 = sized _ n m h e.a13;
  a21 = sized _ n m h e.a21;
  a22 = sized _ n m h e.a22;
  a23 = sized _ n m h e.a23;
  a31 = sized _ n m h e.a31;
  a32 = sized _ n m h e.a32;
  a33 = sized _ n m h e.a33;
}

module _ (n : ℕ) (os : List Operation) (ordered : IsIncreasing compare_of os) (within : AllWithinCell n os) (closed : IsClosed n os) (b : Matrix) (s : IsStepBasis (InLattice n os) b) where
  abbrev some : pos 0 <ℤ pos n
  some = some_cells n os within closed

  abbrev lattice : IsLattice n (InLattice n os)
  lattice = list_lattice n os some closed

  -- the matrix to the basis
  abbrev pub to_basis : Matrix
  to_basis = back n (InLattice n os) lattice b s

  abbrev pub translations : Pure os
  translations = pure_of os (increasing_distinct compare_of compare_total os ordered)

  abbrev pub count : ℕ
  count = length translations.translations

  -- the index is the number of pure translations
  pub index_is : pos count ≡ determinant to_basis
  index_is = count_is_index n (InLattice n os) lattice b s (above n some) translations.translations translations.once (λ t. (
    (λ m. let k = (translations.exact t).0 m in (within (pure_translation t) k, in_lattice n os t within some k)),
    (λ h. (translations.exact t).1 (of_lattice n os t some h.0 h.1)),
  ))
    where
      above : (n : ℕ) → pos 0 <ℤ pos n → 0 < n
      above n h = omega (arith, ints)

  abbrev steps_are : IsSteps n (InLattice n os) count to_basis (adjugate to_basis)
  steps_are = record {
    basis = b;
    is_basis = s;
    index_is = ap (λ (d : ℤ). d *ℤ (b.a11 *ℤ (b.a22 *ℤ b.a33))) index_is ∙ index_cube n (InLattice n os) lattice b s;
    back_is = back_whole n (InLattice n os) lattice b s;
    fore_is = adjugate-product to_basis ∙ ap (λ (d : ℤ). matrix_multiple d identity) (sym index_is);
  }

  -- the basis times the matrix to it is n
  pub basis_times : product b to_basis ≡ matrix_multiple (pos n) identity
  basis_times = same_images (product b to_basis) (matrix_multiple (pos n) identity) (λ v. image-product b to_basis v ∙ basis-back n (InLattice n os) lattice b s v ∙ sym (image-matrix_multiple (pos n) identity v ∙ ap (multiple (pos n)) (image-identity v)))

  -- so what is n times the inverse of the basis is this matrix
  pub found_is : (r : Matrix) → product b r ≡ matrix_multiple (pos n) identity → r ≡ to_basis
  found_is r e = same_images r to_basis (λ v. image_cancel b (image r v) (image to_basis v) (basis_above n (InLattice n os) lattice b s)
      (sym (image-product b r v) ∙ ap (λ (m : Matrix). image m v) (e ∙ sym basis_times) ∙ image-product b to_basis v))

  -- with fewer than 2^32 operations, all that is asked for it holds
  pub has_inverse : n < 2 ^ 32 → length os < 2 ^ 32 → HasInverse n b
  has_inverse top few = record {
    zeros = s.zeros;
    diagonal = (s.first.positive, s.second.positive, s.third.positive);
    inverse = to_basis;
    is = basis_times;
    small = all_sized n (2 ^ 32) (weaker n top) (basis_entries n (InLattice n os) lattice some count to_basis (adjugate to_basis) steps_are);
    small_inverse = raised (2 ^ 32) (through count (length os) translations.no_more few) (back_entries n (InLattice n os) lattice some count to_basis (adjugate to_basis) steps_are);
  }
    where
      weaker : (n : ℕ) → n < 2 ^ 32 → n ≤ 2 ^ 32
      weaker n h = omega (arith, h)

      through : (k m : ℕ) → k ≤ m → m < 2 ^ 32 → k ≤ 2 ^ 32
      through k m h j = omega (arith, h, j)

  -- the index, as a number of the code
  pub natural_index : (r : Matrix) → product b r ≡ matrix_multiple (pos n) identity → length os < 2 ^ 32 → (k : ℕ) × (k < 2 ^ 32) × (determinant r ≡ pos k)
  natural_index r e few = (count, through count (length os) translations.no_more few, ap determinant (found_is r e) ∙ sym index_is)
    where
      through : (k m : ℕ) → k ≤ m → m < 2 ^ 32 → k < 2 ^ 32
      through k m h j = omega (arith, h, j)

  -- and the entries of the matrix to the basis
  pub found_small : (r : Matrix) → product b r ≡ matrix_multiple (pos n) identity → n < 2 ^ 32 → length os < 2 ^ 32 → EachEntry (AtMost (2 ^ 32)) r
  found_small r e top few = subst (EachEntry (AtMost (2 ^ 32))) (sym (found_is r e)) (raised (2 ^ 32) (through count (length os) translations.no_more few) (back_entries n (InLattice n os) lattice some count to_basis (adjugate to_basis) steps_are))
    where
      through : (k m : ℕ) → k ≤ m → m < 2 ^ 32 → k ≤ 2 ^ 32
      through k m h j = omega (arith, h, j)

  module _ (r f : Matrix) (i : ℕ) (e : product b r ≡ matrix_multiple (pos n) identity) (d : pos i ≡ determinant r) (g : f ≡ adjugate r) where
    index_count : i ≡ count
    index_count = same_natural i count (d ∙ ap determinant (found_is r e) ∙ sym index_is)

    -- what is found is the triangular basis, by the index and the two matrices
    pub found_steps : IsSteps n (InLattice n os) i r f
    found_steps =
        subst (λ (m : Matrix). IsSteps n (InLattice n os) i m f) (sym (found_is r e))
        (subst (λ (m : Matrix). IsSteps n (InLattice n os) i to_basis m) (sym (g ∙ ap adjugate (found_is r e)))
        (subst (λ (k : ℕ). IsSteps n (InLattice n os) k to_basis (adjugate to_basis)) (sym index_count) steps_are))

    -- the index is how many they are, where the list has no other operations
    pub found_count : HasOnlyPureTranslations os → length os ≡ i
    found_count h = sym (translations.as_many h) ∙ sym index_count

    -- the entries of both matrices are of at most the size of the index
    pub found_back_entries : EachEntry (AtMost i) r
    found_back_entries = back_entries n (InLattice n os) lattice some i r f found_steps

    pub found_fore_entries : EachEntry (AtMost i) f
    found_fore_entries = fore_entries n (InLattice n os) lattice some i r f found_steps
