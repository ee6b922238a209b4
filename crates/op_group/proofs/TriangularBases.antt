-- The triangular basis of the lattice of a list, from its least steps, and what is found from the basis.
--
-- The least steps are the least numbers of the lattice. The second, less as many times s1 as go into its x, and the third,
-- less as many times the second as s2 goes into its y, and then as many times s1 as go into its x, are the other columns.
use Rattle.std.proofs.Common.{◌≡◌, refl, sym, ap, subst, ◌∙◌, ℕ, ◌+◌, ◌-◌, ◌*◌, ◌/◌, ◌%◌, ◌<◌, List, [], ◌∷◌, arith, mod-lt}
use Rattle.std.specs.Prelude.{ℤ, pos, ◌+ℤ◌, ◌*ℤ◌, neg_ℤ, ◌≤ℤ◌, ◌<ℤ◌, slice_index}
use Rattle.std.proofs.lemmas.Int.{ints}
use Rattle.std.proofs.lemmas.Nat.{div-add-mod'}
use Rattle.ring.specs.Ring.{var, ◌:+◌, ◌:*◌, opposite}
use Rattle.crystal_spec.specs.Matrices.{Triple, Matrix, multiple, sum_of}
use Rattle.crystal_spec.specs.Operations.{Operation}
use Rattle.crystal_spec.proofs.Entrywise.{triple_same}
use Rattle.crystal_spec.proofs.Identities.{by_integers}
use Rattle.positions.specs.Positions.{triple, triple_of}
use Rattle.basis_spec.specs.Translations.{pure_translation}
use Rattle.basis_spec.specs.StepBases.{InLattice, IsClosed, IsLattice, IsLeastPositive, IsStepBasis}
use Rattle.basis_spec.proofs.StepBases.{multiple_in, taken_away, nothing_off}
use Rattle.basis_spec.proofs.StepLists.{list_lattice, least_first, least_second, least_third}
use Rattle.basis_spec.proofs.StepMaking.{is_step_basis}
use Rattle.op_group.specs.Steps.{along, IsLeastStep, upper_triangular}
use Rattle.op_group.specs.declared.steps.Axis.TheVariants.{X, Y, Z}

-- ---- division with rest

split : (x s q r : ℕ) → q * s + r ≡ x → pos x ≡ pos r +ℤ pos s *ℤ pos q
split x s q r e = omega (arith, ints, e)

rest_within : (x s : ℕ) → 0 < s → (pos 0 ≤ℤ pos (x % s)) × (pos (x % s) <ℤ pos s)
rest_within x s h = by (x % s) (mod-lt x h)
  where
    by : (r : ℕ) → r < s → (pos 0 ≤ℤ pos r) × (pos r <ℤ pos s)
    by r k = (omega (arith, ints), omega (arith, ints))

-- x less q times a step below s, but for a multiple of s, is x and q times what the step lacks to s
rest_of : (x q a s k r : ℕ) → a < s → k * s + r ≡ x + q * (s - a) → (pos x +ℤ neg_ℤ (pos q) *ℤ pos a) +ℤ neg_ℤ (pos k +ℤ neg_ℤ (pos q)) *ℤ pos s ≡ pos r
rest_of x q a s k r h e = by (s - a) refl
  where
    lack : (d : ℕ) → s - a ≡ d → pos s ≡ pos a +ℤ pos d
    lack d f = omega (arith, ints, f, h)

    sum : (d : ℕ) → k * s + r ≡ x + q * d → pos k *ℤ pos s +ℤ pos r ≡ pos x +ℤ pos q *ℤ pos d
    sum d f = omega (arith, ints, f)

    by : (d : ℕ) → s - a ≡ d → (pos x +ℤ neg_ℤ (pos q) *ℤ pos a) +ℤ neg_ℤ (pos k +ℤ neg_ℤ (pos q)) *ℤ pos s ≡ pos r
    by d f =
        by_integers (pos x ∷ pos q ∷ pos a ∷ pos k ∷ pos s ∷ []) ((var 0 :+ opposite (var 1) :* var 2) :+ opposite (var 3 :+ opposite (var 1)) :* var 4) (((var 0 :+ opposite (var 1) :* var 2) :+ var 1 :* var 4) :+ opposite (var 3 :* var 4)) refl
        ∙ ap (λ (v : ℤ). ((pos x +ℤ neg_ℤ (pos q) *ℤ pos a) +ℤ pos q *ℤ v) +ℤ neg_ℤ (pos k *ℤ pos s)) (lack d f)
        ∙ by_integers (pos x ∷ pos q ∷ pos a ∷ pos d ∷ (pos k *ℤ pos s) ∷ []) (((var 0 :+ opposite (var 1) :* var 2) :+ var 1 :* (var 2 :+ var 3)) :+ opposite (var 4)) ((var 0 :+ var 1 :* var 3) :+ opposite (var 4)) refl
        ∙ ap (λ (v : ℤ). v +ℤ neg_ℤ (pos k *ℤ pos s)) (sym (sum d (e ∙ ap (λ (m : ℕ). x + q * m) f)))
        ∙ by_integers ((pos k *ℤ pos s) ∷ pos r ∷ []) ((var 0 :+ var 1) :+ opposite (var 0)) (var 1) refl

-- ---- the basis of the least steps

module _ (n : ℕ) (os : List Operation) (some : pos 0 <ℤ pos n) (closed : IsClosed n os) (s1 x s2 u v s3 : ℕ) (h1 : IsLeastStep n os X (triple (pos s1) (pos 0) (pos 0))) (h2 : IsLeastStep n os Y (triple (pos x) (pos s2) (pos 0))) (h3 : IsLeastStep n os Z (triple (pos u) (pos v) (pos s3))) where
  lattice : IsLattice n (InLattice n os)
  lattice = list_lattice n os some closed

  positive : (s : ℕ) → pos 0 <ℤ pos s → 0 < s
  positive s h = omega (arith, ints)

  first : IsLeastPositive (λ s. InLattice n os (triple s (pos 0) (pos 0))) (pos s1)
  first = least_first n os some closed (pos s1) h1.positive h1.in_lattice h1.at_most (λ a p m. h1.least (pure_translation (triple a (pos 0) (pos 0))) m (record { pure = refl; is_along = (refl, refl); positive = p }))

  second : IsLeastPositive (λ s. (a : ℤ) × InLattice n os (triple a s (pos 0))) (pos s2)
  second = least_second n os some closed (pos s2) (pos x) h2.positive h2.in_lattice h2.at_most (λ a b p m. h2.least (pure_translation (triple a b (pos 0))) m (record { pure = refl; is_along = refl; positive = p }))

  third : IsLeastPositive (λ s. (a : ℤ) × ((b : ℤ) × InLattice n os (triple a b s))) (pos s3)
  third = least_third n os some closed (pos s3) (pos u) (pos v) h3.positive h3.in_lattice h3.at_most (λ a b c p m. h3.least (pure_translation (triple a b c)) m (record { pure = refl; is_along = tt; positive = p }))

  -- a member less a multiple of another
  less_times : (t w : Triple) (q : ℤ) → InLattice n os t → InLattice n os w → InLattice n os (sum_of t (multiple (neg_ℤ q) w))
  unfolding lattice
  less_times t w q m k = (list_lattice n os some closed).sums t (multiple (neg_ℤ q) w) m (multiple_in n (InLattice n os) (list_lattice n os some closed) (neg_ℤ q) w k)

  second_column : InLattice n os (triple (pos (x % s1)) (pos s2) (pos 0))
  second_column = subst (InLattice n os)
      (triple_same (taken_away (pos x) (pos s1) (pos (x / s1)) (pos (x % s1)) (split x s1 (x / s1) (x % s1) (div-add-mod' x s1))) (nothing_off (pos s2) (pos (x / s1))) (nothing_off (pos 0) (pos (x / s1))))
      (less_times (triple (pos x) (pos s2) (pos 0)) (triple (pos s1) (pos 0) (pos 0)) (pos (x / s1)) h2.in_lattice h1.in_lattice)

  pub second_below : x % s1 < s1
  second_below = mod-lt x (positive s1 h1.positive)

  third_column : InLattice n os (triple (pos ((u + v / s2 * (s1 - x % s1)) % s1)) (pos (v % s2)) (pos s3))
  third_column =
      let q = v / s2 in
      let total = u + q * (s1 - x % s1) in
      let k = pos (total / s1) +ℤ neg_ℤ (pos q) in
      subst (InLattice n os)
      (triple_same (rest_of u q (x % s1) s1 (total / s1) (total % s1) second_below (div-add-mod' total s1))
      (nothing_off (pos v +ℤ neg_ℤ (pos q) *ℤ pos s2) k ∙ taken_away (pos v) (pos s2) (pos q) (pos (v % s2)) (split v s2 q (v % s2) (div-add-mod' v s2)))
      (nothing_off (pos s3 +ℤ neg_ℤ (pos q) *ℤ pos 0) k ∙ nothing_off (pos s3) (pos q)))
      (less_times (sum_of (triple (pos u) (pos v) (pos s3)) (multiple (neg_ℤ (pos q)) (triple (pos (x % s1)) (pos s2) (pos 0)))) (triple (pos s1) (pos 0) (pos 0)) k
      (less_times (triple (pos u) (pos v) (pos s3)) (triple (pos (x % s1)) (pos s2) (pos 0)) (pos q) h3.in_lattice second_column)
      h1.in_lattice)

  -- the columns are the triangular basis
  pub basis_found : IsStepBasis (InLattice n os) (upper_triangular s1 (x % s1) s2 ((u + v / s2 * (s1 - x % s1)) % s1) (v % s2) s3)
  basis_found = is_step_basis n (InLattice n os) lattice (pos s1) (pos s2) (pos s3) first second third (pos (x % s1)) (pos ((u + v / s2 * (s1 - x % s1)) % s1)) (pos (v % s2))
      second_column (rest_within x s1 (positive s1 h1.positive))
      third_column (rest_within v s2 (positive s2 h2.positive)) (rest_within (u + v / s2 * (s1 - x % s1)) s1 (positive s1 h1.positive))

-- the same, of the three steps as the code has them
pub basis_of_steps : (n : ℕ) (os : List Operation) (closed : IsClosed n os) (t1 t2 t3 : List ℕ) (x3 : ℕ) (r : Matrix) → IsLeastStep n os X (triple_of t1) → IsLeastStep n os Y (triple_of t2) → IsLeastStep n os Z (triple_of t3) →
    x3 ≡ (slice_index t3 0 + slice_index t3 1 / slice_index t2 1 * (slice_index t1 0 - slice_index t2 0 % slice_index t1 0)) % slice_index t1 0 →
    r ≡ upper_triangular (slice_index t1 0) (slice_index t2 0 % slice_index t1 0) (slice_index t2 1) x3 (slice_index t3 1 % slice_index t2 1) (slice_index t3 2) → IsStepBasis (InLattice n os) r
basis_of_steps n os closed t1 t2 t3 x3 r h1 h2 h3 e f =
    let k1 = subst (IsLeastStep n os X) (triple_same refl h1.is_along.0 h1.is_along.1) h1 in
    let k2 = subst (IsLeastStep n os Y) (triple_same refl refl h2.is_along) h2 in
    let some = through (along X (triple_of t1)) (pos n) h1.positive h1.at_most in
    subst (IsStepBasis (InLattice n os))
    (sym (f ∙ ap (λ (a : ℕ). upper_triangular (slice_index t1 0) (slice_index t2 0 % slice_index t1 0) (slice_index t2 1) a (slice_index t3 1 % slice_index t2 1) (slice_index t3 2)) e))
    (basis_found n os some closed (slice_index t1 0) (slice_index t2 0) (slice_index t2 1) (slice_index t3 0) (slice_index t3 1) (slice_index t3 2) k1 k2 h3)
  where
    through : (a m : ℤ) → pos 0 <ℤ a → a ≤ℤ m → pos 0 <ℤ m
    through a m p q = omega (arith, ints)
