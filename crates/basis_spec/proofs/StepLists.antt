-- The lattice of a list of pure translations: sums modulo n of the list make it a lattice, and the least numbers of the
-- list, or n where it has none, are the least of the lattice.
use Rattle.std.proofs.Common.{◌≡◌, ℕ, suc, zero, ℤ, pos, negsuc, ◌+ℤ◌, ◌*ℤ◌, ◌≤ℤ◌, ◌<ℤ◌, List, [], ◌∷◌, refl, sym, ap, subst, ◌∙◌, ◌⊎◌, inl, inr, arith}
use Rattle.std.specs.Int.{int_rem_euclid, int_div_euclid}
use Rattle.std.proofs.lemmas.Int.{ints}
use Rattle.ring.specs.Ring.{var, con, ◌:+◌, ◌:*◌}
use Rattle.ring.proofs.IntOrder.{weaken_lt}
use Rattle.lists.specs.Increasing.{IsMember}
use Rattle.crystal_spec.specs.Matrices.{Triple, multiple, sum_of}
use Rattle.positions.specs.Positions.{origin, modulo, triple}
use Rattle.crystal_spec.specs.Operations.{IsWithinCell, Operation}
use Rattle.crystal_spec.specs.Cells.{DiffersByCells}
use Rattle.basis_spec.specs.Translations.{pure_translation}
use Rattle.basis_spec.specs.StepBases.{IsClosed, InLattice, IsLattice, IsLeastPositive}
use Rattle.crystal_spec.proofs.Entrywise.{triple_same}
use Rattle.basis_spec.proofs.MatrixLaws.{sum_comm, sum_assoc, sum_of-origin, multiple-zero, multiple-sum_of, sum_swap}
use Rattle.basis_spec.proofs.StepBases.{once_more}
use Rattle.positions.proofs.Residues.{modulo_away, modulo_within, euclid, remainder_within}
use Rattle.basis_spec.proofs.PrimitiveCell.{differs_trans}
use Rattle.basis_spec.proofs.PureTranslations.{residues_same, translations_same, same_number}
use Rattle.crystal_spec.proofs.Identities.{by_integers}

less : (m : ℕ) (t : Triple) → sum_of (multiple (pos m) t) (multiple (pos (suc m)) (multiple (negsuc 0) t)) ≡ multiple (negsuc 0) t
less m t = triple_same (by m t.x) (by m t.y) (by m t.z)
  where
    grown : (k : ℕ) → pos (suc k) ≡ pos 1 +ℤ pos k
    grown k = omega (arith, ints)

    by : (k : ℕ) (a : ℤ) → pos k *ℤ a +ℤ pos (suc k) *ℤ (negsuc 0 *ℤ a) ≡ negsuc 0 *ℤ a
    by k a = ap (λ v. pos k *ℤ a +ℤ v *ℤ (negsuc 0 *ℤ a)) (grown k) ∙ by_integers (pos k ∷ a ∷ []) (var 0 :* var 1 :+ (con (pos 1) :+ var 0) :* (con (negsuc 0) :* var 1)) (con (negsuc 0) :* var 1) refl

module _ (n : ℕ) (operations : List Operation) (some : pos 0 <ℤ pos n) (closed : IsClosed n operations) where
  -- a triple whole cells away from one of the lattice
  away : (t u : Triple) → DiffersByCells n t u → InLattice n operations u → InLattice n operations t
  unfolding InLattice
  away t u d h = subst (λ (v : Triple). IsMember (pure_translation v) operations) (sym (residues_same n t u some d)) h

  origin_within : IsWithinCell n origin
  origin_within = let h : (pos 0 ≤ℤ pos 0) × (pos 0 <ℤ pos n) = (nought, some) in record { x = h; y = h; z = h }
    where
      nought : pos 0 ≤ℤ pos 0
      nought = omega (arith, ints)

  origin_in : InLattice n operations origin
  unfolding InLattice
  origin_in = subst (λ (v : Triple). IsMember (pure_translation v) operations) (translations_same n origin (modulo n origin) origin_within (modulo_within n origin some) (modulo_away n origin some)) closed.zero_in

  cells_in : (d : Triple) → InLattice n operations (multiple (pos n) d)
  cells_in d = away (multiple (pos n) d) origin (record { cells = d; is = sym (sum_comm origin (multiple (pos n) d) ∙ sum_of-origin (multiple (pos n) d)) }) origin_in

  differs_sums : {t t' u u' : Triple} → DiffersByCells n t t' → DiffersByCells n u u' → DiffersByCells n (sum_of t u) (sum_of t' u')
  differs_sums {t} {t'} {u} {u'} d e = record {
    cells = sum_of d.cells e.cells;
    is = (λ i. sum_of (d.is i) (e.is i)) ∙ rearranged t' u' (multiple (pos n) d.cells) (multiple (pos n) e.cells) ∙ ap (sum_of (sum_of t' u')) (sym (multiple-sum_of (pos n) d.cells e.cells));
  }
    where
      rearranged : (a b c d : Triple) → sum_of (sum_of a c) (sum_of b d) ≡ sum_of (sum_of a b) (sum_of c d)
      rearranged a b c d = sym (sum_assoc (sum_of a c) b d) ∙ ap (λ v. sum_of v d) (sum_swap a c b) ∙ sum_assoc (sum_of a b) c d

  -- a member of the list, as a member of the lattice
  once_in : (v : Triple) → IsWithinCell n v → IsMember (pure_translation v) operations → InLattice n operations v
  unfolding InLattice
  once_in v h m = subst (λ (u : Triple). IsMember (pure_translation u) operations) (translations_same n v (modulo n v) h (modulo_within n v some) (modulo_away n v some)) m

  sums_of : (t u : Triple) → InLattice n operations t → InLattice n operations u → IsMember (pure_translation (modulo n (sum_of (modulo n t) (modulo n u)))) operations
  unfolding InLattice
  sums_of t u h k = closed.sums (modulo n t) (modulo n u) h k

  sums_in : (t u : Triple) → InLattice n operations t → InLattice n operations u → InLattice n operations (sum_of t u)
  sums_in t u h k = away (sum_of t u) (modulo n (sum_of (modulo n t) (modulo n u)))
      (differs_trans (differs_sums (modulo_away n t some) (modulo_away n u some)) (modulo_away n (sum_of (modulo n t) (modulo n u)) some))
      (once_in (modulo n (sum_of (modulo n t) (modulo n u))) (modulo_within n (sum_of (modulo n t) (modulo n u)) some) (sums_of t u h k))

  multiples_in : (k : ℕ) (t : Triple) → InLattice n operations t → InLattice n operations (multiple (pos k) t)
  multiples_in zero t h = subst (InLattice n operations) (sym (multiple-zero t)) origin_in
  multiples_in (suc k) t h = subst (InLattice n operations) (once_more k t) (sums_in t (multiple (pos k) t) h (multiples_in k t h))

  -- -t is n - 1 times t, but for whole cells
  opposites_in : (t : Triple) → InLattice n operations t → InLattice n operations (multiple (negsuc 0) t)
  opposites_in t h = by n some refl
    where
      by : (m : ℕ) → pos 0 <ℤ pos m → m ≡ n → InLattice n operations (multiple (negsuc 0) t)
      by zero k e = absurd (omega (arith, ints))
      by (suc m) k e = away (multiple (negsuc 0) t) (multiple (pos m) t) (record { cells = multiple (negsuc 0) t; is = sym (ap (sum_of (multiple (pos m) t)) (ap (λ (i : ℕ). multiple (pos i) (multiple (negsuc 0) t)) (sym e)) ∙ less m t) }) (multiples_in m t h)

  -- so the list stands for a lattice
  pub list_lattice : IsLattice n (InLattice n operations)
  list_lattice = record { cells = cells_in; sums = sums_in; opposites = opposites_in }

  -- ---- the least numbers among the list and n are the least in the lattice
  rest_itself : (t : ℤ) → pos 0 ≤ℤ t → t <ℤ pos n → int_rem_euclid t (pos n) ≡ t
  rest_itself t h k = sym (same_number n t (int_rem_euclid t (pos n)) (int_div_euclid t (pos n)) (h, k) (remainder_within t n some) (euclid t n some))

  up_to : (t : ℤ) → (t <ℤ pos n) ⊎ (pos n ≤ℤ t)
  up_to t = grind (arith, ints)

  nothing_within : (pos 0 ≤ℤ pos 0) × (pos 0 <ℤ pos n)
  nothing_within = (nought, some)
    where
      nought : pos 0 ≤ℤ pos 0
      nought = omega (arith, ints)

  through : (s t : ℤ) → s ≤ℤ pos n → pos n ≤ℤ t → s ≤ℤ t
  through s t h k = omega (arith, ints)

  -- the least positive x of the list with y = z = 0, or n, is the least of the lattice
  pub least_first : (s : ℤ) → pos 0 <ℤ s → InLattice n operations (triple s (pos 0) (pos 0)) → s ≤ℤ pos n → ((x : ℤ) → pos 0 <ℤ x → IsMember (pure_translation (triple x (pos 0) (pos 0))) operations → s ≤ℤ x) → IsLeastPositive (λ s. InLattice n operations (triple s (pos 0) (pos 0))) s
  unfolding InLattice modulo
  least_first s p h top f = record { positive = p; it_holds = h; least = λ t q k. by t q k (up_to t) }
    where
      by : (t : ℤ) → pos 0 <ℤ t → IsMember (pure_translation (modulo n (triple t (pos 0) (pos 0)))) operations → (t <ℤ pos n) ⊎ (pos n ≤ℤ t) → s ≤ℤ t
      by t q k (inl l) = f t q (subst (λ (v : Triple). IsMember (pure_translation v) operations) (triple_same (rest_itself t (weaken_lt (pos 0) t q) l) (rest_itself (pos 0) nothing_within.0 nothing_within.1) (rest_itself (pos 0) nothing_within.0 nothing_within.1)) k)
      by t q k (inr l) = through s t top l

  -- the least positive y with z = 0 is the least of the lattice
  pub least_second : (s x : ℤ) → pos 0 <ℤ s → InLattice n operations (triple x s (pos 0)) → s ≤ℤ pos n → ((x y : ℤ) → pos 0 <ℤ y → IsMember (pure_translation (triple x y (pos 0))) operations → s ≤ℤ y) → IsLeastPositive (λ s. (x : ℤ) × InLattice n operations (triple x s (pos 0))) s
  unfolding InLattice modulo
  least_second s x p h top f = record { positive = p; it_holds = (x, h); least = λ t q k. by t k.0 q k.1 (up_to t) }
    where
      by : (t x : ℤ) → pos 0 <ℤ t → IsMember (pure_translation (modulo n (triple x t (pos 0)))) operations → (t <ℤ pos n) ⊎ (pos n ≤ℤ t) → s ≤ℤ t
      by t x q k (inl l) = f (int_rem_euclid x (pos n)) t q (subst (λ (v : Triple). IsMember (pure_translation v) operations) (triple_same refl (rest_itself t (weaken_lt (pos 0) t q) l) (rest_itself (pos 0) nothing_within.0 nothing_within.1)) k)
      by t x q k (inr l) = through s t top l

  -- the least positive z is the least of the lattice
  pub least_third : (s x y : ℤ) → pos 0 <ℤ s → InLattice n operations (triple x y s) → s ≤ℤ pos n → ((x y z : ℤ) → pos 0 <ℤ z → IsMember (pure_translation (triple x y z)) operations → s ≤ℤ z) → IsLeastPositive (λ s. (x : ℤ) × ((y : ℤ) × InLattice n operations (triple x y s))) s
  unfolding InLattice modulo
  least_third s x y p h top f = record { positive = p; it_holds = (x, (y, h)); least = λ t q k. by t k.0 k.1.0 q k.1.1 (up_to t) }
    where
      by : (t x y : ℤ) → pos 0 <ℤ t → IsMember (pure_translation (modulo n (triple x y t))) operations → (t <ℤ pos n) ⊎ (pos n ≤ℤ t) → s ≤ℤ t
      by t x y q k (inl l) = f (int_rem_euclid x (pos n)) (int_rem_euclid y (pos n)) t q (subst (λ (v : Triple). IsMember (pure_translation v) operations) (triple_same refl refl (rest_itself t (weaken_lt (pos 0) t q) l)) k)
      by t x y q k (inr l) = through s t top l
