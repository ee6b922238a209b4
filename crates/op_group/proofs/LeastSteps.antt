-- The least steps of a list of pure translations, found by one pass over it.
--
-- A member of the list is within one cell, so it is in the lattice. So is a whole cell along an axis. The least step so far
-- is at most those of the list that are not still to come.
use Rattle.std.proofs.Common.{◌≡◌, refl, sym, ap, subst, ◌⊎◌, inl, inr, ℕ, ◌<◌, ◌≤◌, List, [], ◌∷◌, arith}
use Rattle.std.specs.Prelude.{ℤ, pos, ◌*ℤ◌, ◌≤ℤ◌, ◌<ℤ◌}
use Rattle.std.proofs.lemmas.Int.{ints}
use Rattle.ring.specs.Ring.{var, con, ◌:*◌}
use Rattle.lists.specs.Increasing.{IsMember}
use Rattle.crystal_spec.specs.Matrices.{Triple}
use Rattle.crystal_spec.specs.Operations.{Operation, IsWithinCell}
use Rattle.crystal_spec.proofs.Entrywise.{triple_same}
use Rattle.crystal_spec.proofs.Identities.{by_integers}
use Rattle.positions.specs.Positions.{origin, modulo}
use Rattle.basis_spec.specs.Translations.{pure_translation}
use Rattle.basis_spec.specs.StepBases.{InLattice, IsClosed}
use Rattle.basis_spec.proofs.MatrixLaws.{axis1, axis2, axis3}
use Rattle.positions.proofs.Residues.{modulo_away, modulo_within}
use Rattle.basis_spec.proofs.PureTranslations.{translations_same}
use Rattle.basis_spec.proofs.StepLists.{list_lattice}
use Rattle.op_group.specs.Lists.{AllWithinCell}
use Rattle.op_group.specs.Steps.{IsAlong, along, whole_cell, IsStep, IsLeastStep}
use Rattle.op_group.specs.declared.steps.Axis.{Axis}
use Rattle.op_group.specs.declared.steps.Axis.TheVariants.{X, Y, Z}

-- ---- members and the lattice

-- a list with (0, 0, 0) within one cell has a positive n
pub some_cells : (n : ℕ) (os : List Operation) → AllWithinCell n os → IsClosed n os → pos 0 <ℤ pos n
some_cells n os within closed = (within (pure_translation origin) closed.zero_in).x.1

residue_itself : (n : ℕ) (t : Triple) → pos 0 <ℤ pos n → IsWithinCell n t → t ≡ modulo n t
residue_itself n t some h = translations_same n t (modulo n t) h (modulo_within n t some) (modulo_away n t some)

-- a pure translation of the list is in the lattice
pub in_lattice : (n : ℕ) (os : List Operation) (t : Triple) → AllWithinCell n os → pos 0 <ℤ pos n → IsMember (pure_translation t) os → InLattice n os t
unfolding InLattice
in_lattice n os t within some m = subst (λ (u : Triple). IsMember (pure_translation u) os) (residue_itself n t some (within (pure_translation t) m)) m

-- and one of the lattice within one cell is of the list
pub of_lattice : (n : ℕ) (os : List Operation) (t : Triple) → pos 0 <ℤ pos n → IsWithinCell n t → InLattice n os t → IsMember (pure_translation t) os
unfolding InLattice
of_lattice n os t some within m = subst (λ (u : Triple). IsMember (pure_translation u) os) (sym (residue_itself n t some within)) m

-- whole cells along the axes are in the lattice
whole_in : (n : ℕ) (os : List Operation) (axis : Axis) → pos 0 <ℤ pos n → IsClosed n os → InLattice n os (whole_cell axis n)
whole_in n os axis some closed = by axis
  where
    one : pos n *ℤ pos 1 ≡ pos n
    one = by_integers (pos n ∷ []) (var 0 :* con (pos 1)) (var 0) refl

    none : pos n *ℤ pos 0 ≡ pos 0
    none = by_integers (pos n ∷ []) (var 0 :* con (pos 0)) (con (pos 0)) refl

    by : (a : Axis) → InLattice n os (whole_cell a n)
    by X = subst (InLattice n os) (triple_same one none none) ((list_lattice n os some closed).cells axis1)
    by Y = subst (InLattice n os) (triple_same none one none) ((list_lattice n os some closed).cells axis2)
    by Z = subst (InLattice n os) (triple_same none none one) ((list_lattice n os some closed).cells axis3)

whole_along : (n : ℕ) (axis : Axis) → (along axis (whole_cell axis n) ≡ pos n) × IsAlong axis (whole_cell axis n)
whole_along n X = (refl, (refl, refl))
whole_along n Y = (refl, refl)
whole_along n Z = (refl, tt)

-- ---- the least step so far, where the rest of the list is still to come

pub record IsLeastSoFar (n : ℕ) (os rest : List Operation) (axis : Axis) (t : Triple) : Type 0 where
  pub in_lattice : InLattice n os t
  pub is_along : IsAlong axis t
  pub positive : pos 0 <ℤ along axis t
  pub at_most : along axis t ≤ℤ pos n
  pub least : (o : Operation) → IsMember o os → IsStep axis o → IsMember o rest ⊎ (along axis t ≤ℤ along axis o.translation)

-- at first it is a whole cell
pub least_at_first : (n : ℕ) (os : List Operation) (axis : Axis) (t : Triple) → AllWithinCell n os → IsClosed n os → t ≡ whole_cell axis n → IsLeastSoFar n os os axis t
least_at_first n os axis t within closed e =
    let some = some_cells n os within closed in
    let w = whole_along n axis in
    subst (IsLeastSoFar n os os axis) (sym e) (record {
      in_lattice = whole_in n os axis some closed;
      is_along = w.1;
      positive = subst (λ (z : ℤ). pos 0 <ℤ z) (sym w.0) some;
      at_most = up_to (along axis (whole_cell axis n)) (pos n) w.0;
      least = λ o m s. inl m;
    })
  where
    up_to : (a m : ℤ) → a ≡ m → a ≤ℤ m
    up_to a m e = omega (arith, ints, e)

module _ (n : ℕ) (os rest : List Operation) (axis : Axis) (t : Triple) (x : Operation) (h : IsLeastSoFar n os (x ∷ rest) axis t) where
  -- it stays where the next operation is no lesser step
  pub least_kept : (IsStep axis x → along axis t ≤ℤ along axis x.translation) → IsLeastSoFar n os rest axis t
  least_kept k = record {
    in_lattice = h.in_lattice;
    is_along = h.is_along;
    positive = h.positive;
    at_most = h.at_most;
    least = λ o m s. by o s (h.least o m s);
  }
    where
      by : (o : Operation) → IsStep axis o → IsMember o (x ∷ rest) ⊎ (along axis t ≤ℤ along axis o.translation) → IsMember o rest ⊎ (along axis t ≤ℤ along axis o.translation)
      by o s (inl (inl e)) = inr (subst (λ (p : Operation). along axis t ≤ℤ along axis p.translation) (sym e) (k (subst (IsStep axis) e s)))
      by o s (inl (inr m)) = inl m
      by o s (inr l) = inr l

  -- a lesser step takes its place
  pub least_taken : AllWithinCell n os → IsClosed n os → IsMember x os → IsStep axis x → along axis x.translation <ℤ along axis t → IsLeastSoFar n os rest axis x.translation
  least_taken within closed member step less = record {
    in_lattice = in_lattice n os x.translation within (some_cells n os within closed) (subst (λ (o : Operation). IsMember o os) step.pure member);
    is_along = step.is_along;
    positive = step.positive;
    at_most = below (along axis x.translation) (along axis t) (pos n) less h.at_most;
    least = λ o m s. by o (h.least o m s);
  }
    where
      below : (a b m : ℤ) → a <ℤ b → b ≤ℤ m → a ≤ℤ m
      below a b m p q = omega (arith, ints)

      itself : (a b : ℤ) → a ≡ b → a ≤ℤ b
      itself a b e = omega (arith, ints, e)

      by : (o : Operation) → IsMember o (x ∷ rest) ⊎ (along axis t ≤ℤ along axis o.translation) → IsMember o rest ⊎ (along axis x.translation ≤ℤ along axis o.translation)
      by o (inl (inl e)) = inr (itself (along axis x.translation) (along axis o.translation) (ap (λ (p : Operation). along axis p.translation) (sym e)))
      by o (inl (inr m)) = inl m
      by o (inr l) = inr (below (along axis x.translation) (along axis t) (along axis o.translation) less l)

-- in the end it is the least
pub least_at_last : (n : ℕ) (os : List Operation) (axis : Axis) (t : Triple) → IsLeastSoFar n os [] axis t → IsLeastStep n os axis t
least_at_last n os axis t h = record {
  in_lattice = h.in_lattice;
  is_along = h.is_along;
  positive = h.positive;
  at_most = h.at_most;
  least = λ o m s. by o (h.least o m s);
}
  where
    by : (o : Operation) → IsMember o [] ⊎ (along axis t ≤ℤ along axis o.translation) → along axis t ≤ℤ along axis o.translation
    by o (inl m) = absurd m
    by o (inr l) = l

-- the order of natural numbers, as integers
pub less_as_integers : (a b : ℕ) (x y : ℤ) → pos a ≡ x → pos b ≡ y → a < b → x <ℤ y
less_as_integers a b x y e f h = subst (λ (v : ℤ). v <ℤ y) e (subst (λ (w : ℤ). pos a <ℤ w) f (by a b h))
  where
    by : (a b : ℕ) → a < b → pos a <ℤ pos b
    by a b h = omega (arith, ints)

pub not_less_as_integers : (a b : ℕ) (x y : ℤ) → pos a ≡ x → pos b ≡ y → b ≤ a → y ≤ℤ x
not_less_as_integers a b x y e f h = subst (λ (v : ℤ). y ≤ℤ v) e (subst (λ (w : ℤ). w ≤ℤ pos a) f (by a b h))
  where
    by : (a b : ℕ) → b ≤ a → pos b ≤ℤ pos a
    by a b h = omega (arith, ints)
