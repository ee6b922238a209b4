-- What is found for an atom is its orbit.
use Rattle.std.proofs.Common.{◌≡◌, sym, ap, subst, ◌∙◌, ℕ, pos, ◌≤◌, ◌<◌, ◌<ℤ◌, List, [], ◌∷◌, ◌++◌, length, map, get_or, ◌⊎◌, inl, inr, arith}
use Rattle.std.specs.Prelude.{◌↔◌, slice_get, Some}
use Rattle.std.proofs.lemmas.Int.{ints}
use Rattle.std.proofs.lemmas.Option.{same_Some, slice_get_within, slice_get-get_or}
use Rattle.lists.specs.Increasing.{IsIncreasing, IsMember}
use Rattle.lists.proofs.Members.{member_at, slice_get_pushed}
use Rattle.crystal_spec.specs.Matrices.{Triple, Matrix, image}
use Rattle.crystal_spec.specs.Moments.{turn_matrix}
use Rattle.crystal_spec.specs.Crystals.{Atom, Structure}
use Rattle.crystal_spec.specs.Operations.{Operation, compare_of, ListsAll}
use Rattle.crystal_spec.specs.Cells.{IsCell}
use Rattle.crystal_spec.proofs.Images.{IsApart, occupied_itself, one_atom_each_of_apart}
use Rattle.crystal.specs.Cells.{IsCellWithinLimits}
use Rattle.crystal.proofs.CellLemmas.{apart_cell}
use Rattle.positions.specs.Positions.{modulo}
use Rattle.basis_spec.specs.Bases.{SameCrystal}
use Rattle.op_group.specs.Groups.{IsGroupModulo}
use Rattle.op_group.proofs.GroupLaws.{group_of_all}
use Rattle.site_orbits.specs.Orbits.{IsAlike, IsEquivalence, HasOneSpecies, ListsSite, CountsOrbit}
use Rattle.site_orbits.specs.Entries.{AtomOrbit, IsOrbitOf, IsOrbitAt, HaveOrbits, AreFirstsBelow}
use Rattle.site_orbits.specs.Images.{image_within, atoms_at, IsFirstAmong}
use Rattle.site_orbits.proofs.CarriedPositions.{fixed_exactly}
use Rattle.site_orbits.proofs.Counting.{counts_orbit, first_alike}
use Rattle.site_orbits.proofs.Equivalence.{equivalence_of_group, one_species}
use Rattle.site_orbits.proofs.Fixing.{either_way}
use Rattle.site_orbits.proofs.Stabilizer.{orbit_stabilizer}

positive_n : (n : ℕ) → 1 ≤ n → pos 0 <ℤ pos n
positive_n n h = omega (arith, ints, h)

-- what is found for an atom: its position p in the basis of the primitive cell modulo m, the images qs of that, and the rest
pub record IsFound (c : Structure) (r : Matrix) (b : Structure) (os : List Operation) (i m : ℕ) (p : Triple) (qs : List Triple) (o : AtomOrbit) : Type 0 where
  pub atom : Atom
  pub is_atom : slice_get c.atoms i ≡ Some atom
  pub place_is : p ≡ modulo c.n (image r atom.position)
  pub images_are : qs ≡ map (image_within m p) os
  pub first : IsFirstAmong c.n r qs c.atoms i o.first
  pub size : o.size ≡ length (atoms_at qs b.atoms)
  pub same_n : o.site.n ≡ m
  pub ordered : IsIncreasing compare_of o.site.operations
  pub exact : (u : Operation) → IsMember u o.site.operations ↔ (IsMember u os × (image_within m p u ≡ p))

module _ (c b : Structure) (r : Matrix) (os : List Operation) (cell : IsCell c) (primitive : IsCellWithinLimits b) (same : SameCrystal c b r) (all : ListsAll b os) where
  group : IsGroupModulo b.n os
  group = group_of_all b primitive.positive primitive.n_at_least os all

  -- being alike is an equivalence
  pub alike_equivalence : IsEquivalence (IsAlike c.n os)
  alike_equivalence = subst (λ (n : ℕ). IsEquivalence (IsAlike n os)) same.n (equivalence_of_group b.n os group)

  -- and atoms that are alike are of one species
  pub alike_species : HasOneSpecies c r (IsAlike c.n os)
  alike_species x y mx my h =
      one_species c b r os same (one_atom_each_of_apart b (apart_cell b primitive)) all x y mx my
      (subst (λ (n : ℕ). IsAlike n os (image r x.position) (image r y.position)) (sym same.n) h)

  pub orbit_found : (i m : ℕ) (p : Triple) (qs : List Triple) (o : AtomOrbit) → m ≡ b.n → IsFound c r b os i m p qs o → IsOrbitAt c r b os i o
  orbit_found i m p qs o same_m found a at = record {
    first = first_alike c r os a i o.first cell.some_cells (slice_get_within c.atoms i a at) at (alike_equivalence.reflexive q) (subst (λ (l : List Triple). IsFirstAmong c.n r l c.atoms i o.first) images_c found.first);
    size = counts;
    same_n = found.same_n ∙ same_m;
    site = lists;
    product = orbit_stabilizer b os a.species q (image (turn_matrix c.kind r) a.moment) o.size o.site.operations primitive.n_at_least (one_atom_each_of_apart b apart) all group
        ((same.crystal a.species a.position a.moment).0 (occupied_itself c a (member_at c.atoms i a at))) counts lists;
  }
    where
      q : Triple
      q = image r a.position

      apart : IsApart b
      apart = apart_cell b primitive

      place_c : p ≡ modulo c.n q
      place_c = found.place_is ∙ ap (λ (x : Atom). modulo c.n (image r x.position)) (same_Some found.atom a (sym found.is_atom ∙ at))

      place_b : p ≡ modulo b.n q
      place_b = place_c ∙ ap (λ (n : ℕ). modulo n q) (sym same.n)

      images_b : qs ≡ map (image_within b.n (modulo b.n q)) os
      images_b = found.images_are ∙ (λ k. map (image_within (same_m k) (place_b k)) os)

      images_c : qs ≡ map (image_within c.n (modulo c.n q)) os
      images_c = found.images_are ∙ (λ k. map (image_within ((same_m ∙ same.n) k) (place_c k)) os)

      counts : CountsOrbit b os q o.size
      counts = counts_orbit b os q o.size (positive_n b.n primitive.n_at_least) apart.distinct apart.within (found.size ∙ ap (λ (l : List Triple). length (atoms_at l b.atoms)) images_b)

      lists : ListsSite b.n os q o.site.operations
      lists = record {
        increasing = found.ordered;
        exact = λ u. either_way (subst (λ (t : Triple). IsMember u o.site.operations ↔ (IsMember u os × (image_within b.n t u ≡ t))) place_b
            (subst (λ (n : ℕ). IsMember u o.site.operations ↔ (IsMember u os × (image_within n p u ≡ p))) same_m (found.exact u)))
            (fixed_exactly b.n (positive_n b.n primitive.n_at_least) os q u);
      }

-- ---- the list of all
pub no_orbits : (c : Structure) (r : Matrix) (b : Structure) (os : List Operation) (made : List AtomOrbit) → made ≡ [] → HaveOrbits c r b os made
no_orbits c r b os made none i o is = absurd (nothing i (subst (λ (l : List AtomOrbit). slice_get l i ≡ Some o) none is))
  where
    nothing : (i : ℕ) → slice_get {X = AtomOrbit} [] i ≡ Some o → ⊥
    nothing i e = cc e

-- one more
pub orbits_more : (c : Structure) (r : Matrix) (b : Structure) (os : List Operation) (i : ℕ) (made made' : List AtomOrbit) (x : AtomOrbit) → made' ≡ made ++ x ∷ [] → length made ≡ i → IsOrbitAt c r b os i x →
    HaveOrbits c r b os made → HaveOrbits c r b os made'
orbits_more c r b os i made made' x grown long is have j o at = by (slice_get_pushed made x o j (subst (λ (l : List AtomOrbit). slice_get l j ≡ Some o) grown at))
  where
    by : (slice_get made j ≡ Some o) ⊎ ((j ≡ length made) × (o ≡ x)) → IsOrbitAt c r b os j o
    by (inl h) = have j o h
    by (inr h) = subst (λ (k : ℕ). IsOrbitAt c r b os k o) (sym (h.0 ∙ long)) (subst (IsOrbitAt c r b os i) (sym h.1) is)

-- some atom
no_atom : Atom
no_atom = record { species = 0; position = record { x = pos 0; y = pos 0; z = pos 0 }; moment = record { x = pos 0; y = pos 0; z = pos 0 } }

-- the first alike atoms of the atoms of a cell are atoms of the cell
pub firsts_below : (c : Structure) (r : Matrix) (b : Structure) (os : List Operation) (orbits : List AtomOrbit) → length orbits ≡ length c.atoms → HaveOrbits c r b os orbits → AreFirstsBelow orbits
firsts_below c r b os orbits long have i o at =
    let a = get_or c.atoms i no_atom in
    let inside : i < length c.atoms = subst (λ (k : ℕ). i < k) long (slice_get_within orbits i o at) in
    let orbit : IsOrbitOf c r b os (image r a.position) o = have i o at a (slice_get-get_or c.atoms i no_atom inside) in
    subst (λ (k : ℕ). o.first < k) (sym long) (slice_get_within c.atoms o.first orbit.first.atom orbit.first.is_atom)
