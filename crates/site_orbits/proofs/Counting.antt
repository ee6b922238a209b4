-- The atoms at the images of a position: which they are, and how many.
use Rattle.std.proofs.Common.{◌≡◌, refl, sym, ap, subst, ◌∙◌, ◌⊎◌, inl, inr, ℕ, zero, suc, ◌+◌, ◌<◌, ◌≤◌, pos, ◌<ℤ◌, Bool, true, false, List, [], ◌∷◌, length, map, drop, arith}
use Rattle.std.specs.Prelude.{◌||◌, slice_get, Some}
use Rattle.std.proofs.lemmas.Option.{same_Some}
use Rattle.lists.specs.Increasing.{IsMember, IsDistinct}
use Rattle.lists.proofs.Walks.{drop_at}
use Rattle.lists.proofs.Counting.{below_or}
use Rattle.crystal_spec.specs.Matrices.{Triple, Matrix, image}
use Rattle.crystal_spec.specs.Crystals.{Atom, Structure}
use Rattle.crystal_spec.specs.Operations.{Operation, IsWithinCell}
use Rattle.positions.specs.Positions.{modulo}
use Rattle.basis_spec.specs.Bases.{is_same_position}
use Rattle.basis_spec.proofs.FirstAtoms.{same_position_decides}
use Rattle.site_orbits.specs.Orbits.{IsAlike, CountsOrbit, IsFirstAlike}
use Rattle.site_orbits.specs.Images.{image_within, position_in, is_one_of, atoms_at, IsFirstAmong}
use Rattle.site_orbits.proofs.CarriedPositions.{residue_itself, image_of_alike, alike_of_image}

one_of_member : (qs : List Triple) (p : Triple) → is_one_of qs p ≡ true → IsMember p qs
one_of_member [] p h = absurd (cc h)
one_of_member (q ∷ qs) p h = by (is_same_position p q) (same_position_decides p q).0 h (one_of_member qs p)
  where
    by : (w : Bool) → (w ≡ true → p ≡ q) → (w || is_one_of qs p) ≡ true → (is_one_of qs p ≡ true → IsMember p qs) → (p ≡ q) ⊎ IsMember p qs
    by true same k rec = inl (same refl)
    by false same k rec = inr (rec k)

member_one_of : (qs : List Triple) (p : Triple) → IsMember p qs → is_one_of qs p ≡ true
member_one_of [] p m = absurd m
member_one_of (q ∷ qs) p (inl e) = ap (λ (w : Bool). w || is_one_of qs p) ((same_position_decides p q).1 e)
member_one_of (q ∷ qs) p (inr m) = by (is_same_position p q) (member_one_of qs p m)
  where
    by : (w : Bool) → is_one_of qs p ≡ true → (w || is_one_of qs p) ≡ true
    by true e = refl
    by false e = e

-- ---- the atoms at one of some positions
-- they are the atoms of the list whose position is one of these
pub at_member : (qs : List Triple) (a : Atom) (atoms : List Atom) → IsMember a (atoms_at qs atoms) → IsMember a atoms × IsMember a.position qs
at_member qs a [] m = absurd m
at_member qs a (x ∷ atoms) m = by (is_one_of qs x.position) (one_of_member qs x.position) m (at_member qs a atoms)
  where
    later : IsMember a atoms × IsMember a.position qs → IsMember a (x ∷ atoms) × IsMember a.position qs
    later h = (inr h.0, h.1)

    by : (w : Bool) → (w ≡ true → IsMember x.position qs) → IsMember a (elim w [ true ↦ x ∷ atoms_at qs atoms | false ↦ atoms_at qs atoms ]) → (IsMember a (atoms_at qs atoms) → IsMember a atoms × IsMember a.position qs) → IsMember a (x ∷ atoms) × IsMember a.position qs
    by true one (inl e) rec = (inl e, subst (λ (s : Atom). IsMember s.position qs) (sym e) (one refl))
    by true one (inr k) rec = later (rec k)
    by false one k rec = later (rec k)

pub member_at_one : (qs : List Triple) (a : Atom) (atoms : List Atom) → IsMember a atoms → IsMember a.position qs → IsMember a (atoms_at qs atoms)
member_at_one qs a [] m k = absurd m
member_at_one qs a (x ∷ atoms) (inl e) k = by (is_one_of qs x.position) (member_one_of qs x.position (subst (λ (s : Atom). IsMember s.position qs) e k))
  where
    by : (w : Bool) → w ≡ true → IsMember a (elim w [ true ↦ x ∷ atoms_at qs atoms | false ↦ atoms_at qs atoms ])
    by true h = inl e
    by false h = absurd (cc h)
member_at_one qs a (x ∷ atoms) (inr m) k = by (is_one_of qs x.position) (member_at_one qs a atoms m k)
  where
    by : (w : Bool) → IsMember a (atoms_at qs atoms) → IsMember a (elim w [ true ↦ x ∷ atoms_at qs atoms | false ↦ atoms_at qs atoms ])
    by true h = inr h
    by false h = h

pub at_distinct : (qs : List Triple) (atoms : List Atom) → IsDistinct atoms → IsDistinct (atoms_at qs atoms)
at_distinct qs [] d = tt
at_distinct qs (x ∷ atoms) d = by (is_one_of qs x.position) (at_distinct qs atoms d.1)
  where
    by : (w : Bool) → IsDistinct (atoms_at qs atoms) → IsDistinct (elim w [ true ↦ x ∷ atoms_at qs atoms | false ↦ atoms_at qs atoms ])
    by true h = ((λ m. d.0 (at_member qs x atoms m).0), h)
    by false h = h

-- ---- counting them one after the other
head_at : (qs : List Triple) (x : Atom) (xs : List Atom) → IsMember x.position qs → length (atoms_at qs (x ∷ xs)) ≡ length (atoms_at qs xs) + 1
head_at qs x xs m = by (is_one_of qs x.position) (member_one_of qs x.position m)
  where
    by : (w : Bool) → w ≡ true → length {A = Atom} (elim w [ true ↦ x ∷ atoms_at qs xs | false ↦ atoms_at qs xs ]) ≡ length (atoms_at qs xs) + 1
    by true h = omega arith
    by false h = absurd (cc h)

head_elsewhere : (qs : List Triple) (x : Atom) (xs : List Atom) → (IsMember x.position qs → ⊥) → length (atoms_at qs (x ∷ xs)) ≡ length (atoms_at qs xs)
head_elsewhere qs x xs other = by (is_one_of qs x.position) (λ h. other (one_of_member qs x.position h))
  where
    by : (w : Bool) → (w ≡ true → ⊥) → length {A = Atom} (elim w [ true ↦ x ∷ atoms_at qs xs | false ↦ atoms_at qs xs ]) ≡ length (atoms_at qs xs)
    by true h = absurd (h refl)
    by false h = refl

-- the next atom is at one of the positions: one less is left
pub counted_one : (qs : List Triple) (atoms : List Atom) (i old new all : ℕ) (x : Atom) → slice_get atoms i ≡ Some x → IsMember x.position qs → new ≡ old + 1 →
    old + length (atoms_at qs (drop i atoms)) ≡ all → new + length (atoms_at qs (drop (i + 1) atoms)) ≡ all
counted_one qs atoms i old new all x at m step h =
    let e : length (atoms_at qs (drop i atoms)) ≡ length (atoms_at qs (drop (i + 1) atoms)) + 1 = ap (λ (ys : List Atom). length (atoms_at qs ys)) (drop_at atoms i x at) ∙ head_at qs x (drop (i + 1) atoms) m in
    omega (arith, e, step, h)

-- it is at another: as many are left
pub counted_none : (qs : List Triple) (atoms : List Atom) (i old new all : ℕ) (x : Atom) → slice_get atoms i ≡ Some x → (IsMember x.position qs → ⊥) → new ≡ old →
    old + length (atoms_at qs (drop i atoms)) ≡ all → new + length (atoms_at qs (drop (i + 1) atoms)) ≡ all
counted_none qs atoms i old new all x at other step h =
    let e : length (atoms_at qs (drop i atoms)) ≡ length (atoms_at qs (drop (i + 1) atoms)) = ap (λ (ys : List Atom). length (atoms_at qs ys)) (drop_at atoms i x at) ∙ head_elsewhere qs x (drop (i + 1) atoms) other in
    omega (arith, e, step, h)

-- ---- orbits
-- the atoms at the images of p are its orbit
pub counts_orbit : (c : Structure) (os : List Operation) (p : Triple) (k : ℕ) → pos 0 <ℤ pos c.n → IsDistinct c.atoms → ((a : Atom) → IsMember a c.atoms → IsWithinCell c.n a.position) →
    k ≡ length (atoms_at (map (image_within c.n (modulo c.n p)) os) c.atoms) → CountsOrbit c os p k
counts_orbit c os p k some once within is = record {
  atoms = atoms_at qs c.atoms;
  once = at_distinct qs c.atoms once;
  exact = λ a. (
    (λ m. let h = at_member qs a c.atoms m in (h.0, alike_of_image c.n some os p a.position (subst (λ (v : Triple). IsMember v qs) (sym (itself a h.0)) h.1))),
    (λ h. member_at_one qs a c.atoms h.0 (subst (λ (v : Triple). IsMember v qs) (itself a h.0) (image_of_alike c.n some os p a.position h.1))),
  );
  is = is;
}
  where
    qs : List Triple
    qs = map (image_within c.n (modulo c.n p)) os

    itself : (a : Atom) → IsMember a c.atoms → modulo c.n a.position ≡ a.position
    itself a m = residue_itself c.n a.position some (within a m)

-- ---- the first of them
record AtNumber (atoms : List Atom) (i : ℕ) : Type 0 where
  atom : Atom
  is : slice_get atoms i ≡ Some atom

at_number : (atoms : List Atom) (i : ℕ) → i < length atoms → AtNumber atoms i
at_number [] i h = absurd (omega arith)
at_number (x ∷ atoms) zero h = record { atom = x; is = refl }
at_number (x ∷ atoms) (suc i) h = let r = at_number atoms i (omega arith) in record { atom = r.atom; is = r.is }

not_less : (i j : ℕ) → (j < i → ⊥) → i ≤ j
not_less i j h = grind arith

-- the first atom at an image of atom number i is the first that is alike
pub first_alike : (c : Structure) (r : Matrix) (os : List Operation) (a : Atom) (i first : ℕ) → pos 0 <ℤ pos c.n → i < length c.atoms → slice_get c.atoms i ≡ Some a → IsAlike c.n os (image r a.position) (image r a.position) →
    IsFirstAmong c.n r (map (image_within c.n (modulo c.n (image r a.position))) os) c.atoms i first → IsFirstAlike c r os (image r a.position) first
first_alike c r os a i first some below at itself h =
    let x = at_number c.atoms first (omega (arith, h.at_most, below)) in
    record { atom = x.atom; is_atom = x.is; alike = by x (h.found x.atom x.is); least = λ j b is alike. not_less first j (λ l. h.none_before j b l is (image_of_alike c.n some os p (image r b.position) alike)) }
  where
    p : Triple
    p = image r a.position

    by : (x : AtNumber c.atoms first) → (first ≡ i) ⊎ IsMember (position_in c.n r x.atom) (map (image_within c.n (modulo c.n p)) os) → IsAlike c.n os p (image r x.atom.position)
    by x (inl e) = subst (λ (s : Atom). IsAlike c.n os p (image r s.position)) (same_Some a x.atom (sym at ∙ ap (slice_get c.atoms) (sym e) ∙ x.is)) itself
    by x (inr m) = alike_of_image c.n some os p (image r x.atom.position) m

-- where the next atom is at none of the positions either
pub none_more : (n : ℕ) (r : Matrix) (qs : List Triple) (atoms : List Atom) (j : ℕ) (x : Atom) → slice_get atoms j ≡ Some x → (IsMember (position_in n r x) qs → ⊥) →
    ((k : ℕ) (a : Atom) → k < j → slice_get atoms k ≡ Some a → IsMember (position_in n r a) qs → ⊥) → (k : ℕ) (a : Atom) → k < j + 1 → slice_get atoms k ≡ Some a → IsMember (position_in n r a) qs → ⊥
none_more n r qs atoms j x at other before k a l is m = by (below_or k j l)
  where
    by : (k < j) ⊎ (k ≡ j) → ⊥
    by (inl h) = before k a h is m
    by (inr e) = other (subst (λ (b : Atom). IsMember (position_in n r b) qs) (same_Some a x (sym is ∙ ap (slice_get atoms) e ∙ at)) m)
