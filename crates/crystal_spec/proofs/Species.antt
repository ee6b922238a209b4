-- Atoms of a species are counted one at a time, and a rarest species is found so.
use Rattle.std.proofs.Common.{◌≡◌, refl, sym, ap, subst, ◌∙◌, ◌⊎◌, inl, inr, ℕ, ◌+◌, ◌<◌, ◌≤◌, Bool, true, false, eqb, List, ◌∷◌, length, drop, arith}
use Rattle.std.specs.Prelude.{slice_get, Some}
use Rattle.std.proofs.lemmas.Bool.Decides.{Decides-eqb}
use Rattle.std.proofs.lemmas.List.{drop_all}
use Rattle.lists.specs.Increasing.{IsMember}
use Rattle.lists.proofs.Walks.{drop_at}
use Rattle.crystal_spec.specs.Crystals.{Atom, Structure}
use Rattle.crystal_spec.specs.Species.{of_species, IsRarest}

-- ---- atoms of a species
head_of_species : (s : ℕ) (x : Atom) (xs : List Atom) → x.species ≡ s → length (of_species s (x ∷ xs)) ≡ length (of_species s xs) + 1
head_of_species s x xs e = by (eqb x.species s) ((Decides-eqb x.species s).1 e)
  where
    by : (w : Bool) → w ≡ true → length {A = Atom} (elim w [ true ↦ x ∷ of_species s xs | false ↦ of_species s xs ]) ≡ length (of_species s xs) + 1
    by true h = omega arith
    by false h = absurd (cc h)

head_of_another : (s : ℕ) (x : Atom) (xs : List Atom) → (x.species ≡ s → ⊥) → length (of_species s (x ∷ xs)) ≡ length (of_species s xs)
head_of_another s x xs other = by (eqb x.species s) (λ h. other ((Decides-eqb x.species s).0 h))
  where
    by : (w : Bool) → (w ≡ true → ⊥) → length {A = Atom} (elim w [ true ↦ x ∷ of_species s xs | false ↦ of_species s xs ]) ≡ length (of_species s xs)
    by true h = absurd (h refl)
    by false h = refl

-- the next atom is of the species: one less is left
pub of_species_at : (s : ℕ) (xs : List Atom) (i : ℕ) (x : Atom) → slice_get xs i ≡ Some x → x.species ≡ s → length (of_species s (drop i xs)) ≡ length (of_species s (drop (i + 1) xs)) + 1
of_species_at s xs i x is e = ap (λ (ys : List Atom). length (of_species s ys)) (drop_at xs i x is) ∙ head_of_species s x (drop (i + 1) xs) e

-- it is of another species: as many are left
pub of_another_at : (s : ℕ) (xs : List Atom) (i : ℕ) (x : Atom) → slice_get xs i ≡ Some x → (x.species ≡ s → ⊥) → length (of_species s (drop i xs)) ≡ length (of_species s (drop (i + 1) xs))
of_another_at s xs i x is other = ap (λ (ys : List Atom). length (of_species s ys)) (drop_at xs i x is) ∙ head_of_another s x (drop (i + 1) xs) other

-- one is counted, and one less is left
pub counted_one : (old new left rest all : ℕ) → new ≡ old + 1 → left ≡ rest + 1 → old + left ≡ all → new + rest ≡ all
counted_one old new left rest all e f h = omega (arith, e, f, h)

-- none is counted, and as many are left
pub counted_none : (old new left rest all : ℕ) → new ≡ old → left ≡ rest → old + left ≡ all → new + rest ≡ all
counted_none old new left rest all e f h = omega (arith, e, f, h)

-- ---- a rarest species
-- of the atoms before number k, this one's species has the fewest atoms
pub record IsLeastSoFar (c : Structure) (k least : ℕ) (atom : Atom) : Type 0 where
  pub of_cell : IsMember atom c.atoms
  pub is : least ≡ length (of_species atom.species c.atoms)
  pub seen : (a : Atom) → IsMember a c.atoms → IsMember a (drop k c.atoms) ⊎ (least ≤ length (of_species a.species c.atoms))

at_most_itself : (m n : ℕ) → m ≡ n → m ≤ n
at_most_itself m n e = omega (arith, e)

-- the first atom
pub least_first : (c : Structure) (least : ℕ) (atom : Atom) → slice_get c.atoms 0 ≡ Some atom → IsMember atom c.atoms → least ≡ length (of_species atom.species c.atoms) → IsLeastSoFar c 1 least atom
least_first c least atom first of_cell is = record { of_cell = of_cell; is = is; seen = λ a m. by a (subst (IsMember a) (drop_at c.atoms 0 atom first) m) }
  where
    by : (a : Atom) → (a ≡ atom) ⊎ IsMember a (drop 1 c.atoms) → IsMember a (drop 1 c.atoms) ⊎ (least ≤ length (of_species a.species c.atoms))
    by a (inl e) = inr (at_most_itself least (length (of_species a.species c.atoms)) (is ∙ ap (λ (x : Atom). length (of_species x.species c.atoms)) (sym e)))
    by a (inr m) = inl m

-- one more atom, of which only that is left to be said
seen_more : (c : Structure) (k least more : ℕ) (atom x : Atom) → IsLeastSoFar c k least atom → slice_get c.atoms k ≡ Some x → more ≤ least → more ≤ length (of_species x.species c.atoms) →
    (a : Atom) → IsMember a c.atoms → IsMember a (drop (k + 1) c.atoms) ⊎ (more ≤ length (of_species a.species c.atoms))
seen_more c k least more atom x h at less here a m = by (h.seen a m)
  where
    later : (a ≡ x) ⊎ IsMember a (drop (k + 1) c.atoms) → IsMember a (drop (k + 1) c.atoms) ⊎ (more ≤ length (of_species a.species c.atoms))
    later (inl e) = inr (subst (λ (y : Atom). more ≤ length (of_species y.species c.atoms)) (sym e) here)
    later (inr n) = inl n

    by : IsMember a (drop k c.atoms) ⊎ (least ≤ length (of_species a.species c.atoms)) → IsMember a (drop (k + 1) c.atoms) ⊎ (more ≤ length (of_species a.species c.atoms))
    by (inl n) = later (subst (IsMember a) (drop_at c.atoms k x at) n)
    by (inr p) = inr (omega (arith, less, p))

-- the next atom's species has fewer
pub least_new : (c : Structure) (k least count : ℕ) (atom x : Atom) → IsLeastSoFar c k least atom → slice_get c.atoms k ≡ Some x → IsMember x c.atoms → count ≡ length (of_species x.species c.atoms) → count < least → IsLeastSoFar c (k + 1) count x
least_new c k least count atom x h at of_cell is fewer = record {
  of_cell = of_cell;
  is = is;
  seen = seen_more c k least count atom x h at (omega (arith, fewer)) (at_most_itself count (length (of_species x.species c.atoms)) is);
}

-- it has not
pub least_kept : (c : Structure) (k least count : ℕ) (atom x : Atom) → IsLeastSoFar c k least atom → slice_get c.atoms k ≡ Some x → count ≡ length (of_species x.species c.atoms) → least ≤ count → IsLeastSoFar c (k + 1) least atom
least_kept c k least count atom x h at is more = record {
  of_cell = h.of_cell;
  is = h.is;
  seen = seen_more c k least least atom x h at (at_most_itself least least refl) (subst (λ (n : ℕ). least ≤ n) is more);
}

-- all atoms are seen
pub least_all : (c : Structure) (k least : ℕ) (atom : Atom) → IsLeastSoFar c k least atom → length c.atoms ≤ k → IsRarest c (length (of_species atom.species c.atoms))
least_all c k least atom h ended = record { least = λ a m. by a (h.seen a m); atom = atom; of_cell = h.of_cell; is = refl }
  where
    by : (a : Atom) → IsMember a (drop k c.atoms) ⊎ (least ≤ length (of_species a.species c.atoms)) → length (of_species atom.species c.atoms) ≤ length (of_species a.species c.atoms)
    by a (inl m) = absurd (subst (IsMember a) (drop_all k c.atoms ended) m)
    by a (inr p) = subst (λ (n : ℕ). n ≤ length (of_species a.species c.atoms)) h.is p

at_most_both : (m n : ℕ) → m ≤ n → n ≤ m → m ≡ n
at_most_both m n h k = omega (arith, h, k)

-- two counts of a rarest species are one
pub rarest_once : (c : Structure) (m n : ℕ) → IsRarest c m → IsRarest c n → m ≡ n
rarest_once c m n h k = at_most_both m n
    (subst (λ (j : ℕ). m ≤ j) (sym k.is) (h.least k.atom k.of_cell))
    (subst (λ (j : ℕ). n ≤ j) (sym h.is) (k.least h.atom h.of_cell))
