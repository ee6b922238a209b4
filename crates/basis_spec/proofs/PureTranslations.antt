-- The pure translations of a crystal: sums modulo n are pure translations, and there are at most as many as any species
-- has atoms, since different ones bring an atom to different atoms of its species.
use Rattle.std.proofs.Common.{◌≡◌, ℕ, ◌≤◌, suc, zero, Bool, true, false, ℤ, pos, negsuc, ◌+ℤ◌, ◌*ℤ◌, ◌≤ℤ◌, ◌<ℤ◌, List, [], ◌∷◌, map, length, eqb, refl, sym, ap, subst, ◌∙◌, inl, inr, arith}
use Rattle.std.proofs.lemmas.Bool.Decides.{Decides-eqb}
use Rattle.std.proofs.lemmas.List.{length-map}
use Rattle.std.proofs.lemmas.Int.{ints}
use Rattle.lists.specs.Increasing.{IsMember, IsDistinct}
use Rattle.lists.proofs.Members.{mapped_from, mapped_member}
use Rattle.lists.proofs.Distinct.{IsDistinct-mapped}
use Rattle.lists.proofs.Counting.{length_le}
use Rattle.crystal_spec.specs.Matrices.{Triple, multiple, sum_of}
use Rattle.positions.specs.Positions.{origin, modulo}
use Rattle.crystal_spec.specs.Crystals.{Atom, Structure}
use Rattle.basis_spec.specs.Translations.{IsTranslation, IsPureTranslation}
use Rattle.crystal_spec.specs.Species.{of_species, IsRarest}
use Rattle.crystal_spec.specs.Operations.{IsWithinCell}
use Rattle.crystal_spec.specs.Cells.{DiffersByCells}
use Rattle.crystal_spec.proofs.Entrywise.{triple_same}
use Rattle.basis_spec.proofs.MatrixLaws.{sum_comm, sum_assoc, multiple-origin}
use Rattle.basis_spec.proofs.Cancelling.{sum_cancel}
use Rattle.basis_spec.proofs.Translations.{atom_away, moves}
use Rattle.positions.proofs.Residues.{modulo_away, modulo_within}
use Rattle.basis_spec.proofs.OperationBases.{cells_translation}
use Rattle.basis_spec.proofs.PrimitiveCell.{differs_sym, differs_trans, differs_at, translation_sum, residue_translation}
use Rattle.crystal_spec.proofs.Images.{occupied_itself}

-- two numbers from 0 to n - 1 that differ by a multiple of n are one
pub same_number : (n : ℕ) (a c d : ℤ) → (pos 0 ≤ℤ a) × (a <ℤ pos n) → (pos 0 ≤ℤ c) × (c <ℤ pos n) → a ≡ c +ℤ pos n *ℤ d → a ≡ c
same_number n a c (pos zero) h k e = omega (arith, ints)
same_number n a c (pos (suc d)) h k e = absurd (omega (arith, ints))
same_number zero a c (negsuc d) h k e = absurd (omega (arith, ints))
same_number (suc n) a c (negsuc d) h k e = absurd (omega (arith, ints))

-- two translations within one cell that differ by whole cells are one
pub translations_same : (n : ℕ) (t u : Triple) → IsWithinCell n t → IsWithinCell n u → DiffersByCells n t u → t ≡ u
translations_same n t u h k d = triple_same (same_number n t.x u.x d.cells.x h.x k.x (ap (λ (v : Triple). v.x) d.is)) (same_number n t.y u.y d.cells.y h.y k.y (ap (λ (v : Triple). v.y) d.is)) (same_number n t.z u.z d.cells.z h.z k.z (ap (λ (v : Triple). v.z) d.is))

-- what differs by whole cells is the same modulo n
pub residues_same : (n : ℕ) (p q : Triple) → pos 0 <ℤ pos n → DiffersByCells n p q → modulo n p ≡ modulo n q
residues_same n p q h d = translations_same n (modulo n p) (modulo n q) (modulo_within n p h) (modulo_within n q h)
    (differs_trans (differs_sym (modulo_away n p h)) (differs_trans d (modulo_away n q h)))

zero_within : (n : ℕ) → pos 0 <ℤ pos n → (pos 0 ≤ℤ pos 0) × (pos 0 <ℤ pos n)
zero_within n h = (omega (arith, ints), h)

-- (0, 0, 0) is a pure translation
pub pure_zero : (c : Structure) → pos 0 <ℤ pos c.n → IsPureTranslation c origin
pure_zero c h = record { translation = record { x = zero_within c.n h; y = zero_within c.n h; z = zero_within c.n h }; keeps = subst (IsTranslation c) (multiple-origin (pos c.n)) (cells_translation c origin) }

-- the sum of two pure translations, modulo n, is one
pub pure_sum : (c : Structure) (t u : Triple) → pos 0 <ℤ pos c.n → IsPureTranslation c t → IsPureTranslation c u → IsPureTranslation c (modulo c.n (sum_of t u))
pure_sum c t u h p q = record { translation = modulo_within c.n (sum_of t u) h; keeps = residue_translation c (sum_of t u) h (translation_sum c t u p.keeps q.keeps) }

of_species_member : (s : ℕ) (a : Atom) (atoms : List Atom) → IsMember a atoms → a.species ≡ s → IsMember a (of_species s atoms)
of_species_member s a [] m e = m
of_species_member s a (b ∷ atoms) (inl f) e = by (eqb b.species s) refl
  where
    by : (w : Bool) → eqb b.species s ≡ w → IsMember a (elim w [ true ↦ b ∷ of_species s atoms | false ↦ of_species s atoms ])
    by true g = inl f
    by false g = absurd (cc (sym g ∙ (Decides-eqb b.species s).1 (ap (λ (x : Atom). x.species) (sym f) ∙ e)))
of_species_member s a (b ∷ atoms) (inr m) e = by (eqb b.species s) (of_species_member s a atoms m e)
  where
    by : (w : Bool) → IsMember a (of_species s atoms) → IsMember a (elim w [ true ↦ b ∷ of_species s atoms | false ↦ of_species s atoms ])
    by true h = inr h
    by false h = h

module _ (c : Structure) (some : pos 0 <ℤ pos c.n) (a : Atom) (of_cell : IsMember a c.atoms) where
  carried : Triple → Triple
  carried t = modulo c.n (sum_of a.position t)

  moved_apart : (t u : Triple) → DiffersByCells c.n (sum_of a.position t) (sum_of a.position u) → DiffersByCells c.n t u
  moved_apart t u d = record { cells = d.cells; is = sum_cancel t (sum_of u (multiple (pos c.n) d.cells)) a.position (sum_comm t a.position ∙ d.is ∙ sum_assoc a.position u (multiple (pos c.n) d.cells) ∙ sum_comm a.position (sum_of u (multiple (pos c.n) d.cells))) }

  carried_apart : (t u : Triple) → IsWithinCell c.n t → IsWithinCell c.n u → carried t ≡ carried u → t ≡ u
  unfolding carried
  carried_apart t u h k e = translations_same c.n t u h k (moved_apart t u (differs_trans (modulo_away c.n (sum_of a.position t) some) (differs_at (sym e) refl (differs_sym (modulo_away c.n (sum_of a.position u) some)))))

  carried_there : (t : Triple) → IsPureTranslation c t → IsMember (carried t) (map (λ (b : Atom). modulo c.n b.position) (of_species a.species c.atoms))
  unfolding carried
  carried_there t h =
      let o = moves c t h.keeps a.species a.position a.moment (occupied_itself c a of_cell) in
      subst (λ (v : Triple). IsMember v (map (λ (b : Atom). modulo c.n b.position) (of_species a.species c.atoms))) (sym (residues_same c.n (sum_of a.position t) o.atom.position some (atom_away o)))
      (mapped_member (λ (b : Atom). modulo c.n b.position) o.atom (of_species a.species c.atoms) (of_species_member a.species o.atom c.atoms o.of_cell o.same_species))

  -- no more pure translations than atoms of any species
  pub few_translations : (ws : List Triple) → IsDistinct ws → ((t : Triple) → IsMember t ws → IsPureTranslation c t) → length ws ≤ length (of_species a.species c.atoms)
  few_translations ws once pure =
      let fit : length (map carried ws) ≤ length (map (λ (b : Atom). modulo c.n b.position) (of_species a.species c.atoms)) =
      length_le (map carried ws) (map (λ (b : Atom). modulo c.n b.position) (of_species a.species c.atoms))
      (IsDistinct-mapped carried ws once (λ t u m k e. carried_apart t u (pure t m).translation (pure u k).translation e))
      there in
      let m = length-map ws carried in
      let k = length-map (of_species a.species c.atoms) (λ (b : Atom). modulo c.n b.position) in
      omega arith
    where
      there : (z : Triple) → IsMember z (map carried ws) → IsMember z (map (λ (b : Atom). modulo c.n b.position) (of_species a.species c.atoms))
      there z m = let r = mapped_from carried z ws m in subst (λ (v : Triple). IsMember v (map (λ (b : Atom). modulo c.n b.position) (of_species a.species c.atoms))) (sym r.is) (carried_there r.item (pure r.item r.of_list))

-- so there are at most as many as the rarest species has atoms
pub rarest_translations : (c : Structure) (count : ℕ) → pos 0 <ℤ pos c.n → IsRarest c count → (ws : List Triple) → IsDistinct ws → ((t : Triple) → IsMember t ws → IsPureTranslation c t) → length ws ≤ count
rarest_translations c count some r ws once pure =
    let h = few_translations c some r.atom r.of_cell ws once pure in
    let e = r.is in
    omega arith
