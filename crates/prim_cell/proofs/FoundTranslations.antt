-- What the search has found, atom by atom.
--
-- A pure translation carries the first atom of a rarest species, as any atom, onto an atom of its species, so it is the
-- difference of these two positions modulo n.
use Rattle.std.proofs.Common.{◌≡◌, sym, ap, subst, ◌∙◌, ◌⊎◌, inl, inr, ℕ, List, length}
use Rattle.std.specs.Prelude.{◌↔◌, slice_get, Some}
use Rattle.lists.specs.Increasing.{IsIncreasing, IsMember, inserted}
use Rattle.lists.proofs.Increasing.{IsMember-inserted}
use Rattle.lists.proofs.Members.{member_at, same_at, place_of_member}
use Rattle.crystal_spec.specs.Matrices.{Triple, difference}
use Rattle.crystal_spec.specs.Crystals.{Atom, Structure}
use Rattle.crystal_spec.specs.Operations.{Operation, IsWithinCell, IsSymmetryOperation, compare_of}
use Rattle.crystal_spec.proofs.Ordered.{compare_exact}
use Rattle.crystal.specs.Cells.{IsCellWithinLimits}
use Rattle.positions.specs.Positions.{modulo}
use Rattle.basis_spec.specs.Translations.{IsTranslation, pure_translation, ListsPureTranslations}
use Rattle.positions.proofs.Residues.{modulo_within}
use Rattle.basis_spec.proofs.Candidates.{pure_reaches}
use Rattle.prim_cell.specs.Candidates.{IsOnto, IsFromAtoms}
use Rattle.prim_cell.proofs.Moving.{some_cells}

module _ (c : Structure) (a b : ℕ) (from onto : Atom) (is_from : slice_get c.atoms a ≡ Some from) (is_onto : slice_get c.atoms b ≡ Some onto) where
  -- the difference of the two positions
  step : Triple
  step = modulo c.n (difference onto.position from.position)

  -- the only candidate is the translation by that difference
  alone : (o : Operation) → IsOnto c a b o → o ≡ pure_translation step
  unfolding step
  alone o k =
      let f = same_at c.atoms a k.from from k.is_from is_from in
      let g = same_at c.atoms b k.onto onto k.is_onto is_onto in
      k.is ∙ (λ i. pure_translation (modulo c.n (difference (g i).position (f i).position)))

  alike : (o : Operation) → IsOnto c a b o → onto.species ≡ from.species
  alike o k =
      let f = same_at c.atoms a k.from from k.is_from is_from in
      let g = same_at c.atoms b k.onto onto k.is_onto is_onto in
      ap (λ (s : Atom). s.species) (sym g) ∙ k.same_species ∙ ap (λ (s : Atom). s.species) f

  -- the two atoms are of one species, and the translation keeps the crystal: it is put in
  pub onto_kept : (op : Operation) (old new : List Operation) → onto.species ≡ from.species → op ≡ pure_translation (modulo c.n (difference onto.position from.position)) → IsTranslation c op.translation → new ≡ inserted compare_of op old →
      (o : Operation) → IsMember o new ↔ (IsOnto c a b o ⊎ IsMember o old)
  unfolding step
  onto_kept op old new species e keeps is o = subst (λ (l : List Operation). IsMember o l ↔ (IsOnto c a b o ⊎ IsMember o old)) (sym is)
      ((λ m. into (member.0 m)), (λ h. member.1 (back h)))
    where
      member : IsMember o (inserted compare_of op old) ↔ ((o ≡ op) ⊎ IsMember o old)
      member = IsMember-inserted compare_exact op old o

      into : (o ≡ op) ⊎ IsMember o old → IsOnto c a b o ⊎ IsMember o old
      into (inl p) = inl (record {
        from = from;
        is_from = is_from;
        onto = onto;
        is_onto = is_onto;
        same_species = species;
        is = p ∙ e;
        keeps = subst (λ (q : Operation). IsTranslation c q.translation) (sym p) keeps;
      })
      into (inr m) = inr m

      back : IsOnto c a b o ⊎ IsMember o old → (o ≡ op) ⊎ IsMember o old
      back (inl k) = inl (alone o k ∙ sym e)
      back (inr m) = inr m

  -- it does not keep the crystal
  pub onto_not_kept : (D : Type 0) (t : Triple) → t ≡ modulo c.n (difference onto.position from.position) → (IsTranslation c t → ⊥) → (o : Operation) → D ↔ (IsOnto c a b o ⊎ D)
  unfolding step
  onto_not_kept D t e never o = ((λ d. inr d), back)
    where
      back : IsOnto c a b o ⊎ D → D
      back (inl k) = absurd (never (subst (IsTranslation c) (ap (λ (q : Operation). q.translation) (alone o k) ∙ sym e) k.keeps))
      back (inr d) = d

  -- the two atoms are of two species
  pub onto_none : (D : Type 0) → (onto.species ≡ from.species → ⊥) → (o : Operation) → D ↔ (IsOnto c a b o ⊎ D)
  onto_none D other o = ((λ d. inr d), back)
    where
      back : IsOnto c a b o ⊎ D → D
      back (inl k) = absurd (other (alike o k))
      back (inr d) = d

-- all atoms are seen: exactly the pure translations
pub found_all : (c : Structure) (a : ℕ) (from : Atom) (os : List Operation) → IsCellWithinLimits c → slice_get c.atoms a ≡ Some from → IsIncreasing compare_of os → ((o : Operation) → IsMember o os ↔ IsFromAtoms c a (length c.atoms) o) → ListsPureTranslations c os
found_all c a from os cell is_from increasing found = record {
  increasing = increasing;
  exact = λ o. ((λ m. let f = (found o).0 m in forth o f.number f.holds), (λ h. (found o).1 (back o h.0 h.1)));
}
  where
    forth : (o : Operation) (k : ℕ) → IsOnto c a k o → (o ≡ pure_translation o.translation) × IsSymmetryOperation c o
    forth o k h =
        let t = modulo c.n (difference h.onto.position h.from.position) in
        let is : o.translation ≡ t = ap (λ (q : Operation). q.translation) h.is in
        let pure : o ≡ pure_translation o.translation = h.is ∙ ap pure_translation (sym is) in
        (pure, subst (IsSymmetryOperation c) (sym pure) (record { translation = subst (IsWithinCell c.n) (sym is) (modulo_within c.n (difference h.onto.position h.from.position) (some_cells c cell)); keeps = h.keeps }))

    back : (o : Operation) → o ≡ pure_translation o.translation → IsSymmetryOperation c o → IsFromAtoms c a (length c.atoms) o
    back o e h =
        let keeps = (subst (IsSymmetryOperation c) e h).keeps in
        let r = pure_reaches c o.translation from (some_cells c cell) (record { translation = h.translation; keeps = keeps }) (member_at c.atoms a from is_from) in
        let n = place_of_member c.atoms r.0 r.1.0 in
        record {
          number = n.number;
          below = n.below;
          holds = record {
            from = from;
            is_from = is_from;
            onto = r.0;
            is_onto = n.at;
            same_species = r.1.1.0;
            is = e ∙ ap pure_translation r.1.1.1;
            keeps = keeps;
          };
        }
