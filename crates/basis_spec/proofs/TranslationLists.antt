-- The list of the pure translations of a crystal.
--
-- A strictly increasing list has no repeats, so the list of pure translations, as triples, has each once. It is closed
-- under sums modulo n, and the lattice that it stands for is that of all translations.
use Rattle.std.proofs.Common.{ℕ, pos, ◌<ℤ◌, ◌≤◌, List, map, length, refl, sym, ap, subst, ◌∙◌}
use Rattle.std.specs.Prelude.{◌↔◌}
use Rattle.std.proofs.lemmas.List.{length-map}
use Rattle.lists.specs.Increasing.{IsMember, IsDistinct}
use Rattle.lists.proofs.Members.{mapped_from, mapped_member}
use Rattle.lists.proofs.Distinct.{IsDistinct-mapped}
use Rattle.lists.proofs.Increasing.{increasing_distinct}
use Rattle.crystal_spec.specs.Matrices.{Triple, multiple, sum_of}
use Rattle.crystal_spec.specs.Crystals.{Structure}
use Rattle.crystal_spec.specs.Operations.{Operation, compare_of, IsWithinCell, IsSymmetryOperation}
use Rattle.crystal_spec.proofs.Ordered.{compare_total}
use Rattle.positions.specs.Positions.{origin, modulo}
use Rattle.basis_spec.specs.Translations.{IsTranslation, IsPureTranslation, pure_translation, ListsPureTranslations}
use Rattle.crystal_spec.specs.Species.{IsRarest}
use Rattle.basis_spec.specs.StepBases.{InLattice, IsClosed}
use Rattle.positions.proofs.Residues.{modulo_away, modulo_within}
use Rattle.basis_spec.proofs.OperationBases.{cells_translation}
use Rattle.basis_spec.proofs.PrimitiveCell.{translation_sum, residue_translation}
use Rattle.basis_spec.proofs.PureTranslations.{pure_zero, pure_sum, rarest_translations}

-- the translation parts of a list of operations
abbrev pub translations_of : List Operation → List Triple
translations_of os = map (λ o. o.translation) os

module _ (c : Structure) (os : List Operation) (a : ListsPureTranslations c os) where
  -- what a member of the list is
  pub pure_of_member : (o : Operation) → IsMember o os → IsPureTranslation c o.translation
  pure_of_member o m =
      let h = (a.exact o).0 m in
      record { translation = h.1.translation; keeps = (subst (IsSymmetryOperation c) h.0 h.1).keeps }

  -- and that each pure translation is a member
  pub member_of_pure : (t : Triple) → IsPureTranslation c t → IsMember (pure_translation t) os
  member_of_pure t h = (a.exact (pure_translation t)).1 (refl, record { translation = h.translation; keeps = h.keeps })

  -- the list as triples has none twice
  pub translations_once : IsDistinct (translations_of os)
  translations_once = IsDistinct-mapped (λ o. o.translation) os (increasing_distinct compare_of compare_total os a.increasing)
      (λ o p m k e. ((a.exact o).0 m).0 ∙ ap pure_translation e ∙ sym ((a.exact p).0 k).0)

  -- and exactly the pure translations
  pub translations_exact : (t : Triple) → IsMember t (translations_of os) ↔ (IsWithinCell c.n t × IsTranslation c t)
  translations_exact t = (
    (λ m. let f = mapped_from (λ (o : Operation). o.translation) t os m in
        let h = pure_of_member f.item f.of_list in
        (subst (IsWithinCell c.n) (sym f.is) h.translation, subst (IsTranslation c) (sym f.is) h.keeps)),
    (λ h. mapped_member (λ (o : Operation). o.translation) (pure_translation t) os (member_of_pure t (record { translation = h.0; keeps = h.1 }))),
  )

  -- the list has no more members than any species has atoms
  pub at_most_rarest : (count : ℕ) → pos 0 <ℤ pos c.n → IsRarest c count → length os ≤ count
  at_most_rarest count some r = subst (λ (k : ℕ). k ≤ count) (length-map os (λ o. o.translation))
      (rarest_translations c count some r (translations_of os) translations_once
      (λ t m. let h = (translations_exact t).0 m in record { translation = h.0; keeps = h.1 }))

  -- the list is closed under sums modulo n
  pub pure_closed : pos 0 <ℤ pos c.n → IsClosed c.n os
  pure_closed some = record {
    zero_in = member_of_pure origin (pure_zero c some);
    sums = λ t u m k. member_of_pure (modulo c.n (sum_of t u)) (pure_sum c t u some (pure_of_member (pure_translation t) m) (pure_of_member (pure_translation u) k));
  }

  -- the lattice of the list is that of all translations
  pub lattice_is : pos 0 <ℤ pos c.n → (t : Triple) → InLattice c.n os t ↔ IsTranslation c t
  unfolding InLattice
  lattice_is some t = (
    (λ h. let d = modulo_away c.n t some in
        subst (IsTranslation c) (sym d.is) (translation_sum c (modulo c.n t) (multiple (pos c.n) d.cells) (pure_of_member (pure_translation (modulo c.n t)) h).keeps (cells_translation c d.cells))),
    (λ h. member_of_pure (modulo c.n t) (record { translation = modulo_within c.n t some; keeps = residue_translation c t some h })),
  )
