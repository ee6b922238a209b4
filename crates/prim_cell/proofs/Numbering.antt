-- Species that are numbered by first use are so in the primitive cell.
--
-- Of atoms at one position in it the first is kept. They are images of atoms of one species, so an atom that is left out
-- comes behind one of its species, and no species is left out.
use Rattle.std.proofs.Common.{◌≡◌, ℕ, suc, ◌<◌, ◌≤◌, Bool, true, false, pos, ◌<ℤ◌, List, [], ◌∷◌, length, map, inl, inr, refl, sym, ap, subst, ◌∙◌, arith}
use Rattle.lists.specs.Increasing.{IsMember}
use Rattle.lists.proofs.Members.{mapped_from}
use Rattle.crystal_spec.specs.Matrices.{Triple, Matrix, image}
use Rattle.crystal_spec.specs.Crystals.{Atom, Structure}
use Rattle.crystal_spec.specs.Cells.{DiffersByCells}
use Rattle.crystal_spec.proofs.Images.{occupied_itself}
use Rattle.crystal.specs.Numbering.{AreByFirstUse}
use Rattle.positions.specs.Positions.{modulo}
use Rattle.basis_spec.specs.Bases.{SameCrystal, is_same_position, without_position, first_at_each_position, in_basis, cell_in_basis}
use Rattle.positions.proofs.Residues.{modulo_away}
use Rattle.basis_spec.proofs.Translations.{atom_away}
use Rattle.basis_spec.proofs.PrimitiveCell.{differs_sym, differs_trans, differs_at}
use Rattle.basis_spec.proofs.PrimitiveAtoms.{cell_in_basis_one_atom_each}
use Rattle.basis_spec.proofs.FirstAtoms.{same_position_decides, member_of_firsts}

-- no atom that is left out is the first of its species
without_numbered : (p : Triple) (m used total : ℕ) (atoms : List Atom) → m ≤ used → ((b : Atom) → IsMember b atoms → p ≡ b.position → b.species < m) → AreByFirstUse used total atoms → AreByFirstUse used total (without_position p atoms)
without_numbered p m used total [] h below e = e
without_numbered p m used total (b ∷ atoms) h below (inl k) = by (is_same_position p b.position) (without_numbered p m used total atoms h (λ x i. below x (inr i)) k.1)
  where
    by : (w : Bool) → AreByFirstUse used total (without_position p atoms) → AreByFirstUse used total (elim w [ true ↦ without_position p atoms | false ↦ b ∷ without_position p atoms ])
    by true rest = rest
    by false rest = inl (k.0, rest)
without_numbered p m used total (b ∷ atoms) h below (inr k) = by (is_same_position p b.position) refl (without_numbered p m (suc used) total atoms (omega (arith, h)) (λ x i. below x (inr i)) k.1)
  where
    by : (w : Bool) → is_same_position p b.position ≡ w → AreByFirstUse (suc used) total (without_position p atoms) → AreByFirstUse used total (elim w [ true ↦ without_position p atoms | false ↦ b ∷ without_position p atoms ])
    by true e rest =
        let small = below b (inl refl) ((same_position_decides p b.position).0 e) in
        absurd (omega (arith, small, h, k.0))
    by false e rest = inr (k.0, rest)

-- atoms at one position have one species
abbrev HaveOneSpecies : List Atom → Type 0
HaveOneSpecies atoms = (a b : Atom) → IsMember a atoms → IsMember b atoms → a.position ≡ b.position → a.species ≡ b.species

firsts_numbered : (used total : ℕ) (atoms : List Atom) → HaveOneSpecies atoms → AreByFirstUse used total atoms → AreByFirstUse used total (first_at_each_position atoms)
firsts_numbered used total [] one e = e
firsts_numbered used total (a ∷ atoms) one (inl k) = inl (k.0, without_numbered a.position used used total (first_at_each_position atoms) (omega arith) below (firsts_numbered used total atoms (λ x y i j. one x y (inr i) (inr j)) k.1))
  where
    below : (b : Atom) → IsMember b (first_at_each_position atoms) → a.position ≡ b.position → b.species < used
    below b i e = subst (λ (s : ℕ). s < used) (one a b (inl refl) (inr (member_of_firsts b atoms i)) e) k.0
firsts_numbered used total (a ∷ atoms) one (inr k) = inr (k.0, without_numbered a.position (suc used) (suc used) total (first_at_each_position atoms) (omega arith) below (firsts_numbered (suc used) total atoms (λ x y i j. one x y (inr i) (inr j)) k.1))
  where
    below : (b : Atom) → IsMember b (first_at_each_position atoms) → a.position ≡ b.position → b.species < suc used
    below b i e = let same = one a b (inl refl) (inr (member_of_firsts b atoms i)) e in omega (arith, same, k.0)

-- the same species in the same order
mapped_numbered : (f : Atom → Atom) → ((a : Atom) → (f a).species ≡ a.species) → (used total : ℕ) (atoms : List Atom) → AreByFirstUse used total atoms → AreByFirstUse used total (map f atoms)
mapped_numbered f same used total [] e = e
mapped_numbered f same used total (a ∷ atoms) (inl k) = inl (subst (λ (s : ℕ). s < used) (sym (same a)) k.0, mapped_numbered f same used total atoms k.1)
mapped_numbered f same used total (a ∷ atoms) (inr k) = inr (same a ∙ k.0, mapped_numbered f same (suc used) total atoms k.1)

module _ (c : Structure) (r : Matrix) (some : pos 0 <ℤ pos c.n) (crystal : SameCrystal c (cell_in_basis c r) r) where
  -- atoms that are brought to one position have one species
  alike : (a b : Atom) → IsMember a c.atoms → IsMember b c.atoms → modulo c.n (image r a.position) ≡ modulo c.n (image r b.position) → a.species ≡ b.species
  unfolding cell_in_basis
  alike a b i j e =
      let x = (crystal.crystal a.species a.position a.moment).0 (occupied_itself c a i) in
      let y = (crystal.crystal b.species b.position b.moment).0 (occupied_itself c b j) in
      let near = differs_trans (modulo_away c.n (image r a.position) some) (differs_at (sym e) refl (differs_sym (modulo_away c.n (image r b.position) some))) in
      let away : DiffersByCells c.n x.atom.position y.atom.position = differs_trans (differs_sym (atom_away x)) (differs_trans near (atom_away y)) in
      let same = cell_in_basis_one_atom_each c r some x.atom y.atom x.of_cell y.of_cell away in
      sym x.same_species ∙ ap (λ (s : Atom). s.species) same ∙ y.same_species

  one_species : HaveOneSpecies (map (in_basis c.n c.kind r) c.atoms)
  one_species a b i j e =
      let x = mapped_from (in_basis c.n c.kind r) a c.atoms i in
      let y = mapped_from (in_basis c.n c.kind r) b c.atoms j in
      ap (λ (s : Atom). s.species) x.is ∙ alike x.item y.item x.of_list y.of_list (sym (ap (λ (s : Atom). s.position) x.is) ∙ e ∙ ap (λ (s : Atom). s.position) y.is) ∙ sym (ap (λ (s : Atom). s.species) y.is)

  -- so the primitive cell keeps the numbering
  pub stays_numbered : (made : Structure) → made ≡ cell_in_basis c r → AreByFirstUse 0 (length c.names) c.atoms → AreByFirstUse 0 (length made.names) made.atoms
  unfolding cell_in_basis
  stays_numbered made is h =
      subst (λ (t : Structure). AreByFirstUse 0 (length t.names) t.atoms) (sym is)
      (firsts_numbered 0 (length c.names) (map (in_basis c.n c.kind r) c.atoms) one_species (mapped_numbered (in_basis c.n c.kind r) (λ a. refl) 0 (length c.names) c.atoms h))
