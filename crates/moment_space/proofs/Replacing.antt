-- Cells that are made of another, atom after atom, with other moments.
use Rattle.std.proofs.Common.{◌≡◌, refl, sym, ap, subst, ◌∙◌, ◌⊎◌, inl, inr, ℕ, zero, suc, ◌+◌, ◌<◌, [], ◌∷◌, ◌++◌, List, length, take, add-one, arith}
use Rattle.std.specs.Prelude.{ℤ, slice_get, Some}
use Rattle.lists.specs.Increasing.{IsMember}
use Rattle.lists.proofs.Walks.{take_at}
use Rattle.lists.proofs.Members.{member_at}
use Rattle.crystal_spec.specs.declared.MomentKind.{MomentKind}
use Rattle.crystal_spec.specs.Matrices.{Triple, Matrix}
use Rattle.crystal_spec.specs.Crystals.{Atom, Structure}
use Rattle.crystal_spec.specs.Operations.{Operation}
use Rattle.crystal_spec.specs.Cells.{DiffersByCells}
use Rattle.crystal.specs.Cells.{AreApart}
use Rattle.crystal.specs.Occupants.{NoneAt}
use Rattle.crystal.proofs.CellLemmas.{none_member}
use Rattle.basis_spec.proofs.PrimitiveCell.{differs_sym, differs_itself}
use Rattle.site_orbits.specs.Orbits.{IsAlike}
use Rattle.site_orbits.proofs.CarriedPositions.{carries_as, alike_as}
use Rattle.moment_space.specs.Replacements.{IsCarriedMoment, IsReplaced, ReplacesAt, AreReplaced, HasReplaced, started}

module _ (kind : MomentKind) (n : ℕ) (os : List Operation) (q m : Triple) where
  -- ---- while the cell is made
  -- before the last atom there are fewer than the cell has
  pub few_so_far : (atoms : List Atom) (i : ℕ) (bs : List Atom) → AreReplaced kind n os q m (take i atoms) bs → i < length atoms → length bs < length atoms
  few_so_far [] i bs h below = absurd (omega (arith, below))
  few_so_far (a ∷ atoms) zero [] h below = omega arith
  few_so_far (a ∷ atoms) zero (b ∷ bs) h below = absurd h
  few_so_far (a ∷ atoms) (suc i) [] h below = absurd h
  few_so_far (a ∷ atoms) (suc i) (b ∷ bs) h below = let r = few_so_far atoms i bs h.1 (omega (arith, below)) in omega (arith, r)

  -- none of the atoms so far is at the position of the next
  pub free_so_far : (atoms : List Atom) (i : ℕ) (a : Atom) (bs : List Atom) (p : Triple) → AreApart atoms → slice_get atoms i ≡ Some a → p ≡ a.position → AreReplaced kind n os q m (take i atoms) bs → NoneAt p bs
  free_so_far [] i a bs p apart at is h = absurd (cc at)
  free_so_far (x ∷ atoms) zero a [] p apart at is h = tt
  free_so_far (x ∷ atoms) zero a (b ∷ bs) p apart at is h = absurd h
  free_so_far (x ∷ atoms) (suc i) a [] p apart at is h = absurd h
  free_so_far (x ∷ atoms) (suc i) a (b ∷ bs) p apart at is h =
      ((λ e. none_member x.position atoms a apart.0 (member_at atoms i a at) (sym is ∙ sym e ∙ h.0.same_position)), free_so_far atoms i a bs p apart.1 at is h.1)

  -- one atom more
  more : (atoms : List Atom) (i : ℕ) (a b : Atom) (bs : List Atom) → slice_get atoms i ≡ Some a → IsReplaced kind n os q m a b → AreReplaced kind n os q m (take i atoms) bs → AreReplaced kind n os q m (take (suc i) atoms) (bs ++ b ∷ [])
  more [] i a b bs at r h = absurd (cc at)
  more (x ∷ atoms) zero a b [] at r h = let is : a ≡ x = cc at in (subst (λ (y : Atom). IsReplaced kind n os q m y b) is r, tt)
  more (x ∷ atoms) zero a b (y ∷ bs) at r h = absurd h
  more (x ∷ atoms) (suc i) a b [] at r h = absurd h
  more (x ∷ atoms) (suc i) a b (y ∷ bs) at r h = (h.0, more atoms i a b bs at r h.1)

  pub replaced_more : (atoms : List Atom) (i : ℕ) (b : Atom) {c f g : Structure} → ReplacesAt kind n os q m atoms i b → HasReplaced kind n os q m (take i atoms) c f → g ≡ record f { atoms = f.atoms ++ b ∷ [] } → HasReplaced kind n os q m (take (i + 1) atoms) c g
  replaced_more atoms i b {c} {f} {g} r h e = record {
    atoms = subst (λ (l : List Atom). AreReplaced kind n os q m (take (i + 1) atoms) l) (sym (ap (λ (s : Structure). s.atoms) e))
        (subst (λ (k : ℕ). AreReplaced kind n os q m (take k atoms) (f.atoms ++ b ∷ [])) (sym (add-one i)) (more atoms i r.atom b f.atoms r.is_atom r.replaced h.atoms));
    rest = e ∙ ap (λ (s : Structure). record s { atoms = f.atoms ++ b ∷ [] }) h.rest ∙ ap (λ (l : List Atom). record c { atoms = l }) (sym (ap (λ (s : Structure). s.atoms) e));
  }

  -- the first atom alone
  pub first_replaced : (atoms : List Atom) (b : Atom) → ReplacesAt kind n os q m atoms 0 b → AreReplaced kind n os q m (take 1 atoms) (b ∷ [])
  first_replaced atoms b r = more atoms 0 r.atom b [] r.is_atom r.replaced (none_taken atoms)
    where
      none_taken : (atoms : List Atom) → AreReplaced kind n os q m (take 0 atoms) []
      none_taken atoms = tt

  -- the names of the cell, and its atoms, in a cell that began with the first of each
  pub all_replaced : (c : Structure) (first : Atom) {a b f : Structure} → a ≡ started c first → b ≡ record a { names = c.names } → HasReplaced kind n os q m c.atoms b f → HasReplaced kind n os q m c.atoms c f
  all_replaced c first {a} {b} {f} e g h = record {
    atoms = h.atoms;
    rest = h.rest ∙ ap (λ (s : Structure). record s { atoms = f.atoms }) g ∙ ap (λ (s : Structure). record s { names = c.names; atoms = f.atoms }) e;
  }

  -- ---- each atom and its replacement
  pub record ReplacedFrom (olds : List Atom) (b : Atom) : Type 0 where
    pub atom : Atom
    pub of_list : IsMember atom olds
    pub replaced : IsReplaced kind n os q m atom b

  pub record ReplacedTo (a : Atom) (bs : List Atom) : Type 0 where
    pub atom : Atom
    pub of_list : IsMember atom bs
    pub replaced : IsReplaced kind n os q m a atom

  pub replaced_from : (olds bs : List Atom) → AreReplaced kind n os q m olds bs → (b : Atom) → IsMember b bs → ReplacedFrom olds b
  replaced_from [] [] h b k = absurd k
  replaced_from [] (x ∷ bs) h b k = absurd h
  replaced_from (a ∷ olds) [] h b k = absurd k
  replaced_from (a ∷ olds) (x ∷ bs) h b (inl e) = record { atom = a; of_list = inl refl; replaced = subst (IsReplaced kind n os q m a) (sym e) h.0 }
  replaced_from (a ∷ olds) (x ∷ bs) h b (inr k) = let r = replaced_from olds bs h.1 b k in record { atom = r.atom; of_list = inr r.of_list; replaced = r.replaced }

  pub replaced_to : (olds bs : List Atom) → AreReplaced kind n os q m olds bs → (a : Atom) → IsMember a olds → ReplacedTo a bs
  replaced_to [] bs h a k = absurd k
  replaced_to (x ∷ olds) [] h a k = absurd h
  replaced_to (x ∷ olds) (b ∷ bs) h a (inl e) = record { atom = b; of_list = inl refl; replaced = subst (λ (y : Atom). IsReplaced kind n os q m y b) (sym e) h.0 }
  replaced_to (x ∷ olds) (b ∷ bs) h a (inr k) = let r = replaced_to olds bs h.1 a k in record { atom = r.atom; of_list = inr r.of_list; replaced = r.replaced }

-- the cell of the first name and one atom
pub started_is : (c : Structure) (name : List ℕ) (first : Atom) (scale : ℤ) (metric : Matrix) (n k : ℕ) (kind : MomentKind) → slice_get c.names 0 ≡ Some name → scale ≡ c.scale → metric ≡ c.metric → n ≡ c.n → k ≡ c.k → kind ≡ c.kind →
    record { names = name ∷ []; scale = scale; metric = metric; n = n; k = k; kind = kind; atoms = first ∷ [] } ≡ started c first
started_is c name first scale metric n k kind is_name es em en ek eh =
    let names : name ∷ [] ≡ take 1 c.names = take_at c.names 0 name is_name in
    (λ i. record { names = names i; scale = es i; metric = em i; n = en i; k = ek i; kind = eh i; atoms = first ∷ [] })

-- whole cells at the position do not matter
module _ (kind : MomentKind) (n : ℕ) (os : List Operation) (q p m : Triple) (d : DiffersByCells n q p) where
  site_as : (a b : Atom) → IsReplaced kind n os q m a b → IsReplaced kind n os p m a b
  site_as a b h = record { same_species = h.same_species; same_position = h.same_position; moment = by h.moment }
    where
      by : IsCarriedMoment kind n os q m a.position b.moment ⊎ ((IsAlike n os q a.position → ⊥) × (b.moment ≡ a.moment)) → IsCarriedMoment kind n os p m a.position b.moment ⊎ ((IsAlike n os p a.position → ⊥) × (b.moment ≡ a.moment))
      by (inl k) = inl (record { operation = k.operation; of_list = k.of_list; carries = carries_as k.operation d (differs_itself n a.position) k.carries; is = k.is })
      by (inr k) = inr ((λ h. k.0 (alike_as os (differs_sym d) (differs_itself n a.position) h)), k.1)

  pub replaced_as : (olds bs : List Atom) → AreReplaced kind n os q m olds bs → AreReplaced kind n os p m olds bs
  replaced_as [] [] h = tt
  replaced_as [] (b ∷ bs) h = absurd h
  replaced_as (a ∷ olds) [] h = absurd h
  replaced_as (a ∷ olds) (b ∷ bs) h = (site_as a b h.0, replaced_as olds bs h.1)
