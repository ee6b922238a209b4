-- The atoms that are left where each position is kept once: each is an atom of the list, and each position of the list
-- stays.
use Rattle.std.proofs.Common.{◌≡◌, Bool, true, false, List, [], ◌∷◌, refl, sym, ap, ◌∙◌, ◌⊎◌, inl, inr}
use Rattle.std.specs.Prelude.{Decides}
use Rattle.std.proofs.lemmas.Bool.Decides.{Decides-int_eq, Decides-and, Decides-like}
use Rattle.lists.specs.Increasing.{IsMember}
use Rattle.crystal_spec.specs.Matrices.{Triple}
use Rattle.crystal_spec.specs.Crystals.{Atom}
use Rattle.basis_spec.specs.Bases.{is_same_position, without_position, first_at_each_position}
use Rattle.crystal_spec.proofs.Entrywise.{triple_same}

-- whether two positions are one
pub same_position_decides : (p q : Triple) → Decides (is_same_position p q) (p ≡ q)
same_position_decides p q = Decides-like (is_same_position p q) (λ h. triple_same h.0 h.1.0 h.1.1) (λ e. (ap (λ (v : Triple). v.x) e, (ap (λ (v : Triple). v.y) e, ap (λ (v : Triple). v.z) e)))
    (Decides-and _ _ (Decides-int_eq p.x q.x) (Decides-and _ _ (Decides-int_eq p.y q.y) (Decides-int_eq p.z q.z)))

-- an atom that is not at this position is of the list
pub member_of_without : (p : Triple) (a : Atom) (atoms : List Atom) → IsMember a (without_position p atoms) → IsMember a atoms
member_of_without p a [] m = m
member_of_without p a (b ∷ bs) m = by (is_same_position p b.position) m (member_of_without p a bs)
  where
    by : (w : Bool) → IsMember a (elim w [ true ↦ without_position p bs | false ↦ b ∷ without_position p bs ]) → (IsMember a (without_position p bs) → IsMember a bs) → (a ≡ b) ⊎ IsMember a bs
    by true h rec = inr (rec h)
    by false (inl e) rec = inl e
    by false (inr h) rec = inr (rec h)

stays : (p : Triple) (a : Atom) (atoms : List Atom) → IsMember a atoms → (p ≡ a.position) ⊎ IsMember a (without_position p atoms)
stays p a [] m = absurd m
stays p a (b ∷ bs) (inl e) = by (is_same_position p b.position) refl
  where
    by : (w : Bool) → is_same_position p b.position ≡ w → (p ≡ a.position) ⊎ IsMember a (elim w [ true ↦ without_position p bs | false ↦ b ∷ without_position p bs ])
    by true f = inl ((same_position_decides p b.position).0 f ∙ ap (λ (s : Atom). s.position) (sym e))
    by false f = inr (inl e)
stays p a (b ∷ bs) (inr m) = by (is_same_position p b.position) (stays p a bs m)
  where
    by : (w : Bool) → (p ≡ a.position) ⊎ IsMember a (without_position p bs) → (p ≡ a.position) ⊎ IsMember a (elim w [ true ↦ without_position p bs | false ↦ b ∷ without_position p bs ])
    by w (inl e) = inl e
    by true (inr h) = inr h
    by false (inr h) = inr (inr h)

-- an atom that is left where each position is kept once is of the list
pub member_of_firsts : (a : Atom) (atoms : List Atom) → IsMember a (first_at_each_position atoms) → IsMember a atoms
member_of_firsts a [] m = m
member_of_firsts a (b ∷ bs) (inl e) = inl e
member_of_firsts a (b ∷ bs) (inr m) = inr (member_of_firsts a bs (member_of_without b.position a (first_at_each_position bs) m))

-- the atom that stands for a's position
pub record StandsFor (a : Atom) (atoms : List Atom) : Type 0 where
  pub atom : Atom
  pub of_list : IsMember atom atoms
  pub same_position : atom.position ≡ a.position

-- each position of the list has its atom
pub stands_for : (a : Atom) (atoms : List Atom) → IsMember a atoms → StandsFor a (first_at_each_position atoms)
stands_for a [] m = absurd m
stands_for a (b ∷ bs) (inl e) = record { atom = b; of_list = inl refl; same_position = ap (λ (s : Atom). s.position) (sym e) }
stands_for a (b ∷ bs) (inr m) =
    let r = stands_for a bs m in
    by r (stays b.position r.atom (first_at_each_position bs) r.of_list)
  where
    by : (r : StandsFor a (first_at_each_position bs)) → (b.position ≡ r.atom.position) ⊎ IsMember r.atom (without_position b.position (first_at_each_position bs)) → StandsFor a (b ∷ without_position b.position (first_at_each_position bs))
    by r (inl e) = record { atom = b; of_list = inl refl; same_position = e ∙ r.same_position }
    by r (inr h) = record { atom = r.atom; of_list = inr h; same_position = r.same_position }
