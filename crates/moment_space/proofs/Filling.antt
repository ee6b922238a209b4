-- A cell whose atoms are replaced is the filled cell, and each operation keeps it.
--
-- The argument. Where an operation carries the position q to that of an atom, all that do so carry the moment m to one moment,
-- since each and the inverse of another are an operation of the site-symmetry group. Let o be an operation of the list. It
-- carries each atom a of the cell to an atom a'. Where g carries q to a, first g and then o carries q to a', so the moment there
-- is what o makes of that at a. Where none carries q to a, none carries it to a', and both have their own moments.
use Rattle.std.proofs.Common.{◌≡◌, sym, ap, subst, ◌∙◌, ◌⊎◌, inl, inr, ℕ, [], ◌∷◌, List}
use Rattle.std.specs.Prelude.{pos}
use Rattle.lists.specs.Increasing.{IsMember}
use Rattle.crystal_spec.specs.declared.MomentKind.{MomentKind}
use Rattle.crystal_spec.specs.Matrices.{Triple, multiple, sum_of}
use Rattle.crystal_spec.specs.Crystals.{Atom, Structure, Occupied, Keeps, position_after, moment_after}
use Rattle.crystal_spec.specs.Operations.{Operation, ListsAll, sign_factor}
use Rattle.crystal_spec.proofs.Images.{keeps_by_images, occupied_itself}
use Rattle.crystal_spec.proofs.Isometries.{sign_squared}
use Rattle.crystal.specs.Cells.{IsCellWithinLimits}
use Rattle.crystal.proofs.CellLemmas.{apart_cell}
use Rattle.op_group.specs.Groups.{IsGroupModulo}
use Rattle.op_group.proofs.Composing.{composed_moment}
use Rattle.site_orbits.specs.Orbits.{Carries, IsAlike, ListsSite}
use Rattle.site_orbits.proofs.Equivalence.{carries_composed, carries_back}
use Rattle.moment_space.specs.Projectors.{IsAllowed}
use Rattle.moment_space.specs.Filled.{IsFilledAtom, AreFilled, IsFilled, IsKeptBy}
use Rattle.moment_space.specs.Replacements.{IsCarriedMoment, IsReplaced, AreReplaced, HasReplaced}
use Rattle.moment_space.proofs.Replacing.{replaced_from, replaced_to}
use Rattle.moment_space.proofs.Sites.{carried_alike}

module _ (kind : MomentKind) (n : ℕ) (os : List Operation) (g : IsGroupModulo n os) (q m : Triple) (site : List Operation) (lists : ListsSite n os q site) (allowed : IsAllowed kind site m) where
  filled_atom : (a b : Atom) → IsReplaced kind n os q m a b → IsFilledAtom kind n os q m a b
  filled_atom a b r = record {
    same_species = r.same_species;
    same_position = r.same_position;
    carried = λ o j f. carried o j f r.moment;
    others = λ none. others none r.moment;
  }
    where
      carried : (o : Operation) → IsMember o os → Carries n o q a.position → IsCarriedMoment kind n os q m a.position b.moment ⊎ ((IsAlike n os q a.position → ⊥) × (b.moment ≡ a.moment)) → b.moment ≡ moment_after kind o.matrix (sign_factor o.sign) m
      carried o j f (inl k) = k.is ∙ carried_alike n os q site lists g kind m allowed k.operation o a.position k.of_list j k.carries f
      carried o j f (inr k) = absurd (k.0 (record { operation = o; of_list = j; carries = f }))

      others : (IsAlike n os q a.position → ⊥) → IsCarriedMoment kind n os q m a.position b.moment ⊎ ((IsAlike n os q a.position → ⊥) × (b.moment ≡ a.moment)) → b.moment ≡ a.moment
      others none (inl k) = absurd (none (record { operation = k.operation; of_list = k.of_list; carries = k.carries }))
      others none (inr k) = k.1

  pub filled_atoms : (olds bs : List Atom) → AreReplaced kind n os q m olds bs → AreFilled kind n os q m olds bs
  filled_atoms [] [] h = tt
  filled_atoms [] (b ∷ bs) h = h
  filled_atoms (a ∷ olds) [] h = h
  filled_atoms (a ∷ olds) (b ∷ bs) h = (filled_atom a b h.0, filled_atoms olds bs h.1)

-- the cell c with the atoms bs in place of its own
module _ (c : Structure) (os : List Operation) (all : ListsAll c os) (g : IsGroupModulo c.n os) (q m : Triple) (site : List Operation) (lists : ListsSite c.n os q site) (allowed : IsAllowed c.kind site m) (bs : List Atom) (replaced : AreReplaced c.kind c.n os q m c.atoms bs) where
  abbrev filled : Structure
  filled = record c { atoms = bs }

  -- where o carries the atom a to a', it carries the moment at a to that at a'
  moment_follows : (o : Operation) → IsMember o os → (a b a' b' : Atom) → Carries c.n o a.position a'.position → a'.moment ≡ moment_after c.kind o.matrix (sign_factor o.sign) a.moment → IsReplaced c.kind c.n os q m a b → IsReplaced c.kind c.n os q m a' b' →
      b'.moment ≡ moment_after c.kind o.matrix (sign_factor o.sign) b.moment
  moment_follows o j a b a' b' f e r r' = by r.moment
    where
      at_image : IsFilledAtom c.kind c.n os q m a' b'
      at_image = filled_atom c.kind c.n os g q m site lists allowed a' b' r'

      -- what carries q to a', and what undoes o, carries it to a
      back : IsAlike c.n os q a'.position → IsAlike c.n os q a.position
      back h =
          let i = g.inverses o j in
          let t = g.composed h.operation i.0 h.of_list i.1.0 in
          record { operation = t.0; of_list = t.1.0; carries = carries_composed h.operation i.0 t.0 q t.1.1 h.carries (carries_back o i.0 i.1.1.after f) }

      by : IsCarriedMoment c.kind c.n os q m a.position b.moment ⊎ ((IsAlike c.n os q a.position → ⊥) × (b.moment ≡ a.moment)) → b'.moment ≡ moment_after c.kind o.matrix (sign_factor o.sign) b.moment
      by (inl k) =
          let t = g.composed k.operation o k.of_list j in
          at_image.carried t.0 t.1.0 (carries_composed k.operation o t.0 q t.1.1 k.carries f)
          ∙ sym (composed_moment c.kind c.n k.operation o t.0 t.1.1 m) ∙ ap (moment_after c.kind o.matrix (sign_factor o.sign)) (sym k.is)
      by (inr k) = at_image.others (λ h. k.0 (back h)) ∙ e ∙ ap (moment_after c.kind o.matrix (sign_factor o.sign)) (sym k.1)

  pub filled_kept : IsCellWithinLimits filled → (o : Operation) → IsMember o os → Keeps filled o.matrix o.translation (sign_factor o.sign)
  filled_kept form o j = keeps_by_images filled o.matrix o.translation (sign_factor o.sign) (apart_cell filled form) form.positive (sign_squared o.sign) ((all.exact o).0 j).keeps.metric images
    where
      images : (b : Atom) → IsMember b bs → Occupied filled b.species (position_after o.matrix o.translation b.position) (moment_after c.kind o.matrix (sign_factor o.sign) b.moment)
      images b k =
          let from = replaced_from c.kind c.n os q m c.atoms bs replaced b k in
          let a = from.atom in
          let image = (((all.exact o).0 j).keeps.crystal a.species a.position a.moment).0 (occupied_itself c a from.of_list) in
          let to = replaced_to c.kind c.n os q m c.atoms bs replaced image.atom image.of_cell in
          record {
            atom = to.atom;
            of_cell = to.of_list;
            same_species = to.replaced.same_species ∙ image.same_species ∙ sym from.replaced.same_species;
            same_moment = moment_follows o j a b image.atom to.atom (record { cells = image.cells; is = image.same_position }) image.same_moment from.replaced to.replaced;
            cells = image.cells;
            same_position = ap (position_after o.matrix o.translation) from.replaced.same_position ∙ image.same_position ∙ ap (λ (p : Triple). sum_of p (multiple (pos c.n) image.cells)) (sym to.replaced.same_position);
          }

module _ (c : Structure) (os : List Operation) (all : ListsAll c os) (g : IsGroupModulo c.n os) (q m : Triple) (site : List Operation) (lists : ListsSite c.n os q site) (allowed : IsAllowed c.kind site m) (f : Structure) (replaced : HasReplaced c.kind c.n os q m c.atoms c f) where
  pub is_filled : IsFilled c os q m f
  is_filled = record { atoms = filled_atoms c.kind c.n os g q m site lists allowed c.atoms f.atoms replaced.atoms; rest = replaced.rest }

  pub is_kept : IsCellWithinLimits f → IsKeptBy os f
  is_kept form = subst (IsKeptBy os) (sym replaced.rest) (filled_kept c os all g q m site lists allowed f.atoms replaced.atoms (subst (λ (s : Structure). IsCellWithinLimits s) replaced.rest form))
