-- What the search has found, step by step.
--
-- A symmetry operation of matrix w carries an atom onto an atom of its species, so its translation part is the one that does
-- so, for one of these atoms; and its matrix is an isometry, so it is one of the list of all isometries.
use Rattle.std.proofs.Common.{◌≡◌, refl, sym, ap, subst, ◌∙◌, ◌⊎◌, inl, inr, ℕ, ◌+◌, List, [], ◌∷◌, ◌++◌, length}
use Rattle.std.specs.Prelude.{ℤ, pos, negsuc, ◌↔◌, Bool, true, false, slice_get, Some}
use Rattle.ring.specs.Ring.{quoted, var, con}
use Rattle.lists.specs.Increasing.{IsIncreasing, IsMember, inserted}
use Rattle.lists.proofs.Increasing.{IsMember-inserted}
use Rattle.lists.proofs.Members.{same_at, place_of_member}
use Rattle.lists.proofs.Any.{more_below, same_below, alone_more}
use Rattle.matrix3.specs.Matrices.{coordinates, vector_of_variables}
use Rattle.matrix3.specs.Matrices as formulas
use Rattle.crystal_spec.specs.declared.Sign.{Sign}
use Rattle.crystal_spec.specs.declared.Sign.TheVariants.{Same, Reversed}
use Rattle.crystal_spec.specs.Matrices.{Matrix, Triple, image, multiple, sum_of, difference}
use Rattle.crystal_spec.specs.Crystals.{Atom, Structure, Keeps}
use Rattle.crystal_spec.specs.Operations.{Operation, IsSymmetryOperation, compare_of, sign_factor}
use Rattle.crystal_spec.proofs.Identities.{by_triples}
use Rattle.crystal_spec.proofs.Images.{images_of_keeps}
use Rattle.crystal_spec.proofs.Ordered.{compare_exact}
use Rattle.positions.specs.Positions.{IsModulo}
use Rattle.positions.proofs.Residues.{modulo_once}
use Rattle.lattice_iso.specs.Isometries.{ListsIsometries}
use Rattle.mag_ops.specs.Groups.{ListsGroup, IsWanted}
use Rattle.mag_ops.specs.Candidates.{IsKeptAs, IsOnto, IsFromAtoms, IsKeptBy, IsFoundBelow, IsFromAtom, IsFoundAt}

-- putting in an operation that keeps the crystal
pub kept_added : (c : Structure) (op : Operation) (old new : List Operation) → Keeps c op.matrix op.translation (sign_factor op.sign) → new ≡ inserted compare_of op old →
    (o : Operation) → IsMember o new ↔ (IsKeptAs c op.matrix op.translation op.sign o ⊎ IsMember o old)
kept_added c op old new keeps is o = subst (λ (l : List Operation). IsMember o l ↔ (IsKeptAs c op.matrix op.translation op.sign o ⊎ IsMember o old)) (sym is)
    ((λ m. into (member.0 m)), (λ h. member.1 (back h)))
  where
    member : IsMember o (inserted compare_of op old) ↔ ((o ≡ op) ⊎ IsMember o old)
    member = IsMember-inserted compare_exact op old o

    into : (o ≡ op) ⊎ IsMember o old → IsKeptAs c op.matrix op.translation op.sign o ⊎ IsMember o old
    into (inl p) = inl (record { same_matrix = ap (λ (q : Operation). q.matrix) p; same_translation = ap (λ (q : Operation). q.translation) p; same_sign = ap (λ (q : Operation). q.sign) p; keeps = keeps })
    into (inr m) = inr m

    back : IsKeptAs c op.matrix op.translation op.sign o ⊎ IsMember o old → (o ≡ op) ⊎ IsMember o old
    back (inl k) = let m = k.same_matrix in let s = k.same_translation in let t = k.same_sign in inl (λ i. record { matrix = m i; translation = s i; sign = t i })
    back (inr m) = inr m

-- ---- one atom after another

-- a kept operation carries the one atom onto the other
onto_kept : (c : Structure) (time : Bool) (w : Matrix) (t : Triple) (from onto : Atom) (o : Operation) (s : Sign) → IsModulo c.n (difference onto.position (image w from.position)) t → IsWanted time s →
    IsKeptAs c w t s o → IsOnto c time w from onto o
onto_kept c time w t from onto o s f wanted h = record {
  same_matrix = h.same_matrix;
  translation = subst (IsModulo c.n (difference onto.position (image w from.position))) (sym h.same_translation) f;
  wanted = subst (IsWanted time) (sym h.same_sign) wanted;
  keeps = subst (λ (r : Triple). Keeps c w r (sign_factor o.sign)) (sym h.same_translation) (subst (λ (r : Sign). Keeps c w t (sign_factor r)) (sym h.same_sign) h.keeps);
}

-- one that carries the one atom onto the other is kept with the translation part that does so
kept_onto : (c : Structure) (time : Bool) (w : Matrix) (t : Triple) (from onto : Atom) (o : Operation) → IsModulo c.n (difference onto.position (image w from.position)) t →
    IsOnto c time w from onto o → IsKeptAs c w t o.sign o
kept_onto c time w t from onto o f k = record { same_matrix = k.same_matrix; same_translation = now; same_sign = refl; keeps = subst (λ (r : Triple). Keeps c w r (sign_factor o.sign)) now k.keeps }
  where
    now : o.translation ≡ t
    now = modulo_once c.n (difference onto.position (image w from.position)) o.translation t k.translation f

-- the translation part that carries the one atom onto the other with either sign
pub onto_more : (c : Structure) (w : Matrix) (t : Triple) (from onto : Atom) (o : Operation) (A B D : Type 0) → IsModulo c.n (difference onto.position (image w from.position)) t →
    B ↔ (IsKeptAs c w t Same o ⊎ D) → A ↔ (IsKeptAs c w t Reversed o ⊎ B) → A ↔ (IsOnto c true w from onto o ⊎ D)
onto_more c w t from onto o A B D f same reversed = ((λ a. from_reversed (reversed.0 a)), back)
  where
    this : (s : Sign) → IsWanted true s → IsKeptAs c w t s o → IsOnto c true w from onto o
    this s = onto_kept c true w t from onto o s f

    from_same : IsKeptAs c w t Same o ⊎ D → IsOnto c true w from onto o ⊎ D
    from_same (inl h) = inl (this Same tt h)
    from_same (inr d) = inr d

    from_reversed : IsKeptAs c w t Reversed o ⊎ B → IsOnto c true w from onto o ⊎ D
    from_reversed (inl h) = inl (this Reversed refl h)
    from_reversed (inr b) = from_same (same.0 b)

    by_sign : (s : Sign) → IsKeptAs c w t s o → A
    by_sign Same k = reversed.1 (inr (same.1 (inl k)))
    by_sign Reversed k = reversed.1 (inl k)

    back : IsOnto c true w from onto o ⊎ D → A
    back (inl k) = by_sign o.sign (kept_onto c true w t from onto o f k)
    back (inr d) = reversed.1 (inr (same.1 (inr d)))

-- without time reversal: that with the sign +1 alone
pub onto_more_same : (c : Structure) (w : Matrix) (t : Triple) (from onto : Atom) (o : Operation) (A D : Type 0) → IsModulo c.n (difference onto.position (image w from.position)) t →
    A ↔ (IsKeptAs c w t Same o ⊎ D) → A ↔ (IsOnto c false w from onto o ⊎ D)
onto_more_same c w t from onto o A D f same = ((λ a. forth (same.0 a)), back)
  where
    forth : IsKeptAs c w t Same o ⊎ D → IsOnto c false w from onto o ⊎ D
    forth (inl h) = inl (onto_kept c false w t from onto o Same f tt h)
    forth (inr d) = inr d

    by_sign : (s : Sign) → IsWanted false s → IsKeptAs c w t s o → A
    by_sign Same wanted k = same.1 (inl k)
    by_sign Reversed wanted k = absurd (cc wanted)

    back : IsOnto c false w from onto o ⊎ D → A
    back (inl k) = by_sign o.sign k.wanted (kept_onto c false w t from onto o f k)
    back (inr d) = same.1 (inr d)

-- the next atom, of the species of the first
pub atoms_more : (c : Structure) (time : Bool) (w : Matrix) (from : Atom) (i : ℕ) (onto : Atom) (o : Operation) (A D Old : Type 0) → slice_get c.atoms i ≡ Some onto → onto.species ≡ from.species → D ↔ (IsFromAtoms c time w from i o ⊎ Old) → A ↔ (IsOnto c time w from onto o ⊎ D) → A ↔ (IsFromAtoms c time w from (i + 1) o ⊎ Old)
atoms_more c time w from i onto o A D Old is_atom species old more = more_below (IsFromAtom c time w from o) i A D Old old ((λ a. forth (more.0 a)), (λ h. more.1 (back h)))
  where
    forth : IsOnto c time w from onto o ⊎ D → IsFromAtom c time w from o i ⊎ D
    forth (inl k) = inl (record { atom = onto; is_atom = is_atom; same_species = species; onto = k })
    forth (inr d) = inr d

    back : IsFromAtom c time w from o i ⊎ D → IsOnto c time w from onto o ⊎ D
    back (inl k) = inl (subst (λ (s : Atom). IsOnto c time w from s o) (same_at c.atoms i k.atom onto k.is_atom is_atom) k.onto)
    back (inr d) = inr d

-- the next atom, of another species
pub atoms_same : (c : Structure) (time : Bool) (w : Matrix) (from : Atom) (i : ℕ) (onto : Atom) (o : Operation) (D Old : Type 0) → slice_get c.atoms i ≡ Some onto → (onto.species ≡ from.species → ⊥) → D ↔ (IsFromAtoms c time w from i o ⊎ Old) → D ↔ (IsFromAtoms c time w from (i + 1) o ⊎ Old)
atoms_same c time w from i onto o D Old is_atom other old = same_below (IsFromAtom c time w from o) i D Old none old
  where
    none : IsFromAtom c time w from o i → ⊥
    none k = other (ap (λ (s : Atom). s.species) (sym (same_at c.atoms i k.atom onto k.is_atom is_atom)) ∙ k.same_species)

-- the translation part from where the first atom goes
carried_translation : (i t q d : Triple) (n : ℤ) → sum_of i t ≡ sum_of q (multiple n d) → difference q i ≡ sum_of t (multiple n (multiple (negsuc 0) d))
carried_translation i t q d n e =
    let x = vector_of_variables 0 in
    let y = vector_of_variables 3 in
    let u = vector_of_variables 6 in
    by_triples (coordinates q ++ coordinates i ++ coordinates d ++ n ∷ [])
    (formulas.difference quoted x y)
    (formulas.difference quoted (formulas.sum_of quoted (formulas.sum_of quoted x (formulas.multiple quoted (var 9) u)) (formulas.multiple quoted (var 9) (formulas.multiple quoted (con (negsuc 0)) u))) y) refl
    ∙ ap (λ (p : Triple). difference (sum_of p (multiple n (multiple (negsuc 0) d))) i) (sym e)
    ∙ by_triples (coordinates i ++ coordinates t ++ coordinates d ++ n ∷ [])
    (formulas.difference quoted (formulas.sum_of quoted (formulas.sum_of quoted x y) (formulas.multiple quoted (var 9) (formulas.multiple quoted (con (negsuc 0)) u))) x)
    (formulas.sum_of quoted y (formulas.multiple quoted (var 9) (formulas.multiple quoted (con (negsuc 0)) u))) refl

-- all atoms are seen: exactly the symmetry operations of this matrix
pub atoms_all : (c : Structure) (time : Bool) (w : Matrix) (from : Atom) (o : Operation) (A Old : Type 0) → IsMember from c.atoms → A ↔ (IsFromAtoms c time w from (length c.atoms) o ⊎ Old) → A ↔ (IsKeptBy c time w o ⊎ Old)
atoms_all c time w from o A Old of_cell found = ((λ a. forth (found.0 a)), (λ h. found.1 (back h)))
  where
    forth : IsFromAtoms c time w from (length c.atoms) o ⊎ Old → IsKeptBy c time w o ⊎ Old
    forth (inl f) = let k = f.holds.onto in inl (record { same_matrix = k.same_matrix; wanted = k.wanted; symmetry = record { translation = k.translation.within; keeps = subst (λ (m : Matrix). Keeps c m o.translation (sign_factor o.sign)) (sym k.same_matrix) k.keeps } })
    forth (inr d) = inr d

    back : IsKeptBy c time w o ⊎ Old → IsFromAtoms c time w from (length c.atoms) o ⊎ Old
    back (inl h) =
        let keeps = subst (λ (m : Matrix). Keeps c m o.translation (sign_factor o.sign)) h.same_matrix h.symmetry.keeps in
        let image_of = images_of_keeps c w o.translation (sign_factor o.sign) keeps from of_cell in
        let k = place_of_member c.atoms image_of.atom image_of.of_cell in
        inl (record {
          number = k.number;
          below = k.below;
          holds = record {
            atom = image_of.atom;
            is_atom = k.at;
            same_species = image_of.same_species;
            onto = record {
              same_matrix = h.same_matrix;
              translation = record { within = h.symmetry.translation; cells = multiple (negsuc 0) image_of.cells; same = carried_translation (image w from.position) o.translation image_of.atom.position image_of.cells (pos c.n) image_of.same_position };
              wanted = h.wanted;
              keeps = keeps;
            };
          };
        })
    back (inr d) = inr d

-- ---- one matrix after another
pub found_more : (c : Structure) (time : Bool) (ws : List Matrix) (w : Matrix) (k : ℕ) (o : Operation) (A D : Type 0) → slice_get ws k ≡ Some w → D ↔ IsFoundBelow c time ws k o → A ↔ (IsKeptBy c time w o ⊎ D) → A ↔ IsFoundBelow c time ws (k + 1) o
found_more c time ws w k o A D is old more = alone_more (IsFoundAt c time ws o) k A D old ((λ a. forth (more.0 a)), (λ h. more.1 (back h)))
  where
    forth : IsKeptBy c time w o ⊎ D → IsFoundAt c time ws o k ⊎ D
    forth (inl h) = inl (record { is_matrix = is ∙ ap (λ (m : Matrix). Some m) (sym h.same_matrix); wanted = h.wanted; symmetry = h.symmetry })
    forth (inr d) = inr d

    back : IsFoundAt c time ws o k ⊎ D → IsKeptBy c time w o ⊎ D
    back (inl f) = inl (record { same_matrix = same_at ws k o.matrix w f.is_matrix is; wanted = f.wanted; symmetry = f.symmetry })
    back (inr d) = inr d

-- all matrices are seen
pub found_all : (c : Structure) (time : Bool) (ws : List Matrix) (os : List Operation) → ListsIsometries c.metric ws → IsIncreasing compare_of os → ((o : Operation) → IsMember o os ↔ IsFoundBelow c time ws (length ws) o) → ListsGroup c time os
found_all c time ws os isometries increasing found = by_time time complete found
  where
    complete : (o : Operation) → IsWanted time o.sign → IsSymmetryOperation c o → IsFoundBelow c time ws (length ws) o
    complete o wanted s =
        let k = place_of_member ws o.matrix ((isometries.exact o.matrix).1 s.keeps.metric) in
        record { number = k.number; below = k.below; holds = record { is_matrix = k.at; wanted = wanted; symmetry = s } }

    either : (s : Sign) → IsWanted true s
    either Same = tt
    either Reversed = refl

    only_same : (s : Sign) → IsWanted false s → s ≡ Same
    only_same Same wanted = refl
    only_same Reversed wanted = absurd (cc wanted)

    by_time : (t : Bool) → ((o : Operation) → IsWanted t o.sign → IsSymmetryOperation c o → IsFoundBelow c t ws (length ws) o) → ((o : Operation) → IsMember o os ↔ IsFoundBelow c t ws (length ws) o) → ListsGroup c t os
    by_time true all f = record {
      increasing = increasing;
      exact = λ o. ((λ m. ((f o).0 m).holds.symmetry), (λ s. (f o).1 (all o (either o.sign) s)));
    }
    by_time false all f = record {
      increasing = increasing;
      exact = λ o. ((λ m. let k = ((f o).0 m).holds in (k.symmetry, only_same o.sign k.wanted)), (λ s. (f o).1 (all o (subst (IsWanted false) (sym s.1) tt) s.0)));
    }
