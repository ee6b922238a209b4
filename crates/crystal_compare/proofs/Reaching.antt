-- A map of a unimodular matrix carries one infinite crystal onto another exactly where the two cells have equally many atoms
-- and each atom of the first goes to one of the second, but for whole cells.
--
-- Two atoms that go to one atom differ by whole cells, so they are one: the map is one-to-one on the atoms, and reaches as
-- many atoms as there are. The other way round, a map onto gives each atom of the second one of the first, one-to-one too.
use Rattle.std.proofs.Common.{◌≡◌, ℕ, inl, inr, List, [], ◌∷◌, length, pos, negsuc, ◌*ℤ◌, ◌<ℤ◌, refl, sym, ap, subst, ◌∙◌, arith}
use Rattle.std.specs.Prelude.{◌↔◌}
use Rattle.std.proofs.lemmas.Int.{ints}
use Rattle.lists.specs.Increasing.{IsMember}
use Rattle.lists.proofs.Counting.{covered, into_le}
use Rattle.crystal_spec.specs.declared.Sign.{Sign}
use Rattle.crystal_spec.specs.Matrices.{Triple, Matrix, image, determinant, adjugate, multiple, sum_of}
use Rattle.crystal_spec.specs.Moments.{moment_matrix}
use Rattle.crystal_spec.specs.Crystals.{Atom, Structure, Occupied}
use Rattle.crystal_spec.specs.Operations.{sign_factor}
use Rattle.crystal_spec.proofs.Images.{same_within, occupied_itself}
use Rattle.basis_spec.proofs.MatrixLaws.{image-multiple, image-sum_of, image-matrix_multiple, image-image_adjugate, multiple_swap, multiple-sum_of, sum_assoc, sum_swap, subtract_add, add_difference}
use Rattle.basis_spec.proofs.Cancelling.{multiple_cancel, sum_cancel, unit_twice}
use Rattle.crystal.specs.Cells.{IsCellWithinLimits}
use Rattle.crystal.proofs.CellLemmas.{apart_cell}
use Rattle.prim_cell.proofs.Moving.{some_cells}
use Rattle.crystal_compare.specs.Maps.{HaveOneName}
use Rattle.crystal_compare.specs.Search.{IsMovedTo, HasMovedTo, IsMovedFrom, MapsOnto, moments_of, IsAtomCarried, HasAtomImage, HaveAtomImages}
use Rattle.crystal_compare.proofs.WholeBetween.{image_told}

pub atom_image_member : (c c' : Structure) (w : Matrix) (t : Triple) (l : Matrix) (xs : List Atom) (a : Atom) → HaveAtomImages c c' w t l xs → IsMember a xs → HasAtomImage c c' w t l a
atom_image_member c c' w t l [] a h m = absurd m
atom_image_member c c' w t l (x ∷ xs) a h (inl e) = subst (HasAtomImage c c' w t l) (sym e) h.0
atom_image_member c c' w t l (x ∷ xs) a h (inr m) = atom_image_member c c' w t l xs a h.1 m

pub all_atom_images : (c c' : Structure) (w : Matrix) (t : Triple) (l : Matrix) (xs : List Atom) → ((a : Atom) → IsMember a xs → HasAtomImage c c' w t l a) → HaveAtomImages c c' w t l xs
all_atom_images c c' w t l [] h = tt
all_atom_images c c' w t l (x ∷ xs) h = (h x (inl refl), all_atom_images c c' w t l xs (λ a m. h a (inr m)))

module _ (c c' : Structure) (w : Matrix) (t : Triple) (sign : Sign) (cell : IsCellWithinLimits c) (cell' : IsCellWithinLimits c') (one : determinant w *ℤ determinant w ≡ pos 1) where
  abbrev l : Matrix
  l = moment_matrix c.kind w (sign_factor sign)

  n_above : pos 0 <ℤ pos c.n
  n_above = some_cells c cell

  n'_above : pos 0 <ℤ pos c'.n
  n'_above = some_cells c' cell'

  k_above : pos 0 <ℤ pos c.k
  k_above = let h = cell.k_at_least in omega (arith, ints, h)

  turns : determinant w ≡ pos 0 → ⊥
  turns e = by (sym one ∙ ap (λ h. h *ℤ h) e)
    where
      by : pos 1 ≡ pos 0 → ⊥
      by h = cc h

  -- the way back
  undone : (v : Triple) → image w (multiple (determinant w) (image (adjugate w) v)) ≡ v
  undone v = image-multiple w (determinant w) (image (adjugate w) v) ∙ ap (multiple (determinant w)) (image-image_adjugate w v) ∙ unit_twice (determinant w) v one

  -- the moment of an image, in units of 1/(k k')
  moment_is : (m : Triple) → image (moments_of c c' w sign) m ≡ multiple (pos c'.k) (image l m)
  unfolding moments_of
  moment_is m = image-matrix_multiple (pos c'.k) (moment_matrix c.kind w (sign_factor sign)) m

  -- whole cells of c are taken to whole cells of c'
  cells_on : (p v : Triple) → sum_of (multiple (pos c'.n) (image w (sum_of p (multiple (pos c.n) v)))) t ≡ sum_of (sum_of (multiple (pos c'.n) (image w p)) t) (multiple (pos c.n) (multiple (pos c'.n) (image w v)))
  cells_on p v = ap (λ u. sum_of (multiple (pos c'.n) u) t) (image-sum_of w p (multiple (pos c.n) v) ∙ ap (sum_of (image w p)) (image-multiple w (pos c.n) v))
      ∙ ap (λ u. sum_of u t) (multiple-sum_of (pos c'.n) (image w p) (multiple (pos c.n) (image w v)) ∙ ap (sum_of (multiple (pos c'.n) (image w p))) (multiple_swap (pos c'.n) (pos c.n) (image w v)))
      ∙ sum_swap (multiple (pos c'.n) (image w p)) (multiple (pos c.n) (multiple (pos c'.n) (image w v))) t

  -- two positions that go to positions whole cells apart are whole cells apart
  cells_back : (p p' q u u' : Triple) → multiple (pos c.n) (sum_of q (multiple (pos c'.n) u)) ≡ sum_of (multiple (pos c'.n) (image w p)) t → multiple (pos c.n) (sum_of q (multiple (pos c'.n) u')) ≡ sum_of (multiple (pos c'.n) (image w p')) t →
      p ≡ sum_of p' (multiple (pos c.n) (multiple (determinant w) (image (adjugate w) (sum_of u (multiple (negsuc 0) u')))))
  cells_back p p' q u u' h h' =
      let v = multiple (determinant w) (image (adjugate w) (sum_of u (multiple (negsuc 0) u'))) in
      let on : sum_of (multiple (pos c'.n) (image w (sum_of p' (multiple (pos c.n) v)))) t ≡ sum_of (multiple (pos c'.n) (image w p)) t =
      cells_on p' v ∙ ap (λ x. sum_of x (multiple (pos c.n) (multiple (pos c'.n) (image w v)))) (sym h')
      ∙ ap (λ x. sum_of (multiple (pos c.n) (sum_of q (multiple (pos c'.n) u'))) (multiple (pos c.n) (multiple (pos c'.n) x))) (undone (sum_of u (multiple (negsuc 0) u')))
      ∙ sym (multiple-sum_of (pos c.n) (sum_of q (multiple (pos c'.n) u')) (multiple (pos c'.n) (sum_of u (multiple (negsuc 0) u'))))
      ∙ ap (multiple (pos c.n)) (sum_assoc q (multiple (pos c'.n) u') (multiple (pos c'.n) (sum_of u (multiple (negsuc 0) u'))) ∙ ap (sum_of q) (sym (multiple-sum_of (pos c'.n) u' (sum_of u (multiple (negsuc 0) u'))) ∙ ap (multiple (pos c'.n)) (add_difference u u')))
      ∙ h in
      image_told w p (sum_of p' (multiple (pos c.n) v)) turns (multiple_cancel (pos c'.n) (image w p) (image w (sum_of p' (multiple (pos c.n) v))) n'_above (sum_cancel (multiple (pos c'.n) (image w p)) (multiple (pos c'.n) (image w (sum_of p' (multiple (pos c.n) v)))) t (sym on)))

  -- two atoms of c that go to one atom of c' are one
  one_left : (a a' b : Atom) → IsMember a c.atoms → IsMember a' c.atoms → IsAtomCarried c c' w t l a b → IsAtomCarried c c' w t l a' b → a ≡ a'
  one_left a a' b h h' r r' =
      let apart = apart_cell c cell in
      let v = multiple (determinant w) (image (adjugate w) (sum_of r.cells (multiple (negsuc 0) r'.cells))) in
      apart.told a a' h h' (same_within c.n a.position a'.position v (apart.within a h) (apart.within a' h') (cells_back a.position a'.position b.position r.cells r'.cells r.position r'.position))

  -- two atoms of c' to which one atom of c goes are one
  one_right : (b b' a : Atom) → IsMember b c'.atoms → IsMember b' c'.atoms → IsAtomCarried c c' w t l a b → IsAtomCarried c c' w t l a b' → b ≡ b'
  one_right b b' a h h' r r' =
      let apart = apart_cell c' cell' in
      let x = multiple (pos c'.n) r.cells in
      let e = multiple_cancel (pos c.n) (sum_of b.position x) (sum_of b'.position (multiple (pos c'.n) r'.cells)) n_above (r.position ∙ sym r'.position) in
      let v = sum_of r'.cells (multiple (negsuc 0) r.cells) in
      let is : b.position ≡ sum_of b'.position (multiple (pos c'.n) v) =
      sum_cancel b.position (sum_of b'.position (multiple (pos c'.n) v)) x
      (e ∙ ap (sum_of b'.position) (ap (multiple (pos c'.n)) (sym (subtract_add r'.cells r.cells)) ∙ multiple-sum_of (pos c'.n) v r.cells) ∙ sym (sum_assoc b'.position (multiple (pos c'.n) v) x)) in
      apart.told b b' h h' (same_within c'.n b.position b'.position v (apart.within b h) (apart.within b' h') is)

  -- an image of an atom of the cell is one of all atoms that are whole cells away
  image_of : (a b : Atom) (s : ℕ) (p m u : Triple) → IsMember b c'.atoms → IsAtomCarried c c' w t l a b → a.species ≡ s → a.moment ≡ m → p ≡ sum_of a.position (multiple (pos c.n) u) → HasMovedTo c c' w t (pos c.n) (pos c.k) (moments_of c c' w sign) s p m
  image_of a b s p m u h r es em ep =
      let v = sum_of r.cells (image w u) in
      record {
        species = b.species;
        position = sum_of b.position (multiple (pos c'.n) v);
        moment = b.moment;
        occupied = record { atom = b; of_cell = h; same_species = refl; same_moment = refl; cells = v; same_position = refl };
        moved = record {
          one_name = subst (λ (x : ℕ). HaveOneName c c' x b.species) es r.one_name;
          position = ap (multiple (pos c.n)) (ap (sum_of b.position) (multiple-sum_of (pos c'.n) r.cells (image w u)) ∙ sym (sum_assoc b.position (multiple (pos c'.n) r.cells) (multiple (pos c'.n) (image w u))))
              ∙ multiple-sum_of (pos c.n) (sum_of b.position (multiple (pos c'.n) r.cells)) (multiple (pos c'.n) (image w u))
              ∙ ap (λ x. sum_of x (multiple (pos c.n) (multiple (pos c'.n) (image w u)))) r.position
              ∙ sym (cells_on a.position u) ∙ ap (λ x. sum_of (multiple (pos c'.n) (image w x)) t) (sym ep);
          moment = r.moment ∙ ap (λ x. multiple (pos c'.k) (image l x)) em ∙ sym (moment_is m);
        };
      }

  -- and each atom whole cells away from it is one
  source_of : (a b : Atom) (r : ℕ) (q h u : Triple) → IsMember a c.atoms → IsAtomCarried c c' w t l a b → b.species ≡ r → b.moment ≡ h → q ≡ sum_of b.position (multiple (pos c'.n) u) → IsMovedFrom c c' w t (pos c.n) (pos c.k) (moments_of c c' w sign) r q h
  source_of a b r q h u is_member k er eh eq =
      let x = sum_of u (multiple (negsuc 0) k.cells) in
      let v = multiple (determinant w) (image (adjugate w) x) in
      record {
        species = a.species;
        position = sum_of a.position (multiple (pos c.n) v);
        moment = a.moment;
        occupied = record { atom = a; of_cell = is_member; same_species = refl; same_moment = refl; cells = v; same_position = refl };
        moved = record {
          one_name = subst (λ (y : ℕ). HaveOneName c c' a.species y) er k.one_name;
          position = ap (multiple (pos c.n)) (eq ∙ ap (sum_of b.position) (ap (multiple (pos c'.n)) (sym (add_difference u k.cells)) ∙ multiple-sum_of (pos c'.n) k.cells x) ∙ sym (sum_assoc b.position (multiple (pos c'.n) k.cells) (multiple (pos c'.n) x)))
              ∙ multiple-sum_of (pos c.n) (sum_of b.position (multiple (pos c'.n) k.cells)) (multiple (pos c'.n) x)
              ∙ (λ i. sum_of (k.position i) (multiple (pos c.n) (multiple (pos c'.n) (sym (undone x) i))))
              ∙ sym (cells_on a.position v);
          moment = ap (multiple (pos c.k)) (sym eh) ∙ k.moment ∙ sym (moment_is a.moment);
        };
      }

  -- equally many atoms, each with an image: so the crystals are carried onto each other
  pub onto_by_images : length c.atoms ≡ length c'.atoms → HaveAtomImages c c' w t l c.atoms → MapsOnto c c' w t sign
  onto_by_images equally images = record { images = forth; onto = back }
    where
      carried : (a : Atom) → IsMember a c.atoms → (b : Atom) × (IsMember b c'.atoms × IsAtomCarried c c' w t l a b)
      carried a h = let i = atom_image_member c c' w t l c.atoms a images h in (i.atom, (i.of_cell, i.carried))

      forth : (s : ℕ) (p m : Triple) → Occupied c s p m → HasMovedTo c c' w t (pos c.n) (pos c.k) (moments_of c c' w sign) s p m
      forth s p m o = let i = carried o.atom o.of_cell in image_of o.atom i.0 s p m o.cells i.1.0 i.1.1 o.same_species o.same_moment o.same_position

      back : (r : ℕ) (q h : Triple) → Occupied c' r q h → IsMovedFrom c c' w t (pos c.n) (pos c.k) (moments_of c c' w sign) r q h
      back r q h o =
          let x = covered (IsAtomCarried c c' w t l) c.atoms c'.atoms (apart_cell c cell).distinct (omega (arith, equally)) (record { right = carried; one_left = one_left }) o.atom o.of_cell in
          source_of x.0 o.atom r q h o.cells x.1.0 x.1.1 o.same_species o.same_moment o.same_position

  module _ (moves : MapsOnto c c' w t sign) where
    -- from the image of an atom of the cell
    carried_of : (a : Atom) (s : ℕ) (p m : Triple) (v : Triple) → a.species ≡ s → a.moment ≡ m → p ≡ a.position → (b : Atom) (r : ℕ) (q h : Triple) → b.species ≡ r → b.moment ≡ h → q ≡ sum_of b.position (multiple (pos c'.n) v) →
        IsMovedTo c c' w t (pos c.n) (pos c.k) (moments_of c c' w sign) s p m r q h → IsAtomCarried c c' w t l a b
    carried_of a s p m v es em ep b r q h er eh eq i = record {
      one_name = subst (λ (x : ℕ). HaveOneName c c' x b.species) (sym es) (subst (λ (y : ℕ). HaveOneName c c' s y) (sym er) i.one_name);
      cells = v;
      position = ap (multiple (pos c.n)) (sym eq) ∙ i.position ∙ ap (λ x. sum_of (multiple (pos c'.n) (image w x)) t) ep;
      moment = ap (multiple (pos c.k)) eh ∙ i.moment ∙ moment_is m ∙ ap (λ x. multiple (pos c'.k) (image l x)) (sym em);
    }

    -- each atom of the cell has an image
    has_image : (a : Atom) → IsMember a c.atoms → HasAtomImage c c' w t l a
    has_image a h =
        let i = moves.images a.species a.position a.moment (occupied_itself c a h) in
        let o = i.occupied in
        record { atom = o.atom; of_cell = o.of_cell; carried = carried_of a a.species a.position a.moment o.cells refl refl refl o.atom i.species i.position i.moment o.same_species o.same_moment o.same_position i.moved }

    pub images_of_onto : HaveAtomImages c c' w t l c.atoms
    images_of_onto = all_atom_images c c' w t l c.atoms has_image

    -- each atom of the second cell comes from an atom of the first
    comes_from : (b : Atom) → IsMember b c'.atoms → (a : Atom) × (IsMember a c.atoms × IsAtomCarried c c' w t l a b)
    comes_from b h =
        let f = moves.onto b.species b.position b.moment (occupied_itself c' b h) in
        let o = f.occupied in
        let at = occupied_itself c' b h in
        let near : sum_of (multiple (pos c'.n) (image w o.atom.position)) t ≡ multiple (pos c.n) (sum_of b.position (multiple (pos c'.n) (multiple (negsuc 0) (image w o.cells)))) =
        sum_cancel (sum_of (multiple (pos c'.n) (image w o.atom.position)) t) (multiple (pos c.n) (sum_of b.position (multiple (pos c'.n) (multiple (negsuc 0) (image w o.cells))))) (multiple (pos c.n) (multiple (pos c'.n) (image w o.cells)))
        (sym (cells_on o.atom.position o.cells) ∙ ap (λ x. sum_of (multiple (pos c'.n) (image w x)) t) (sym o.same_position) ∙ sym f.moved.position
        ∙ ap (multiple (pos c.n)) (sym (subtract_add b.position (multiple (pos c'.n) (image w o.cells))) ∙ ap (λ x. sum_of (sum_of b.position x) (multiple (pos c'.n) (image w o.cells))) (multiple_swap (negsuc 0) (pos c'.n) (image w o.cells)))
        ∙ multiple-sum_of (pos c.n) (sum_of b.position (multiple (pos c'.n) (multiple (negsuc 0) (image w o.cells)))) (multiple (pos c'.n) (image w o.cells))) in (
          o.atom,
          (
            o.of_cell,
            record {
              one_name = subst (λ (x : ℕ). HaveOneName c c' x b.species) (sym o.same_species) f.moved.one_name;
              cells = multiple (negsuc 0) (image w o.cells);
              position = sym near;
              moment = f.moved.moment ∙ moment_is f.moment ∙ ap (λ x. multiple (pos c'.k) (image l x)) (sym o.same_moment);
            },
          ),
        )

    pub equally_many : length c.atoms ≡ length c'.atoms
    equally_many =
        let up = into_le (IsAtomCarried c c' w t l) c.atoms c'.atoms (apart_cell c cell).distinct (record { right = λ a h. (let i = has_image a h in (i.atom, (i.of_cell, i.carried))); one_left = one_left }) in
        let down = into_le (λ (b a : Atom). IsAtomCarried c c' w t l a b) c'.atoms c.atoms (apart_cell c' cell').distinct (record { right = comes_from; one_left = one_right }) in
        omega (arith, up, down)

  -- the test decides
  pub onto_exactly : {T : Type 0} → T ↔ ((length c.atoms ≡ length c'.atoms) × HaveAtomImages c c' w t l c.atoms) → T ↔ MapsOnto c c' w t sign
  onto_exactly test = ((λ h. let k = test.0 h in onto_by_images k.0 k.1), (λ m. test.1 (equally_many m, images_of_onto m)))
