-- Where a map takes an atom of the cell: one coordinate after another, then the atom that is there.
use Rattle.std.proofs.Common.{◌≡◌, ℕ, ◌<◌, ◌≤◌, ◌^◌, [], ◌∷◌, ℤ, pos, negsuc, neg_ℤ, ◌+ℤ◌, ◌*ℤ◌, ◌≤ℤ◌, ◌<ℤ◌, refl, sym, ap, subst, ◌∙◌, arith, lit≤}
use Rattle.std.specs.Prelude.{◌↔◌, slice_get, Some}
use Rattle.std.proofs.lemmas.Int.{ints}
use Rattle.numbers.specs.Residue.{residue}
use Rattle.numbers.proofs.ResidueRing.{residue_splits}
use Rattle.ring.specs.Ring.{var, ◌:+◌, ◌:*◌, opposite}
use Rattle.lists.proofs.Members.{member_at, same_at}
use Rattle.crystal_spec.specs.declared.MomentKind.{MomentKind}
use Rattle.crystal_spec.specs.declared.Sign.{Sign}
use Rattle.crystal_spec.specs.Matrices.{Triple, Matrix, image, determinant, multiple, sum_of}
use Rattle.crystal_spec.specs.Moments.{axial_factor, turn_matrix, moment_matrix}
use Rattle.crystal_spec.specs.Crystals.{Atom, Structure}
use Rattle.crystal_spec.specs.Operations.{sign_factor}
use Rattle.crystal_spec.proofs.Entrywise.{triple_same}
use Rattle.crystal_spec.proofs.Identities.{by_integers}
use Rattle.crystal_spec.proofs.Images.{same_within}
use Rattle.crystal_spec.proofs.Isometries.{sign_squared, unit_product}
use Rattle.crystal_spec.proofs.Moments.{axial_factor-unit}
use Rattle.basis_spec.proofs.MatrixLaws.{multiple-sum_of, sum_assoc, subtract_add}
use Rattle.basis_spec.proofs.Cancelling.{multiple_cancel, sum_cancel}
use Rattle.matrix3.specs.Bounds.{EntriesAtMost, CoordinatesAtMost}
use Rattle.crystal.specs.Cells.{IsCellWithinLimits}
use Rattle.crystal.specs.Occupants.{IsOccupant, NoneAt}
use Rattle.crystal.proofs.CellLemmas.{apart_cell, none_member}
use Rattle.crystal.proofs.Ranges.{turn_entries, unit_entries}
use Rattle.matrix3.proofs.FitsBySize.{image_size, coordinates_grown}
use Rattle.prim_cell.proofs.Moving.{some_cells}
use Rattle.crystal_compare.specs.Maps.{HaveOneName}
use Rattle.crystal_compare.specs.Search.{IsCarriedCoordinate, IsCarriedPlace, IsBetweenPlaces, HasImageAt, HaveOneMoment, HasAtomImage}

-- a multiple on the other side
taken_over : (n : ℕ) (r z q : ℤ) → r ≡ z +ℤ q *ℤ pos n → z ≡ r +ℤ pos n *ℤ neg_ℤ q
taken_over n r z q e =
    by_integers (z ∷ q ∷ pos n ∷ []) (var 0) ((var 0 :+ var 1 :* var 2) :+ var 2 :* opposite (var 1)) refl ∙ ap (λ (t : ℤ). t +ℤ pos n *ℤ neg_ℤ q) (sym e)

-- one coordinate, brought into the cell
pub coordinate_found : (n m : ℕ) (x t q : ℤ) (r : ℕ) → r < m → q *ℤ pos n ≡ pos m *ℤ x +ℤ t → pos r ≡ residue m q → IsCarriedCoordinate n m x t r
coordinate_found n m x t q r h e is =
    let split = residue_splits m q in
    record {
      below = h;
      cells = neg_ℤ split.0;
      same = ap (λ z. pos n *ℤ z) (sym (taken_over m (pos r) q split.0 (is ∙ split.1))) ∙ by_integers (q ∷ pos n ∷ []) (var 1 :* var 0) (var 0 :* var 1) refl ∙ e;
    }

natural : (r n : ℕ) → r < n → (pos 0 ≤ℤ pos r) × (pos r <ℤ pos n)
natural r n h = (omega (arith, ints), omega (arith, ints))

-- three coordinates
pub place_found : (n m : ℕ) (w : Matrix) (t p q : Triple) (x y z : ℕ) → q ≡ image w p → IsCarriedCoordinate n m q.x t.x x → IsCarriedCoordinate n m q.y t.y y → IsCarriedCoordinate n m q.z t.z z →
    IsCarriedPlace n m w t p (record { x = pos x; y = pos y; z = pos z })
place_found n m w t p q x y z e hx hy hz = record {
  within = record { x = natural x m hx.below; y = natural y m hy.below; z = natural z m hz.below };
  cells = record { x = hx.cells; y = hy.cells; z = hz.cells };
  position = triple_same hx.same hy.same hz.same ∙ ap (λ (v : Triple). sum_of (multiple (pos m) v) t) e;
}

-- where one coordinate is not whole, no position is the image
pub place_absent : (n m : ℕ) (w : Matrix) (t p q : Triple) → q ≡ image w p → ((r : Triple) → multiple (pos n) r ≡ sum_of (multiple (pos m) q) t → ⊥) → IsBetweenPlaces n m w t p
place_absent n m w t p q e none r h = none r (h ∙ ap (λ (v : Triple). sum_of (multiple (pos m) v) t) (sym e))

-- the size of an image of a position
pub place_image : (w : Matrix) (p : Triple) → EntriesAtMost 1 w → CoordinatesAtMost (2 ^ 32) p → CoordinatesAtMost (10 ^ 14) (image w p)
place_image w p h k = coordinates_grown {v = image w p} (lit≤ tt) (image_size w p h k)

-- where an atom is at the position, that atom decides
pub image_at : {T : Type 0} (c c' : Structure) (l : Matrix) (a : Atom) (q : Triple) (i : ℕ) (b : Atom) → IsCellWithinLimits c' → IsOccupant c'.atoms q i → slice_get c'.atoms i ≡ Some b → T ↔ (HaveOneName c c' a.species b.species × HaveOneMoment c c' l a b) → T ↔ HasImageAt c c' l a q
image_at {T} c c' l a q i b cell o e test = (forth, back)
  where
    here : b.position ≡ q
    here = ap (λ (x : Atom). x.position) (same_at c'.atoms i b o.atom e o.numbered) ∙ o.here

    forth : T → HasImageAt c c' l a q
    forth t = record { atom = b; of_cell = member_at c'.atoms i b e; here = here; one_name = (test.0 t).0; one_moment = (test.0 t).1 }

    back : HasImageAt c c' l a q → T
    back k =
        let one : k.atom ≡ b = (apart_cell c' cell).told k.atom b k.of_cell (member_at c'.atoms i b e) (k.here ∙ sym here) in
        test.1 (subst (λ (x : Atom). HaveOneName c c' a.species x.species) one k.one_name, subst (λ (x : Atom). HaveOneMoment c c' l a x) one k.one_moment)

pub no_image_at : (c c' : Structure) (l : Matrix) (a : Atom) (q : Triple) → NoneAt q c'.atoms → HasImageAt c c' l a q → ⊥
no_image_at c c' l a q none k = none_member q c'.atoms k.atom none k.of_cell k.here

-- the atom that is at the place of the image decides
pub image_exactly : {T : Type 0} (c c' : Structure) (w : Matrix) (t : Triple) (l : Matrix) (a : Atom) (q : Triple) → IsCellWithinLimits c → IsCellWithinLimits c' → IsCarriedPlace c.n c'.n w t a.position q → T ↔ HasImageAt c c' l a q → T ↔ HasAtomImage c c' w t l a
image_exactly {T} c c' w t l a q cell cell' k test = ((λ h. forth (test.0 h)), (λ h. test.1 (back h)))
  where
    forth : HasImageAt c c' l a q → HasAtomImage c c' w t l a
    forth h = record { atom = h.atom; of_cell = h.of_cell; carried = record { one_name = h.one_name; cells = k.cells; position = ap (λ (v : Triple). multiple (pos c.n) (sum_of v (multiple (pos c'.n) k.cells))) h.here ∙ k.position; moment = h.one_moment } }

    back : HasAtomImage c c' w t l a → HasImageAt c c' l a q
    back h =
        let r = h.carried in
        let b = h.atom in
        let e = multiple_cancel (pos c.n) (sum_of b.position (multiple (pos c'.n) r.cells)) (sum_of q (multiple (pos c'.n) k.cells)) (some_cells c cell) (r.position ∙ sym k.position) in
        let v = sum_of k.cells (multiple (negsuc 0) r.cells) in
        let x = multiple (pos c'.n) r.cells in
        let is : b.position ≡ sum_of q (multiple (pos c'.n) v) =
        sum_cancel b.position (sum_of q (multiple (pos c'.n) v)) x
        (e ∙ ap (sum_of q) (ap (multiple (pos c'.n)) (sym (subtract_add k.cells r.cells)) ∙ multiple-sum_of (pos c'.n) v r.cells) ∙ sym (sum_assoc q (multiple (pos c'.n) v) x)) in
        record { atom = b; of_cell = h.of_cell; here = same_within c'.n b.position q v ((apart_cell c' cell').within b h.of_cell) k.within is; one_name = r.one_name; one_moment = r.moment }

-- where the image is no position in units of 1/n', no atom is there
pub no_image : (c c' : Structure) (w : Matrix) (t : Triple) (l : Matrix) (a : Atom) → IsBetweenPlaces c.n c'.n w t a.position → HasAtomImage c c' w t l a → ⊥
no_image c c' w t l a none h = none (sum_of h.atom.position (multiple (pos c'.n) h.carried.cells)) h.carried.position

-- the matrix that acts on moments has small entries too
pub moment_matrix_small : (kind : MomentKind) (w : Matrix) (s : Sign) → EntriesAtMost 1 w → determinant w *ℤ determinant w ≡ pos 1 → EntriesAtMost 1 (moment_matrix kind w (sign_factor s))
unfolding moment_matrix
moment_matrix_small kind w s h one =
    unit_entries 1 (sign_factor s *ℤ axial_factor kind (determinant w)) (turn_matrix kind w) (unit_product (sign_factor s) (axial_factor kind (determinant w)) (sign_squared s) (axial_factor-unit kind (determinant w) one)) (turn_entries kind 1 w (omega arith) h)

-- where n q is the sum, n divides it
pub no_quotient : (n : ℕ) (d q sum : ℤ) → 1 ≤ n → d ≡ pos n → pos n *ℤ q ≡ sum → ((d ≡ pos 0 → ⊥) × ((x : ℤ) × (x *ℤ d ≡ sum)) → ⊥) → ⊥
no_quotient n d q sum h e is none = none ((λ z. omega (arith, ints, h, e, z)), (q, ap (λ x. q *ℤ x) e ∙ by_integers (q ∷ pos n ∷ []) (var 0 :* var 1) (var 1 :* var 0) refl ∙ is))
