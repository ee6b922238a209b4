-- What the atom at a carried position says of the infinite crystal.
use Rattle.std.proofs.Common.{◌≡◌, refl, sym, ap, subst, ◌∙◌, inl, inr, ℕ, List, [], ◌∷◌}
use Rattle.std.specs.Prelude.{ℤ, pos, ◌*ℤ◌, ◌↔◌, slice_get, Some}
use Rattle.lists.specs.Increasing.{IsMember}
use Rattle.lists.proofs.Members.{member_at}
use Rattle.crystal_spec.specs.Matrices.{Matrix, Triple, multiple, sum_of}
use Rattle.crystal_spec.specs.Moments.{moment_matrix}
use Rattle.crystal_spec.specs.Crystals.{Atom, Structure, Occupied, Keeps, KeepsMetric}
use Rattle.crystal_spec.proofs.Images.{occupant_within, keeps_by_images, images_of_keeps}
use Rattle.crystal.specs.Occupants.{IsOccupant, NoneAt}
use Rattle.crystal.specs.Cells.{IsCellWithinLimits}
use Rattle.crystal.specs.Images.{HasImage, HaveImages}
use Rattle.positions.specs.Positions.{modulo, IsModulo}
use Rattle.positions.proofs.Residues.{is_modulo}
use Rattle.crystal.proofs.CellLemmas.{apart_cell, none_member}

-- where an atom of the cell is at the position within the cell, that atom decides
pub occupied_at : {T : Type 0} (c : Structure) → IsCellWithinLimits c → (s : ℕ) (p m q : Triple) (i : ℕ) (b : Atom) → q ≡ modulo c.n p → IsOccupant c.atoms q i → slice_get c.atoms i ≡ Some b →
    T ↔ ((b.species ≡ s) × (b.moment ≡ m)) → T ↔ Occupied c s p m
occupied_at {T} c cell s p m q i b at o e test = (forth, back)
  where
    f : IsModulo c.n p q
    f = is_modulo c.n p q cell.n_at_least at

    same : o.atom ≡ b
    same = let k : Some o.atom ≡ Some b = sym o.numbered ∙ e in cc k

    here : b.position ≡ q
    here = ap (λ (a : Atom). a.position) (sym same) ∙ o.here

    forth : T → Occupied c s p m
    forth t = record {
      atom = b;
      of_cell = member_at c.atoms i b e;
      same_species = (test.0 t).0;
      same_moment = (test.0 t).1;
      cells = f.cells;
      same_position = f.same ∙ ap (λ (v : Triple). sum_of v (multiple (pos c.n) f.cells)) (sym here);
    }

    back : Occupied c s p m → T
    back k =
        let within = occupant_within c (apart_cell c cell) s p q m f.cells f.within f.same k in
        let one = (apart_cell c cell).told b k.atom (member_at c.atoms i b e) k.of_cell (here ∙ sym within) in
        test.1 (ap (λ (a : Atom). a.species) one ∙ k.same_species, ap (λ (a : Atom). a.moment) one ∙ k.same_moment)

-- where no atom is there, the position is not occupied
pub unoccupied_at : (c : Structure) → IsCellWithinLimits c → (s : ℕ) (p m q : Triple) → q ≡ modulo c.n p → NoneAt q c.atoms → Occupied c s p m → ⊥
unoccupied_at c cell s p m q at none k =
    let f = is_modulo c.n p q cell.n_at_least at in
    none_member q c.atoms k.atom none k.of_cell (occupant_within c (apart_cell c cell) s p q m f.cells f.within f.same k)

pub image_member : (c : Structure) (w : Matrix) (t : Triple) (l : Matrix) (xs : List Atom) (a : Atom) → HaveImages c w t l xs → IsMember a xs → HasImage c w t l a
image_member c w t l [] a h m = absurd m
image_member c w t l (x ∷ xs) a h (inl e) = subst (HasImage c w t l) (sym e) h.0
image_member c w t l (x ∷ xs) a h (inr m) = image_member c w t l xs a h.1 m

all_images : (c : Structure) (w : Matrix) (t : Triple) (l : Matrix) (xs : List Atom) → ((a : Atom) → IsMember a xs → HasImage c w t l a) → HaveImages c w t l xs
all_images c w t l [] h = tt
all_images c w t l (x ∷ xs) h = (h x (inl refl), all_images c w t l xs (λ a m. h a (inr m)))

-- a map keeps the crystal of a cell where it keeps the metric tensor and each atom has an image
pub keeps_exactly : {T : Type 0} (c : Structure) (w : Matrix) (t : Triple) (sign : ℤ) → IsCellWithinLimits c → sign *ℤ sign ≡ pos 1 → KeepsMetric c.metric w → T ↔ HaveImages c w t (moment_matrix c.kind w sign) c.atoms → T ↔ Keeps c w t sign
keeps_exactly c w t sign cell s k test = (
  (λ h. keeps_by_images c w t sign (apart_cell c cell) cell.positive s k (λ a m. image_member c w t (moment_matrix c.kind w sign) c.atoms a (test.0 h) m)),
  (λ h. test.1 (all_images c w t (moment_matrix c.kind w sign) c.atoms (images_of_keeps c w t sign h))),
)
