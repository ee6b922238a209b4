-- Where operations carry positions, but for whole cells.
--   carries_as      whole cells at either position do not matter
--   image_of, carries_of   an operation carries p to q exactly where the image of p modulo n is q modulo n
use Rattle.std.proofs.Common.{◌≡◌, refl, sym, ap, subst, ◌∙◌, ℕ, pos, ◌<ℤ◌, List, map}
use Rattle.std.specs.Prelude.{◌↔◌}
use Rattle.lists.specs.Increasing.{IsMember}
use Rattle.lists.proofs.Members.{mapped_from, mapped_member}
use Rattle.crystal_spec.specs.Matrices.{Triple, image}
use Rattle.crystal_spec.specs.Crystals.{position_after}
use Rattle.crystal_spec.specs.Operations.{Operation, IsWithinCell}
use Rattle.crystal_spec.specs.Cells.{DiffersByCells}
use Rattle.crystal_spec.proofs.Keeping.{carried_cells}
use Rattle.positions.specs.Positions.{modulo}
use Rattle.basis_spec.proofs.PrimitiveCell.{differs_sym, differs_trans, differs_at, differs_itself}
use Rattle.basis_spec.proofs.PureTranslations.{translations_same, residues_same}
use Rattle.positions.proofs.Residues.{modulo_away, modulo_within}
use Rattle.site_orbits.specs.Orbits.{Carries, IsAlike, IsFixedBy}
use Rattle.site_orbits.specs.Images.{image_within}

-- an operation carries positions that differ by whole cells to such
pub moved_differs : (o : Operation) {n : ℕ} {p q : Triple} → DiffersByCells n p q → DiffersByCells n (position_after o.matrix o.translation p) (position_after o.matrix o.translation q)
moved_differs o {n} {p} {q} d = record {
  cells = image o.matrix d.cells;
  is = ap (position_after o.matrix o.translation) d.is ∙ carried_cells o.matrix o.translation q d.cells (pos n);
}

pub carries_as : (o : Operation) {n : ℕ} {p p' q q' : Triple} → DiffersByCells n p p' → DiffersByCells n q q' → Carries n o p q → Carries n o p' q'
carries_as o d e h = differs_trans (differs_trans (moved_differs o (differs_sym d)) h) e

pub alike_as : (os : List Operation) {n : ℕ} {p p' q q' : Triple} → DiffersByCells n p p' → DiffersByCells n q q' → IsAlike n os p q → IsAlike n os p' q'
alike_as os d e h = record { operation = h.operation; of_list = h.of_list; carries = carries_as h.operation d e h.carries }

-- a position within the cell is itself modulo n
pub residue_itself : (n : ℕ) (p : Triple) → pos 0 <ℤ pos n → IsWithinCell n p → modulo n p ≡ p
residue_itself n p some within = translations_same n (modulo n p) p (modulo_within n p some) within (differs_sym (modulo_away n p some))

module _ (n : ℕ) (some : pos 0 <ℤ pos n) where
  pub image_of : (o : Operation) (p q : Triple) → Carries n o p q → image_within n (modulo n p) o ≡ modulo n q
  image_of o p q h = residues_same n (position_after o.matrix o.translation (modulo n p)) q some (carries_as o (modulo_away n p some) (differs_itself n q) h)

  pub carries_of : (o : Operation) (p q : Triple) → image_within n (modulo n p) o ≡ modulo n q → Carries n o p q
  carries_of o p q e =
      carries_as o (differs_sym (modulo_away n p some)) (differs_sym (modulo_away n q some))
      (differs_at refl e (modulo_away n (position_after o.matrix o.translation (modulo n p)) some))

  -- the images of p, modulo n, are the positions to which members carry it
  pub image_of_alike : (os : List Operation) (p q : Triple) → IsAlike n os p q → IsMember (modulo n q) (map (image_within n (modulo n p)) os)
  image_of_alike os p q h =
      subst (λ (v : Triple). IsMember v (map (image_within n (modulo n p)) os)) (image_of h.operation p q h.carries) (mapped_member (image_within n (modulo n p)) h.operation os h.of_list)

  pub alike_of_image : (os : List Operation) (p q : Triple) → IsMember (modulo n q) (map (image_within n (modulo n p)) os) → IsAlike n os p q
  alike_of_image os p q m =
      let r = mapped_from (image_within n (modulo n p)) (modulo n q) os m in
      record { operation = r.item; of_list = r.of_list; carries = carries_of r.item p q (sym r.is) }

  -- the operations that leave p modulo n carry it to itself
  pub fixed_exactly : (os : List Operation) (p : Triple) (o : Operation) → (IsMember o os × (image_within n (modulo n p) o ≡ modulo n p)) ↔ IsFixedBy n os p o
  fixed_exactly os p o = ((λ h. (h.0, carries_of o p p h.1)), (λ h. (h.0, image_of o p p h.1)))
