-- Translations of the infinite crystal, and what maps do to them.
--
-- A map that keeps the crystal takes translations to translations: each position and moment is the image of one, by the
-- adjugate, since the determinant of an isometry is 1 or -1; and the image of p + t is that of p, moved by W t.
use Rattle.std.proofs.Common.{◌≡◌, ℕ, ℤ, pos, negsuc, ◌*ℤ◌, refl, sym, ap, subst, ◌∙◌}
use Rattle.crystal_spec.specs.declared.MomentKind.{MomentKind}
use Rattle.crystal_spec.specs.Matrices.{Triple, Matrix, image, determinant, adjugate, multiple, sum_of, identity}
use Rattle.crystal_spec.specs.Crystals.{Structure, Occupied, Keeps, position_after, moment_after, IsPositive}
use Rattle.crystal_spec.specs.Cells.{DiffersByCells}
use Rattle.basis_spec.specs.Translations.{IsTranslation}
use Rattle.basis_spec.proofs.MatrixLaws.{image-identity, image-multiple, image-sum_of, image-image_adjugate, multiple-multiple, multiple-sum_of, sum_assoc, sum_swap, subtract_add, metric_in-identity}
use Rattle.crystal_spec.proofs.Isometries.{determinant-isometry, multiple-one}
use Rattle.crystal_spec.proofs.Moments.{moment_after-identity, moment_source}

-- occupied, at equal places and moments
pub occupied_as : (c : Structure) (s : ℕ) {p q m l : Triple} → p ≡ q → m ≡ l → Occupied c s p m → Occupied c s q l
occupied_as c s {p} {q} {m} {l} e f o = subst (λ (v : Triple). Occupied c s q v) f (subst (λ (v : Triple). Occupied c s v m) e o)

-- an occupied position is whole cells away from an atom of the cell
pub atom_away : {c : Structure} {s : ℕ} {p m : Triple} (o : Occupied c s p m) → DiffersByCells c.n p o.atom.position
atom_away o = record { cells = o.cells; is = o.same_position }

-- an atom is at all positions that are whole cells away
pub occupied_away : (c : Structure) (s : ℕ) (p m d : Triple) → Occupied c s p m → Occupied c s (sum_of p (multiple (pos c.n) d)) m
occupied_away c s p m d o = record {
  atom = o.atom;
  of_cell = o.of_cell;
  same_species = o.same_species;
  same_moment = o.same_moment;
  cells = sum_of o.cells d;
  same_position = ap (λ v. sum_of v (multiple (pos c.n) d)) o.same_position ∙ sum_assoc o.atom.position (multiple (pos c.n) o.cells) (multiple (pos c.n) d)
      ∙ ap (sum_of o.atom.position) (sym (multiple-sum_of (pos c.n) o.cells d));
}

-- a translation moves positions
pub position_translated : (t p : Triple) → position_after identity t p ≡ sum_of p t
position_translated t p = ap (λ v. sum_of v t) (image-identity p)

-- the determinant of the identity
pub determinant-identity : determinant identity ≡ pos 1
determinant-identity = refl

-- a translation of the crystal moves atoms to atoms
pub moves : (c : Structure) (t : Triple) → IsTranslation c t → (s : ℕ) (p m : Triple) → Occupied c s p m → Occupied c s (sum_of p t) m
moves c t k s p m o = occupied_as c s (position_translated t p) (moment_after-identity c.kind m) ((k.crystal s p m).0 o)

-- and what it moves to atoms are atoms
pub moves_back : (c : Structure) (t : Triple) → IsTranslation c t → (s : ℕ) (p m : Triple) → Occupied c s (sum_of p t) m → Occupied c s p m
moves_back c t k s p m o = (k.crystal s p m).1 (occupied_as c s (sym (position_translated t p)) (sym (moment_after-identity c.kind m)) o)

-- a translation, from what it does to the crystal
pub is_translation : (c : Structure) (t : Triple) → ((s : ℕ) (p m : Triple) → Occupied c s p m → Occupied c s (sum_of p t) m) → ((s : ℕ) (p m : Triple) → Occupied c s (sum_of p t) m → Occupied c s p m) → IsTranslation c t
is_translation c t f g = record {
  metric = metric_in-identity c.metric;
  crystal = λ s p m. (
    (λ o. occupied_as c s (sym (position_translated t p)) (sym (moment_after-identity c.kind m)) (f s p m o)),
    (λ o. g s p m (occupied_as c s (position_translated t p) (moment_after-identity c.kind m) o)),
  );
}

-- ---- each position and moment is the image of one
pub record Source (kind : MomentKind) (w : Matrix) (translation : Triple) (sign : ℤ) (position moment : Triple) : Type 0 where
  pub old_position : Triple
  pub old_moment : Triple
  pub position_is : position_after w translation old_position ≡ position
  pub moment_is : moment_after kind w sign old_moment ≡ moment

-- each position and moment is the image of one, where determinant and sign have the square 1
pub source : (kind : MomentKind) (w : Matrix) (translation : Triple) (sign : ℤ) → determinant w *ℤ determinant w ≡ pos 1 → sign *ℤ sign ≡ pos 1 → (q l : Triple) → Source kind w translation sign q l
source kind w t sign one two q l =
    let h = determinant w in
    let a = adjugate w in
    let u = sum_of q (multiple (negsuc 0) t) in
    let before = moment_source kind w sign two one l in
    record {
      old_position = multiple h (image a u);
      old_moment = before.0;
      position_is = ap (λ v. sum_of v t) (image-multiple w h (image a u) ∙ ap (multiple h) (image-image_adjugate w u) ∙ multiple-multiple h h u ∙ ap (λ b. multiple b u) one ∙ multiple-one u) ∙ subtract_add q t;
      moment_is = before.1;
    }

-- W(p + t) + w is Wt on from Wp + w
pub position_after-sum_of : (w : Matrix) (translation p t : Triple) → position_after w translation (sum_of p t) ≡ sum_of (position_after w translation p) (image w t)
position_after-sum_of w translation p t = ap (λ v. sum_of v translation) (image-sum_of w p t) ∙ sum_swap (image w p) (image w t) translation

-- what keeps the crystal takes its translations to translations
pub translation_carried : (c : Structure) (w : Matrix) (translation : Triple) (sign : ℤ) → IsPositive c.metric → sign *ℤ sign ≡ pos 1 → Keeps c w translation sign → (t : Triple) → IsTranslation c t → IsTranslation c (image w t)
translation_carried c w translation sign p two k t is = is_translation c (image w t) forth back
  where
    forth : (s : ℕ) (q l : Triple) → Occupied c s q l → Occupied c s (sum_of q (image w t)) l
    forth s q l o =
        let f = source c.kind w translation sign (determinant-isometry c.metric w p k.metric) two q l in
        let before = (k.crystal s f.old_position f.old_moment).1 (occupied_as c s (sym f.position_is) (sym f.moment_is) o) in
        occupied_as c s (position_after-sum_of w translation f.old_position t ∙ ap (λ v. sum_of v (image w t)) f.position_is) f.moment_is
        ((k.crystal s (sum_of f.old_position t) f.old_moment).0 (moves c t is s f.old_position f.old_moment before))

    back : (s : ℕ) (q l : Triple) → Occupied c s (sum_of q (image w t)) l → Occupied c s q l
    back s q l o =
        let f = source c.kind w translation sign (determinant-isometry c.metric w p k.metric) two q l in
        let after = (k.crystal s (sum_of f.old_position t) f.old_moment).1 (occupied_as c s (sym (position_after-sum_of w translation f.old_position t ∙ ap (λ v. sum_of v (image w t)) f.position_is)) (sym f.moment_is) o) in
        occupied_as c s f.position_is f.moment_is ((k.crystal s f.old_position f.old_moment).0 (moves_back c t is s f.old_position f.old_moment after))
