-- An operation of the symbol's group, whose image keeps the first crystal, keeps the standard cell, with its translation part
-- in the units of that cell.
use Rattle.std.proofs.Common.{◌≡◌, ℕ, ℤ, pos, negsuc, ◌*ℤ◌, ◌<ℤ◌, ◌∷◌, ◌++◌, refl, sym, ◌∙◌, ap, subst, arith}
use Rattle.std.proofs.lemmas.Int.{ints}
use Rattle.lists.specs.Increasing.{IsMember}
use Rattle.matrix3.specs.Matrices as formulas
use Rattle.ring.specs.Ring.{var, con, quoted, ◌:*◌}
use Rattle.matrix3.specs.Matrices.{entries, coordinates, matrix_of_variables, vector_of_variables}
use Rattle.crystal_spec.specs.Matrices.{Triple, Matrix, product, image, determinant, adjugate, multiple, sum_of, difference}
use Rattle.crystal_spec.specs.Moments.{turn_matrix}
use Rattle.crystal_spec.specs.Crystals.{Atom, Structure, Occupied, Keeps, KeepsMetric, IsPositive, position_after, moment_after}
use Rattle.crystal_spec.specs.Operations.{Operation, IsWithinCell, sign_factor}
use Rattle.crystal_spec.proofs.Identities.{by_triples, by_matrices}
use Rattle.crystal_spec.proofs.Isometries.{determinant-isometry, sign_squared}
use Rattle.crystal_spec.proofs.Images.{occupied_itself}
use Rattle.crystal_spec.proofs.Keeping.{ComesFrom, keeps_both_ways}
use Rattle.crystal_spec.proofs.Moments.{moment_after-turned}
use Rattle.positions.specs.Positions.{origin}
use Rattle.basis_spec.specs.Metrics.{metric_in}
use Rattle.crystal_spec.specs.Cells.{IsCell}
use Rattle.basis_spec.proofs.MatrixLaws.{metric_in-product, multiple-sum_of, sum_assoc, product_assoc}
use Rattle.basis_spec.proofs.Cancelling.{multiple_cancel}
use Rattle.basis_spec.proofs.Positive.{positive_metric_in}
use Rattle.basis_spec.proofs.Translations.{occupied_as, occupied_away, source}
use Rattle.match_spec.specs.Points.{Point, point, IsPoint, IsInCell}
use Rattle.match_spec.specs.Maps.{IsImage}
use Rattle.match_spec.proofs.Wholes.{cancel_left, not_zero}
use Rattle.match_spec.proofs.Invariants.{same_det}
use Rattle.standard_cell.specs.StandardCells.{IsStandard}
use Rattle.standard_cell.proofs.Links.{link_same, scaled_in_cell}
use Rattle.standard_cell.proofs.Linked.{Link, under, over}
use Rattle.standard_cell.proofs.Shifts.{IsShift, shift_of, link_carried}

-- V Q = Q W gives W adj(Q) = adj(Q) V
pub turned_back : (q v w : Matrix) → (determinant q ≡ pos 0 → ⊥) → product v q ≡ product q w → product w (adjugate q) ≡ product (adjugate q) v
turned_back q v w some e = cancel_left q _ _ some (sym (product_assoc q w (adjugate q)) ∙ ap (λ m. product m (adjugate q)) (sym e) ∙ around)
  where
    around : product (product v q) (adjugate q) ≡ product q (product (adjugate q) v)
    around =
        let v' = matrix_of_variables 0 in
        let q' = matrix_of_variables 9 in
        by_matrices (entries v ++ entries q) (formulas.product quoted (formulas.product quoted v' q') (formulas.adjugate quoted q')) (formulas.product quoted q' (formulas.product quoted (formulas.adjugate quoted q') v')) refl

-- a translation part within the cell over another denominator
pub within_scaled : (n : ℕ) (w t : Triple) → pos 0 <ℤ pos n → multiple (pos 12) w ≡ multiple (pos n) t → IsWithinCell 12 t → IsWithinCell n w
within_scaled n w t some e h =
    let r : IsInCell (point w (pos n)) = scaled_in_cell (pos 12) (pos n) t w (omega (arith, ints)) some (sym e) (record { x_low = h.x.0; x_high = h.x.1; y_low = h.y.0; y_high = h.y.1; z_low = h.z.0; z_high = h.z.1 }) in
    record { x = (r.x_low, r.x_high); y = (r.y_low, r.y_high); z = (r.z_low, r.z_high) }

-- the metric tensor of the standard cell is positive
pub standard_positive : (c s : Structure) (q : Matrix) (p : Point) → IsStandard c q p s → IsCell c → pos 0 <ℤ determinant q → IsPositive s.metric
standard_positive c s q p st cell above = subst IsPositive (sym st.metric) (positive_metric_in q c.metric cell.symmetric cell.positive above)

module _ (c s : Structure) (q : Matrix) (p : Point) (st : IsStandard c q p s) (above : pos 0 <ℤ determinant q) (is_p : IsPoint p) (cell : IsCell c)
    (b found : Operation) (im : IsImage q p (pos c.n) b found) (keeps : Keeps c found.matrix found.translation (sign_factor found.sign)) where
  abbrev some : pos 0 <ℤ pos c.n
  some = cell.some_cells

  abbrev v : Matrix
  v = found.matrix

  abbrev w : Matrix
  w = b.matrix

  abbrev sign : ℤ
  sign = sign_factor found.sign

  abbrev cells : Triple
  cells = im.translation.whole.quotient

  -- the translation part of the image, with its whole cells
  abbrev t : Triple
  t = sum_of found.translation (multiple (pos c.n) cells)

  shift : IsShift q v p.numerators p.denominator (pos c.n) (pos 12) b.translation t
  shift = shift_of q v p (pos c.n) (pos 12) b.translation found.translation is_p.positive im.translation

  not_none : determinant q ≡ pos 0 → ⊥
  not_none = not_zero (determinant q) above

  twelve_above : pos 0 <ℤ pos 12
  twelve_above = omega (arith, ints)

  two_factors : (m : ℤ) (x : Triple) → multiple (pos 12 *ℤ m) x ≡ multiple m (multiple (pos 12) x)
  two_factors m x = by_triples (m ∷ coordinates x) (formulas.multiple quoted (con (pos 12) :* var 0) (vector_of_variables 1)) (formulas.multiple quoted (var 0) (formulas.multiple quoted (con (pos 12)) (vector_of_variables 1))) refl

  -- the place to which the operation takes a place, in units of 1 / 12 n
  twelve_of : (x y x1 : Triple) → Link c s q p st above some is_p x y → Link c s q p st above some is_p x1 (sum_of (image v y) t) → multiple (pos 12) x1 ≡ sum_of (multiple (pos 12) (image w x)) (multiple (pos s.n) b.translation)
  twelve_of x y x1 link next =
      multiple_cancel (pos s.n) _ _ st.n.positive (sym (two_factors (pos s.n) x1)
      ∙ link_same q p.numerators p.denominator (pos c.n) (pos s.n) (pos 12 *ℤ pos s.n) x1 _ (sum_of (image v y) t) above is_p.positive some next
      (link_carried q v w p.numerators p.denominator (pos c.n) (pos s.n) (pos 12) x y b.translation t im.matrix shift link))

  -- the image of an atom of the first crystal
  moved : (species : ℕ) (y m : Triple) → Occupied c species y m → Occupied c species (sum_of (image v y) t) (moment_after c.kind v sign m)
  moved species y m o =
      occupied_as c species (sum_assoc (image v y) found.translation (multiple (pos c.n) cells)) refl
      (occupied_away c species (position_after v found.translation y) (moment_after c.kind v sign m) cells ((keeps.crystal species y m).0 o))

  carried_moment : (m : Triple) → moment_after c.kind w sign (image (turn_matrix c.kind (adjugate q)) m) ≡ image (turn_matrix c.kind (adjugate q)) (moment_after c.kind v sign m)
  carried_moment m = moment_after-turned c.kind w v (adjugate q) sign (turned_back q v w not_none im.matrix) (sym (same_det q v w not_none im.matrix)) m

  standard_moment : (l m : Triple) → l ≡ image (turn_matrix c.kind (adjugate q)) m → moment_after s.kind w sign l ≡ image (turn_matrix c.kind (adjugate q)) (moment_after c.kind v sign m)
  standard_moment l m e = (λ i. moment_after (st.kind i) w sign (e i)) ∙ carried_moment m

  record Landed (species : ℕ) (x l : Triple) : Type 0 where
    position : Triple
    twelve : multiple (pos 12) position ≡ sum_of (multiple (pos 12) (image w x)) (multiple (pos s.n) b.translation)
    occupied : Occupied s species position (moment_after s.kind w sign l)

  landed : (species : ℕ) (x l : Triple) → Occupied s species x l → Landed species x l
  landed species x l o =
      let u = under c s q p st above some is_p species x l o in
      let r = over c s q p st above some is_p species (sum_of (image v u.position) t) (moment_after c.kind v sign u.moment) (moved species u.position u.moment u.occupied) in
      record {
        position = r.position;
        twelve = twelve_of x u.position r.position u.link r.link;
        occupied = occupied_as s species refl (sym (standard_moment l u.moment u.moment_is)) r.occupied;
      }

  -- the translation part in units of 1 / n
  record IsPart (part : Triple) : Type 0 where
    is : multiple (pos 12) part ≡ multiple (pos s.n) b.translation

  part_of : (part : Triple) × IsPart part
  part_of =
      let a = over c s q p st above some is_p cell.first.species cell.first.position cell.first.moment (occupied_itself c cell.first cell.of_cell) in
      let r = landed cell.first.species a.position (image (turn_matrix c.kind (adjugate q)) cell.first.moment) a.occupied in
      (difference r.position (image w a.position), record { is = spread r.position (image w a.position) ∙ ap (λ x. difference x (multiple (pos 12) (image w a.position))) r.twelve ∙ left (multiple (pos 12) (image w a.position)) (multiple (pos s.n) b.translation) })
    where
      spread : (x y : Triple) → multiple (pos 12) (difference x y) ≡ difference (multiple (pos 12) x) (multiple (pos 12) y)
      spread x y = by_triples (coordinates x ++ coordinates y) (formulas.multiple quoted (con (pos 12)) (formulas.difference quoted (vector_of_variables 0) (vector_of_variables 3))) (formulas.difference quoted (formulas.multiple quoted (con (pos 12)) (vector_of_variables 0)) (formulas.multiple quoted (con (pos 12)) (vector_of_variables 3))) refl

      left : (x y : Triple) → difference (sum_of x y) x ≡ y
      left x y = by_triples (coordinates x ++ coordinates y) (formulas.difference quoted (formulas.sum_of quoted (vector_of_variables 0) (vector_of_variables 3)) (vector_of_variables 0)) (vector_of_variables 3) refl

  metric_kept : KeepsMetric s.metric w
  metric_kept = ap (metric_in w) st.metric ∙ sym (metric_in-product q w c.metric) ∙ ap (λ a. metric_in a c.metric) (sym im.matrix) ∙ metric_in-product v q c.metric ∙ ap (metric_in q) keeps.metric ∙ sym st.metric

  module _ (part : Triple) (is_part : IsPart part) where
    follows : (x x1 : Triple) → multiple (pos 12) x1 ≡ sum_of (multiple (pos 12) (image w x)) (multiple (pos s.n) b.translation) → x1 ≡ position_after w part x
    follows x x1 e = multiple_cancel (pos 12) x1 (position_after w part x) twelve_above (e ∙ ap (sum_of (multiple (pos 12) (image w x))) (sym is_part.is) ∙ sym (multiple-sum_of (pos 12) (image w x) part))

    came : (a : Atom) → IsMember a s.atoms → ComesFrom s w part sign a
    came a m =
        let u = under c s q p st above some is_p a.species a.position a.moment (occupied_itself s a m) in
        let f = source c.kind v t sign (determinant-isometry c.metric v cell.positive keeps.metric) (sign_squared found.sign) u.position u.moment in
        let back_at : sum_of u.position (multiple (pos c.n) (multiple (negsuc 0) cells)) ≡ position_after v found.translation f.old_position =
        ap (λ x. sum_of x (multiple (pos c.n) (multiple (negsuc 0) cells))) (sym f.position_is) ∙ there (pos c.n) (image v f.old_position) found.translation cells in
        let before = (keeps.crystal a.species f.old_position f.old_moment).1 (occupied_as c a.species back_at (sym f.moment_is) (occupied_away c a.species u.position u.moment (multiple (negsuc 0) cells) u.occupied)) in
        let r = over c s q p st above some is_p a.species f.old_position f.old_moment before in
        let link = subst (λ y. Link c s q p st above some is_p a.position y) (sym f.position_is) u.link in
        record {
          position = r.position;
          moment = image (turn_matrix c.kind (adjugate q)) f.old_moment;
          cells = origin;
          occupied = r.occupied;
          onto = sym (follows r.position a.position (twelve_of r.position f.old_position a.position r.link link)) ∙ none (pos s.n) a.position;
          as_moment = standard_moment (image (turn_matrix c.kind (adjugate q)) f.old_moment) f.old_moment refl ∙ ap (image (turn_matrix c.kind (adjugate q))) f.moment_is ∙ sym u.moment_is;
        }
      where
        there : (n : ℤ) (y t z : Triple) → sum_of (sum_of y (sum_of t (multiple n z))) (multiple n (multiple (negsuc 0) z)) ≡ sum_of y t
        there n y t z =
            by_triples (n ∷ coordinates y ++ coordinates t ++ coordinates z)
            (formulas.sum_of quoted (formulas.sum_of quoted (vector_of_variables 1) (formulas.sum_of quoted (vector_of_variables 4) (formulas.multiple quoted (var 0) (vector_of_variables 7)))) (formulas.multiple quoted (var 0) (formulas.multiple quoted (con (negsuc 0)) (vector_of_variables 7))))
            (formulas.sum_of quoted (vector_of_variables 1) (vector_of_variables 4)) refl

        none : (n : ℤ) (x : Triple) → x ≡ sum_of x (multiple n origin)
        none n x = by_triples (n ∷ coordinates x) (vector_of_variables 1) (formulas.sum_of quoted (vector_of_variables 1) (formulas.multiple quoted (var 0) (record { x = con (pos 0); y = con (pos 0); z = con (pos 0) }))) refl

    kept : Keeps s w part sign
    kept = keeps_both_ways s w part sign (standard_positive c s q p st cell above) (sign_squared found.sign) metric_kept
        (λ a m. let r = landed a.species a.position a.moment (occupied_itself s a m) in occupied_as s a.species (follows a.position r.position r.twelve) refl r.occupied)
        came

  -- the operation in the units of the standard cell
  pub record Moved : Type 0 where
    pub part : Triple
    pub part_is : multiple (pos 12) part ≡ multiple (pos s.n) b.translation
    pub holds : Keeps s w part sign

  pub moved_operation : Moved
  moved_operation = record { part = part_of.0; part_is = part_of.1.is; holds = kept part_of.0 part_of.1 }
