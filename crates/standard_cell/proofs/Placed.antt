-- A position of the infinite crystal and its place within one cell of the new basis.
use Rattle.std.proofs.Common.{◌≡◌, ℕ, ℤ, pos, negsuc, ◌*ℤ◌, ◌<ℤ◌, ◌∷◌, ◌++◌, refl, sym, ◌∙◌, ap, subst}
use Rattle.lists.specs.Increasing.{IsMember}
use Rattle.matrix3.specs.Matrices as formulas
use Rattle.ring.specs.Ring.{var, con, quoted}
use Rattle.ring.proofs.IntOrder.{mul_pos}
use Rattle.matrix3.specs.Matrices.{entries, coordinates, matrix_of_variables, vector_of_variables}
use Rattle.crystal_spec.specs.Matrices.{Triple, Matrix, image, determinant, multiple, sum_of}
use Rattle.crystal_spec.specs.Crystals.{Atom, Structure}
use Rattle.crystal_spec.proofs.Identities.{by_triples}
use Rattle.crystal_spec.specs.Cells.{DiffersByCells}
use Rattle.match_spec.specs.Points.{Point, point, IsPoint}
use Rattle.standard_cell.specs.BasisPlaces.{IsPlaceOf, IsCommonDenominator}
use Rattle.standard_cell.proofs.Links.{IsLink, source, link_moved, link_source, link_scale, folded, scaled_in_cell}

-- whole cells of the old basis, and the image of cells of the new one
pub two_cells : (q : Matrix) (n : ℤ) (a k f : Triple) → sum_of (sum_of a (multiple n k)) (multiple n (image q f)) ≡ sum_of a (multiple n (sum_of k (image q f)))
two_cells q n a k f =
    let a' = vector_of_variables 1 in
    let k' = vector_of_variables 4 in
    let f' = vector_of_variables 7 in
    let q' = matrix_of_variables 10 in
    by_triples (n ∷ coordinates a ++ coordinates k ++ coordinates f ++ entries q)
    (formulas.sum_of quoted (formulas.sum_of quoted a' (formulas.multiple quoted (var 0) k')) (formulas.multiple quoted (var 0) (formulas.image quoted q' f')))
    (formulas.sum_of quoted a' (formulas.multiple quoted (var 0) (formulas.sum_of quoted k' (formulas.image quoted q' f')))) refl

there_again : (q : Matrix) (n : ℤ) (y f : Triple) → sum_of (sum_of y (multiple n (image q (multiple (negsuc 0) f)))) (multiple n (image q f)) ≡ y
there_again q n y f =
    let y' = vector_of_variables 1 in
    let f' = vector_of_variables 4 in
    let q' = matrix_of_variables 7 in
    by_triples (n ∷ coordinates y ++ coordinates f ++ entries q)
    (formulas.sum_of quoted (formulas.sum_of quoted y' (formulas.multiple quoted (var 0) (formulas.image quoted q' (formulas.multiple quoted (con (negsuc 0)) f')))) (formulas.multiple quoted (var 0) (formulas.image quoted q' f'))) y' refl

module _ (c : Structure) (q : Matrix) (p : Point) (m : ℕ) (positive : pos 0 <ℤ pos m) (common : IsCommonDenominator c q p m) (above : pos 0 <ℤ determinant q) (some : pos 0 <ℤ pos c.n) (is_p : IsPoint p) where
  -- the place X / m, and the cells of the new basis between it and that of y
  pub record Placed (a : Atom) (y : Triple) : Type 0 where
    pub rest : Triple
    pub cells : Triple
    pub place : IsPlaceOf c q p a (point rest (pos m))
    pub link : IsLink q p.numerators p.denominator (pos c.n) (pos m) (sum_of rest (multiple (pos m) cells)) y

  pub placed : (a : Atom) (y : Triple) → IsMember a c.atoms → DiffersByCells c.n y a.position → Placed a y
  placed a y of_cell apart =
      let e = determinant q *ℤ (pos c.n *ℤ p.denominator) in
      let e_above : pos 0 <ℤ e = mul_pos (determinant q) (pos c.n *ℤ p.denominator) above (mul_pos (pos c.n) p.denominator some is_p.positive) in
      let v = source q p.numerators p.denominator (pos c.n) y in
      let fold = folded e v e_above in
      let down = multiple (negsuc 0) fold.cells in
      let y' = sum_of y (multiple (pos c.n) (image q down)) in
      let linked : IsLink q p.numerators p.denominator (pos c.n) e fold.rest y' =
      subst (λ w. IsLink q p.numerators p.denominator (pos c.n) e w y') (sym fold.is) (link_moved q p.numerators p.denominator (pos c.n) e v y down (link_source q p.numerators p.denominator (pos c.n) y)) in
      let away : DiffersByCells c.n y' a.position = record { cells = sum_of apart.cells (image q down); is = ap (λ w. sum_of w (multiple (pos c.n) (image q down))) apart.is ∙ two_cells q (pos c.n) a.position apart.cells down } in
      let first : IsPlaceOf c q p a (point fold.rest e) = record { is_point = record { positive = e_above }; in_cell = fold.in_cell; position = y'; away = away; is = record { is = linked } } in
      let whole = common a (point fold.rest e) of_cell first in
      let link_x : IsLink q p.numerators p.denominator (pos c.n) (pos m) whole.quotient y' = link_scale q p.numerators p.denominator (pos c.n) e (pos m) fold.rest whole.quotient y' e_above whole.is linked in
      record {
        rest = whole.quotient;
        cells = fold.cells;
        place = record { is_point = record { positive = positive }; in_cell = scaled_in_cell e (pos m) fold.rest whole.quotient e_above positive whole.is fold.in_cell; position = y'; away = away; is = record { is = link_x } };
        link = subst (λ w. IsLink q p.numerators p.denominator (pos c.n) (pos m) (sum_of whole.quotient (multiple (pos m) fold.cells)) w) (there_again q (pos c.n) y fold.cells) (link_moved q p.numerators p.denominator (pos c.n) (pos m) whole.quotient y' fold.cells link_x);
      }
