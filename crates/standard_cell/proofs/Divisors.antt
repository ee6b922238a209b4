-- The least common denominator of all places, by a greatest common divisor. All places are in units of 1/e with e = h n d; of
-- these numerators and e the greatest common divisor is g, and e / g is the least common denominator.
use Rattle.std.proofs.Common.{◌≡◌, ℕ, ◌≤◌, ℤ, pos, negsuc, neg_ℤ, ◌+ℤ◌, ◌*ℤ◌, ◌<ℤ◌, ◌≤ℤ◌, [], ◌∷◌, ◌++◌, refl, sym, ◌∙◌, ap, subst, arith}
use Rattle.std.proofs.lemmas.Int.{ints}
use Rattle.lists.specs.Increasing.{IsMember}
use Rattle.matrix3.specs.Matrices as formulas
use Rattle.ring.specs.Ring.{var, con, quoted, ◌:+◌, ◌:-◌, ◌:*◌}
use Rattle.ring.proofs.IntOrder.{mul_pos, mul_nonneg, le_by}
use Rattle.matrix3.specs.Matrices.{entries, coordinates, matrix_of_variables, vector_of_variables}
use Rattle.crystal_spec.specs.Matrices.{Triple, Matrix, image, determinant, adjugate, multiple, sum_of, difference}
use Rattle.crystal_spec.specs.Crystals.{Atom, Structure}
use Rattle.crystal_spec.proofs.Identities.{by_integers, by_triples}
use Rattle.crystal_spec.specs.Cells.{DiffersByCells}
use Rattle.basis_spec.proofs.MatrixLaws.{multiple_swap, multiple-multiple}
use Rattle.basis_spec.proofs.Cancelling.{mul_cancel, multiple_cancel}
use Rattle.basis_spec.proofs.Positive.{pos_of_mul}
use Rattle.match_spec.specs.Points.{Point, point, IsPoint, IsWhole}
use Rattle.match_spec.proofs.Wholes.{whole_is, whole_plus, whole_minus, whole_times}
use Rattle.standard_cell.specs.BasisPlaces.{IsPlaceOf, IsCommonDenominator, IsLeastDenominator}
use Rattle.standard_cell.specs.PlaceDivisors.{source, full, place_of, cells_of, IsPlaceDivisor}
use Rattle.standard_cell.proofs.Links.{IsLink, link_moved, link_source, link_same, folded}
use Rattle.standard_cell.proofs.Placed.{two_cells}

module _ (c : Structure) (q : Matrix) (p : Point) (above : pos 0 <ℤ determinant q) (some : pos 0 <ℤ pos c.n) (is_p : IsPoint p) (first : Atom) (of_first : IsMember first c.atoms) where
  abbrev e : ℤ
  e = full q p (pos c.n)

  e_above : pos 0 <ℤ e
  e_above = mul_pos (determinant q) (pos c.n *ℤ p.denominator) above (mul_pos (pos c.n) p.denominator some is_p.positive)

  -- the place of a position some cells away
  place_away : (y a : Triple) (z : Triple) → y ≡ sum_of a (multiple (pos c.n) z) → place_of c q p y ≡ sum_of (place_of c q p a) (cells_of c q p z)
  place_away y a z is = ap (place_of c q p) is ∙ apart (pos c.n) p.denominator a z p.numerators
    where
      apart : (n d : ℤ) (a z u : Triple) → source q u d n (sum_of a (multiple n z)) ≡ sum_of (source q u d n a) (multiple (n *ℤ d) (image (adjugate q) z))
      apart n d a z u =
          let q' = matrix_of_variables 2 in
          let a' = vector_of_variables 11 in
          let z' = vector_of_variables 14 in
          let u' = vector_of_variables 17 in
          by_triples (n ∷ d ∷ entries (adjugate q) ++ coordinates a ++ coordinates z ++ coordinates u)
          (formulas.image quoted q' (formulas.difference quoted (formulas.multiple quoted (var 1) (formulas.sum_of quoted a' (formulas.multiple quoted (var 0) z'))) (formulas.multiple quoted (var 0) u')))
          (formulas.sum_of quoted (formulas.image quoted q' (formulas.difference quoted (formulas.multiple quoted (var 1) a') (formulas.multiple quoted (var 0) u'))) (formulas.multiple quoted (var 0 :* var 1) (formulas.image quoted q' z'))) refl

  -- where m times each place is whole, so is m times each numerator over e
  whole_place : (m : ℕ) → IsCommonDenominator c q p m → (a : Atom) (y : Triple) → IsMember a c.atoms → DiffersByCells c.n y a.position → IsWhole e (multiple (pos m) (place_of c q p y))
  whole_place m common a y of_cell apart =
      let v = place_of c q p y in
      let fold = folded e v e_above in
      let down = multiple (negsuc 0) fold.cells in
      let y' = sum_of y (multiple (pos c.n) (image q down)) in
      let linked : IsLink q p.numerators p.denominator (pos c.n) e fold.rest y' =
      subst (λ w. IsLink q p.numerators p.denominator (pos c.n) e w y') (sym fold.is) (link_moved q p.numerators p.denominator (pos c.n) e v y down (link_source q p.numerators p.denominator (pos c.n) y)) in
      let place : IsPlaceOf c q p a (point fold.rest e) = record {
        is_point = record { positive = e_above };
        in_cell = fold.in_cell;
        position = y';
        away = record { cells = sum_of apart.cells (image q down); is = ap (λ w. sum_of w (multiple (pos c.n) (image q down))) apart.is ∙ two_cells q (pos c.n) a.position apart.cells down };
        is = record { is = linked };
      } in
      whole_is e (multiple (pos m) v) (sum_of (multiple (pos m) fold.rest) (multiple e (multiple (pos m) fold.cells))) (opened v fold.rest fold.cells fold.is)
      (whole_plus e (multiple (pos m) fold.rest) (multiple e (multiple (pos m) fold.cells)) (common a (point fold.rest e) of_cell place) (whole_times e (multiple (pos m) fold.cells)))
    where
      opened : (v r f : Triple) → r ≡ sum_of v (multiple e (multiple (negsuc 0) f)) → multiple (pos m) v ≡ sum_of (multiple (pos m) r) (multiple e (multiple (pos m) f))
      opened v r f is = by_triples (pos m ∷ e ∷ coordinates v ++ coordinates f)
          (formulas.multiple quoted (var 0) (vector_of_variables 2))
          (formulas.sum_of quoted (formulas.multiple quoted (var 0) (formulas.sum_of quoted (vector_of_variables 2) (formulas.multiple quoted (var 1) (formulas.multiple quoted (con (negsuc 0)) (vector_of_variables 5))))) (formulas.multiple quoted (var 1) (formulas.multiple quoted (var 0) (vector_of_variables 5)))) refl
          ∙ ap (λ w. sum_of (multiple (pos m) w) (multiple e (multiple (pos m) f))) (sym is)

  itself : (n : ℤ) (x : Triple) → x ≡ sum_of x (multiple n (record { x = pos 0; y = pos 0; z = pos 0 }))
  itself n x = by_triples (n ∷ coordinates x) (vector_of_variables 1) (formulas.sum_of quoted (vector_of_variables 1) (formulas.multiple quoted (var 0) (record { x = con (pos 0); y = con (pos 0); z = con (pos 0) }))) refl

  module _ (g : ℤ) (h : IsPlaceDivisor c q p c.atoms g) (n : ℕ) (n_is : e ≡ g *ℤ pos n) where
    n_above : pos 0 <ℤ pos n
    n_above = pos_of_mul g (pos n) h.positive (subst (λ (z : ℤ). pos 0 <ℤ z) n_is e_above)

    common : IsCommonDenominator c q p n
    common a x of_cell place =
        let y = place.position in
        let w : IsWhole g (place_of c q p y) =
        whole_is g (place_of c q p y) (sum_of (place_of c q p a.position) (cells_of c q p place.away.cells)) (place_away y a.position place.away.cells place.away.is)
        (whole_plus g (place_of c q p a.position) (cells_of c q p place.away.cells) (h.places a of_cell) (h.steps place.away.cells)) in
        let same : multiple x.denominator (place_of c q p y) ≡ multiple e x.numerators =
        link_same q p.numerators p.denominator (pos c.n) e x.denominator (place_of c q p y) x.numerators y above is_p.positive some (link_source q p.numerators p.denominator (pos c.n) y) place.is.is in
        record {
          quotient = w.quotient;
          is = multiple_cancel g (multiple (pos n) x.numerators) (multiple x.denominator w.quotient) h.positive
              (multiple-multiple g (pos n) x.numerators ∙ ap (λ (z : ℤ). multiple z x.numerators) (sym n_is) ∙ sym same ∙ ap (multiple x.denominator) w.is ∙ multiple_swap x.denominator g w.quotient);
        }

    -- m g = e k and e = g n give m = n k
    quotient_of : (m : ℕ) (k : ℤ) → pos m *ℤ g ≡ e *ℤ k → pos m ≡ pos n *ℤ k
    quotient_of m k is = mul_cancel g (pos m) (pos n *ℤ k) h.positive
        (by_integers (g ∷ pos m ∷ []) (var 0 :* var 1) (var 1 :* var 0) refl ∙ is ∙ ap (λ (z : ℤ). z *ℤ k) n_is ∙ by_integers (g ∷ pos n ∷ k ∷ []) ((var 0 :* var 1) :* var 2) (var 0 :* (var 1 :* var 2)) refl)

    no_less : (m : ℕ) (k : ℤ) → pos 0 <ℤ pos m → pos m ≡ pos n *ℤ k → n ≤ m
    no_less m k m_above is = as_naturals (le_by (pos n) (pos m) (pos n *ℤ (k +ℤ neg_ℤ (pos 1)))
        (is ∙ by_integers (pos n ∷ k ∷ []) (var 0 :* var 1) (var 0 :+ var 0 :* (var 1 :- con (pos 1))) refl)
        (mul_nonneg (pos n) (k +ℤ neg_ℤ (pos 1)) natural (less k (pos_of_mul (pos n) k n_above (subst (λ (z : ℤ). pos 0 <ℤ z) is m_above)))))
      where
        natural : pos 0 ≤ℤ pos n
        natural = omega (arith, ints)

        less : (k : ℤ) → pos 0 <ℤ k → pos 0 ≤ℤ (k +ℤ neg_ℤ (pos 1))
        less k h = omega (arith, ints)

        as_naturals : pos n ≤ℤ pos m → n ≤ m
        as_naturals h = omega (arith, ints)

    -- e / g is the least common denominator
    pub least_denominator : IsLeastDenominator c q p n
    least_denominator = record { positive = n_above; common = common; least = least }
      where
        least : (m : ℕ) → pos 0 <ℤ pos m → IsCommonDenominator c q p m → n ≤ m
        least m m_above k =
            let places = λ (a : Atom) (i : IsMember a c.atoms). whole_place m k a a.position i (record { cells = record { x = pos 0; y = pos 0; z = pos 0 }; is = itself (pos c.n) a.position }) in
            let steps = λ (z : Triple).
            (let y = sum_of first.position (multiple (pos c.n) z) in
            whole_is e (multiple (pos m) (cells_of c q p z)) (difference (multiple (pos m) (place_of c q p y)) (multiple (pos m) (place_of c q p first.position)))
            (sym (ap (λ w. difference (multiple (pos m) w) (multiple (pos m) (place_of c q p first.position))) (place_away y first.position z refl) ∙ left (pos m) (place_of c q p first.position) (cells_of c q p z)))
            (whole_minus e (multiple (pos m) (place_of c q p y)) (multiple (pos m) (place_of c q p first.position)) (whole_place m k first y of_first (record { cells = z; is = refl })) (places first of_first))) in
            let r = h.greatest e (pos m) e_above (pos m, by_integers (pos m ∷ e ∷ []) (var 0 :* var 1) (var 1 :* var 0) refl) places steps in
            no_less m r.0 m_above (quotient_of m r.0 r.1)
          where
            left : (m : ℤ) (x y : Triple) → difference (multiple m (sum_of x y)) (multiple m x) ≡ multiple m y
            left m x y = by_triples (m ∷ coordinates x ++ coordinates y) (formulas.difference quoted (formulas.multiple quoted (var 0) (formulas.sum_of quoted (vector_of_variables 1) (vector_of_variables 4))) (formulas.multiple quoted (var 0) (vector_of_variables 1))) (formulas.multiple quoted (var 0) (vector_of_variables 4)) refl
