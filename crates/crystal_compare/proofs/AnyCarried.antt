-- A map with fractions in its matrix between two primitive crystals is a map in whole steps, with its translation part
-- modulo 1.
use Rattle.std.proofs.Common.{◌≡◌, ℕ, ◌≤◌, ℤ, pos, negsuc, ◌+ℤ◌, ◌*ℤ◌, neg_ℤ, ◌≤ℤ◌, ◌<ℤ◌, [], ◌∷◌, refl, sym, ap, ◌∙◌, arith}
use Rattle.std.proofs.lemmas.Int.{ints}
use Rattle.ring.specs.Ring.{var, ◌:*◌, ◌:+◌, opposite}
use Rattle.ring.proofs.IntOrder.{mul_pos}
use Rattle.numbers.specs.Fraction.{Fraction}
use Rattle.matrix3.specs.declared.vector.Vec3.{Vec3}
use Rattle.crystal_spec.specs.declared.Sign.{Sign}
use Rattle.crystal_spec.specs.Matrices.{Triple, Matrix, image, determinant, multiple, sum_of, difference}
use Rattle.crystal_spec.specs.Moments.{axial_factor, turn_matrix, divisor}
use Rattle.crystal_spec.specs.Crystals.{Structure, Occupied, moment_after}
use Rattle.crystal_spec.specs.Operations.{sign_factor}
use Rattle.crystal_spec.proofs.Entrywise.{triple_same}
use Rattle.crystal_spec.proofs.Identities.{by_integers}
use Rattle.crystal_spec.proofs.Images.{occupied_itself}
use Rattle.crystal_spec.proofs.Moments.{divisor-positive, moment_after-whole}
use Rattle.basis_spec.specs.Metrics.{matrix_multiple, metric_in}
use Rattle.basis_spec.specs.Maps.{sign_of}
use Rattle.crystal_spec.specs.Cells.{IsCell}
use Rattle.basis_spec.proofs.MatrixLaws.{image-matrix_multiple, multiple-multiple, multiple_swap, multiple-sum_of, sum_assoc, add_subtract, determinant-matrix_multiple, metric_in-matrix_multiple, matrix_multiple-twice}
use Rattle.basis_spec.proofs.Cancelling.{mul_cancel, multiple_cancel, matrix_multiple_cancel, sum_cancel}
use Rattle.basis_spec.proofs.PrimitiveCell.{cells_alone}
use Rattle.basis_spec.proofs.Translations.{occupied_away}
use Rattle.crystal.proofs.CellLemmas.{is_cell}
use Rattle.prim_cell.proofs.Moving.{some_cells}
use Rattle.basis_spec.proofs.WholeMaps.{sign_of_unit}
use Rattle.crystal_compare.specs.Maps.{CarriesMetric}
use Rattle.crystal_compare.specs.AnyMaps.{TakesAny}
use Rattle.crystal_compare.specs.Search.{Moves, MapsOnto, moments_of, shifted}
use Rattle.crystal_compare.proofs.WholeBetween as between
use Rattle.crystal_compare.proofs.Shifts.{IsRatio, AreRatios, moved_from, ratios_of, rest_of}
use Rattle.crystal_compare.proofs.Carried.{ArePrimitive, AnyInSteps, moment_is, product_nonzero, above_nonzero, multiple_nonzero, turn_nonzero, axial_nonzero, sign_nonzero, sign_of_nonzero, isometry_nonzero}

-- a translation part that differs by whole cells carries the crystal too
pub moves_near : (c c' : Structure) (w : Matrix) (t u v : Triple) (k : ℤ) (l : Matrix) → t ≡ sum_of u (multiple (pos c.n *ℤ pos c'.n) v) → Moves c c' w t (pos c.n) k l → Moves c c' w u (pos c.n) k l
moves_near c c' w t u v k l e h = record {
  images = λ s p m o. (let i = h.images s p m o in record {
    species = i.species;
    position = sum_of i.position (multiple (pos c'.n) (multiple (negsuc 0) v));
    moment = i.moment;
    occupied = occupied_away c' i.species i.position i.moment (multiple (negsuc 0) v) i.occupied;
    moved = record {
      one_name = i.moved.one_name;
      position = multiple-sum_of (pos c.n) i.position (multiple (pos c'.n) (multiple (negsuc 0) v))
          ∙ (λ j. sum_of (on p i.position i.moved.position j) (down j))
          ∙ add_subtract (sum_of (multiple (pos c'.n) (image w p)) u) (multiple (pos c.n *ℤ pos c'.n) v);
      moment = i.moved.moment;
    };
  });
  onto = λ r q g o. (let f = h.onto r (sum_of q (multiple (pos c'.n) v)) g (occupied_away c' r q g v o) in record {
    species = f.species;
    position = f.position;
    moment = f.moment;
    occupied = f.occupied;
    moved = record {
      one_name = f.moved.one_name;
      position = sum_cancel (multiple (pos c.n) q) (sum_of (multiple (pos c'.n) (image w f.position)) u) (multiple (pos c.n *ℤ pos c'.n) v)
          (ap (sum_of (multiple (pos c.n) q)) (sym (multiple-multiple (pos c.n) (pos c'.n) v)) ∙ sym (multiple-sum_of (pos c.n) q (multiple (pos c'.n) v)) ∙ on f.position (sum_of q (multiple (pos c'.n) v)) f.moved.position);
      moment = f.moved.moment;
    };
  });
}
  where
    on : (p q : Triple) → multiple (pos c.n) q ≡ sum_of (multiple (pos c'.n) (image w p)) t → multiple (pos c.n) q ≡ sum_of (sum_of (multiple (pos c'.n) (image w p)) u) (multiple (pos c.n *ℤ pos c'.n) v)
    on p q is = is ∙ ap (sum_of (multiple (pos c'.n) (image w p))) e ∙ sym (sum_assoc (multiple (pos c'.n) (image w p)) u (multiple (pos c.n *ℤ pos c'.n) v))

    down : multiple (pos c.n) (multiple (pos c'.n) (multiple (negsuc 0) v)) ≡ multiple (negsuc 0) (multiple (pos c.n *ℤ pos c'.n) v)
    down = multiple-multiple (pos c.n) (pos c'.n) (multiple (negsuc 0) v) ∙ multiple_swap (pos c.n *ℤ pos c'.n) (negsuc 0) v

module _ (c c' : Structure) (p : ArePrimitive c c') (b : Matrix) (f : Vec3 Fraction) (d : ℕ) (sign : Sign) (h : TakesAny c c' b f d sign) where
  first : IsCell c
  first = is_cell c p.cell

  n_above : pos 0 <ℤ pos c.n
  n_above = some_cells c p.cell

  n'_above : pos 0 <ℤ pos c'.n
  n'_above = some_cells c' p.cell'

  natural_above : (k : ℕ) → 1 ≤ k → pos 0 <ℤ pos k
  natural_above k e = omega (arith, ints, e)

  at_least_1 : (s : ℤ) → pos 1 ≤ℤ s → pos 0 <ℤ s
  at_least_1 s e = omega (arith, ints, e)

  d_above : pos 0 <ℤ pos d
  d_above = at_least_1 (pos d) h.some_parts

  square_above : pos 0 <ℤ (pos d *ℤ pos d)
  square_above = mul_pos (pos d) (pos d) d_above d_above

  factor : ℤ
  factor = sign_factor sign *ℤ axial_factor c.kind (sign_of (determinant b))

  seen : Occupied c first.first.species first.first.position first.first.moment
  seen = occupied_itself c first.first first.of_cell

  -- the translation part, in steps of 1/(n d n')
  t : Triple
  t = difference (multiple (pos c.n *ℤ pos d) (h.images first.first.species first.first.position first.first.moment seen).position) (multiple (pos c'.n) (image b first.first.position))

  ratios : AreRatios t ((pos c.n *ℤ pos d) *ℤ pos c'.n) f
  unfolding t
  ratios = ratios_of (image b first.first.position) (h.images first.first.species first.first.position first.first.moment seen).position (pos c.n *ℤ pos d) (pos c'.n) f h.denominators
      (h.images first.first.species first.first.position first.first.moment seen).is_image.position

  l : Matrix
  l = matrix_multiple (pos c'.k *ℤ factor) (turn_matrix c.kind b)

  moves : Moves c c' b t (pos c.n *ℤ pos d) (pos c.k *ℤ pos (divisor c.kind d)) l
  unfolding l factor
  moves = record {
    images = λ s q m o. (let i = h.images s q m o in record {
      species = i.species;
      position = i.position;
      moment = i.moment;
      occupied = i.occupied;
      moved = record {
        one_name = i.is_image.one_name;
        position = moved_from (image b q) t i.position (pos c.n *ℤ pos d) (pos c'.n) f ratios i.is_image.position;
        moment = i.is_image.moment ∙ sym (image-matrix_multiple (pos c'.k *ℤ factor) (turn_matrix c.kind b) m);
      };
    });
    onto = λ r q g o. (let i = h.onto r q g o in record {
      species = i.species;
      position = i.position;
      moment = i.moment;
      occupied = i.occupied;
      moved = record {
        one_name = i.is_image.one_name;
        position = moved_from (image b i.position) t q (pos c.n *ℤ pos d) (pos c'.n) f ratios i.is_image.position;
        moment = i.is_image.moment ∙ sym (image-matrix_multiple (pos c'.k *ℤ factor) (turn_matrix c.kind b) i.moment);
      };
    });
  }

  turns : determinant b ≡ pos 0 → ⊥
  turns = isometry_nonzero b c.metric c'.metric c.scale (c'.scale *ℤ (pos d *ℤ pos d)) (mul_pos c'.scale (pos d *ℤ pos d) (at_least_1 c'.scale p.cell'.scale_at_least) square_above) p.cell.positive h.metric

  l_turns : determinant l ≡ pos 0 → ⊥
  unfolding l factor
  l_turns = multiple_nonzero (pos c'.k *ℤ factor) (turn_matrix c.kind b)
      (product_nonzero (pos c'.k) factor (above_nonzero (pos c'.k) (natural_above c'.k p.cell'.k_at_least)) (product_nonzero (sign_factor sign) (axial_factor c.kind (sign_of (determinant b))) (sign_nonzero sign) (axial_nonzero c.kind (sign_of (determinant b)) (sign_of_nonzero (determinant b)))))
      (turn_nonzero c.kind b turns)

  divided_above : pos 0 <ℤ pos (divisor c.kind d)
  divided_above = divisor-positive c.kind d d_above

  k_above : pos 0 <ℤ (pos c.k *ℤ pos (divisor c.kind d))
  k_above = mul_pos (pos c.k) (pos (divisor c.kind d)) (natural_above c.k p.cell.k_at_least) divided_above

  e_above : pos 0 <ℤ (pos c.n *ℤ pos d)
  e_above = mul_pos (pos c.n) (pos d) n_above d_above

  whole : between.IsWhole b d
  whole = between.whole c c' b t (pos c.n *ℤ pos d) (pos c.k *ℤ pos (divisor c.kind d)) l moves e_above k_above l_turns turns p.cell.names_differ p.cell'.names_differ n_above n'_above d d_above refl first.first.species first.first.position first.first.moment seen (cells_alone c n_above p.primitive) (cells_alone c' n'_above p.primitive')

  w : Matrix
  w = whole.matrix

  b_is : b ≡ matrix_multiple (pos d) w
  unfolding w
  b_is = whole.is

  one : determinant w *ℤ determinant w ≡ pos 1
  unfolding w
  one = whole.unimodular

  metric : CarriesMetric c c' w
  metric = matrix_multiple_cancel (pos d *ℤ pos d) (matrix_multiple c.scale (metric_in w c'.metric)) (matrix_multiple c'.scale c.metric) square_above
      (matrix_multiple-twice (pos d *ℤ pos d) c.scale (metric_in w c'.metric) ∙ ap (λ x. matrix_multiple x (metric_in w c'.metric)) (by_integers (pos d ∷ c.scale ∷ []) ((var 0 :* var 0) :* var 1) (var 1 :* (var 0 :* var 0)) refl)
      ∙ sym (matrix_multiple-twice c.scale (pos d *ℤ pos d) (metric_in w c'.metric)) ∙ ap (matrix_multiple c.scale) (sym (metric_in-matrix_multiple (pos d) w c'.metric) ∙ ap (λ a. metric_in a c'.metric) (sym b_is))
      ∙ h.metric ∙ ap (λ x. matrix_multiple x c.metric) (by_integers (pos d ∷ c'.scale ∷ []) (var 1 :* (var 0 :* var 0)) ((var 0 :* var 0) :* var 1) refl) ∙ sym (matrix_multiple-twice (pos d *ℤ pos d) c'.scale c.metric))

  image_b : (v : Triple) → image b v ≡ multiple (pos d) (image w v)
  image_b v = ap (λ a. image a v) b_is ∙ image-matrix_multiple (pos d) w v

  -- the translation part in steps of 1/(n n')
  u : Triple
  u = difference (multiple (pos c.n) (h.images first.first.species first.first.position first.first.moment seen).position) (multiple (pos c'.n) (image w first.first.position))

  t_is : t ≡ multiple (pos d) u
  unfolding t u
  t_is = ap (difference (multiple (pos c.n *ℤ pos d) q)) (ap (multiple (pos c'.n)) (image_b first.first.position)) ∙ triple_same (by q.x (image w first.first.position).x) (by q.y (image w first.first.position).y) (by q.z (image w first.first.position).z)
    where
      q : Triple
      q = (h.images first.first.species first.first.position first.first.moment seen).position

      by : (q v : ℤ) → (pos c.n *ℤ pos d) *ℤ q +ℤ neg_ℤ (pos c'.n *ℤ (pos d *ℤ v)) ≡ pos d *ℤ (pos c.n *ℤ q +ℤ neg_ℤ (pos c'.n *ℤ v))
      by q v = by_integers (pos c.n ∷ pos d ∷ q ∷ pos c'.n ∷ v ∷ []) ((var 0 :* var 1) :* var 2 :+ opposite (var 3 :* (var 1 :* var 4))) (var 1 :* (var 0 :* var 2 :+ opposite (var 3 :* var 4))) refl

  ratio_w : (t u : ℤ) (g : Fraction) → t ≡ pos d *ℤ u → IsRatio t ((pos c.n *ℤ pos d) *ℤ pos c'.n) g → IsRatio u (pos c.n *ℤ pos c'.n) g
  ratio_w t u g e r = record {
    cross = mul_cancel (pos d) (g.numerator *ℤ (pos c.n *ℤ pos c'.n)) (u *ℤ g.denominator) d_above
        (by_integers (pos d ∷ g.numerator ∷ pos c.n ∷ pos c'.n ∷ []) (var 0 :* (var 1 :* (var 2 :* var 3))) (var 1 :* ((var 2 :* var 0) :* var 3)) refl ∙ r.cross ∙ ap (λ z. z *ℤ g.denominator) e
        ∙ by_integers (pos d ∷ u ∷ g.denominator ∷ []) ((var 0 :* var 1) :* var 2) (var 0 :* (var 1 :* var 2)) refl);
    positive = r.positive;
  }

  ratios_w : AreRatios u (pos c.n *ℤ pos c'.n) f
  ratios_w = record { x = ratio_w t.x u.x f.x (ap (λ (v : Triple). v.x) t_is) ratios.x; y = ratio_w t.y u.y f.y (ap (λ (v : Triple). v.y) t_is) ratios.y; z = ratio_w t.z u.z f.z (ap (λ (v : Triple). v.z) t_is) ratios.z }

  -- ---- the same atoms go to the same atoms
  position_w : (q r : Triple) → multiple (pos c.n *ℤ pos d) r ≡ sum_of (multiple (pos c'.n) (image b q)) t → multiple (pos c.n) r ≡ sum_of (multiple (pos c'.n) (image w q)) u
  position_w q r e = multiple_cancel (pos d) (multiple (pos c.n) r) (sum_of (multiple (pos c'.n) (image w q)) u) d_above
      (multiple-multiple (pos d) (pos c.n) r ∙ ap (λ z. multiple z r) (by_integers (pos c.n ∷ pos d ∷ []) (var 1 :* var 0) (var 0 :* var 1) refl) ∙ e
      ∙ (λ i. sum_of (multiple (pos c'.n) (image_b q i)) (t_is i)) ∙ ap (λ v. sum_of v (multiple (pos d) u)) (multiple_swap (pos c'.n) (pos d) (image w q)) ∙ sym (multiple-sum_of (pos d) (multiple (pos c'.n) (image w q)) u))

  sign_is : sign_of (determinant b) ≡ determinant w
  sign_is = ap sign_of (ap determinant b_is ∙ determinant-matrix_multiple (pos d) w) ∙ sign_of_unit (pos d *ℤ (pos d *ℤ pos d)) (determinant w) (mul_pos (pos d) (pos d *ℤ pos d) d_above square_above) one

  moment_w : (m g : Triple) → multiple (pos c.k *ℤ pos (divisor c.kind d)) g ≡ image l m → multiple (pos c.k) g ≡ image (moments_of c c' w sign) m
  unfolding l factor
  moment_w m g e = multiple_cancel (pos (divisor c.kind d)) (multiple (pos c.k) g) (image (moments_of c c' w sign) m) divided_above
      (multiple-multiple (pos (divisor c.kind d)) (pos c.k) g ∙ ap (λ z. multiple z g) (by_integers (pos c.k ∷ pos (divisor c.kind d) ∷ []) (var 1 :* var 0) (var 0 :* var 1) refl) ∙ e
      ∙ image-matrix_multiple (pos c'.k *ℤ factor) (turn_matrix c.kind b) m ∙ sym (multiple-multiple (pos c'.k) factor (image (turn_matrix c.kind b) m))
      ∙ ap (multiple (pos c'.k)) (moment_after-whole c.kind b w d (sign_of (determinant b)) (sign_factor sign) b_is sign_is m)
      ∙ multiple_swap (pos c'.k) (pos (divisor c.kind d)) (moment_after c.kind w (sign_factor sign) m) ∙ ap (multiple (pos (divisor c.kind d))) (sym (moment_is c c' w sign m)))

  moves_w : MapsOnto c c' w u sign
  moves_w = record {
    images = λ s q m o. (let i = moves.images s q m o in record {
      species = i.species;
      position = i.position;
      moment = i.moment;
      occupied = i.occupied;
      moved = record { one_name = i.moved.one_name; position = position_w q i.position i.moved.position; moment = moment_w m i.moment i.moved.moment };
    });
    onto = λ r q g o. (let i = moves.onto r q g o in record {
      species = i.species;
      position = i.position;
      moment = i.moment;
      occupied = i.occupied;
      moved = record { one_name = i.moved.one_name; position = position_w i.position q i.moved.position; moment = moment_w i.moment g i.moved.moment };
    });
  }

  -- so it is a map in whole steps
  pub map_of_any : AnyInSteps c c' b f d sign
  unfolding shifted
  map_of_any =
      let n = pos c.n *ℤ pos c'.n in
      let above : pos 0 <ℤ n = mul_pos (pos c.n) (pos c'.n) n_above n'_above in
      let x = rest_of u.x n f.x above ratios_w.x in
      let y = rest_of u.y n f.y above ratios_w.y in
      let z = rest_of u.z n f.z above ratios_w.z in
      let rest : Triple = record { x = x.steps; y = y.steps; z = z.steps } in
      let cells : Triple = record { x = x.cells; y = y.cells; z = z.cells } in
      let fx = x.is in
      let fy = y.is in
      let fz = z.is in
      record {
        operation = record { matrix = w; translation = rest; sign = sign };
        is_map = record {
          within = record { x = (x.at_least, x.below); y = (y.at_least, y.below); z = (z.at_least, z.below) };
          same_kind = h.same_kind;
          isometry = record { unimodular = one; metric = metric };
          onto = moves_near c c' w u rest cells (pos c.k) (moments_of c c' w sign) (triple_same x.same y.same z.same) moves_w;
        };
        matrix_is = b_is;
        is = λ i. record { matrix = w; shift = record { x = fx i; y = fy i; z = fz i }; sign = sign };
      }
