-- The maps of the definition, with fractions in their translation part or in their matrix too, are the maps in whole steps.
--
-- An atom and its image tell the translation part in steps of 1/(n n'), and one fraction tells one number of steps. From the
-- metric tensors no determinant is 0, so `WholeBetween` applies: the matrix is of integers, and unimodular.
use Rattle.std.proofs.Common.{◌≡◌, ℕ, ◌≤◌, ℤ, pos, negsuc, ◌*ℤ◌, ◌≤ℤ◌, ◌<ℤ◌, Bool, true, false, [], ◌∷◌, refl, sym, ap, subst, ◌∙◌, arith}
use Rattle.std.proofs.lemmas.Int.{ints}
use Rattle.ring.specs.Ring.{var, con, ◌:*◌}
use Rattle.ring.specs.Size.{AtMost}
use Rattle.ring.proofs.IntOrder.{mul_pos}
use Rattle.numbers.specs.Fraction.{Fraction}
use Rattle.matrix3.specs.declared.vector.Vec3.{Vec3}
use Rattle.matrix3.specs.Matrices.{EachEntry, vector_map}
use Rattle.crystal_spec.specs.declared.MomentKind.{MomentKind}
use Rattle.crystal_spec.specs.declared.Sign.{Sign}
use Rattle.crystal_spec.specs.declared.Sign.TheVariants.{Same, Reversed}
use Rattle.crystal_spec.specs.Matrices.{Triple, Matrix, image, determinant, multiple, difference, identity}
use Rattle.crystal_spec.specs.Moments.{axial_factor, turn_matrix, moment_matrix}
use Rattle.crystal_spec.specs.Crystals.{Structure, Occupied, IsPositive, moment_after}
use Rattle.crystal_spec.specs.Operations.{Operation, sign_factor}
use Rattle.crystal_spec.proofs.Entrywise.{matrix_same}
use Rattle.crystal_spec.proofs.Identities.{by_integers}
use Rattle.crystal_spec.proofs.Images.{occupied_itself}
use Rattle.crystal_spec.proofs.Moments.{axial_factor-axial, axial_factor-plain, turn-vector, turn-scalar}
use Rattle.lattice_spec.specs.Niggli.{IsNiggli}
use Rattle.lattice_spec.specs.Tensor.{Tensor, tensor_matrix}
use Rattle.lattice_spec.proofs.Bounds.{scaled_basis_change_small}
use Rattle.basis_spec.specs.Metrics.{matrix_multiple, metric_in}
use Rattle.basis_spec.specs.Translations.{IsPrimitive}
use Rattle.basis_spec.specs.Maps.{sign_of}
use Rattle.crystal_spec.specs.Cells.{IsCell}
use Rattle.basis_spec.proofs.MatrixLaws.{image-matrix_multiple, determinant-matrix_multiple, determinant-metric_in}
use Rattle.basis_spec.proofs.PrimitiveCell.{cells_alone}
use Rattle.matrix3.specs.Bounds.{EntriesAtMost}
use Rattle.crystal.specs.Cells.{IsCellWithinLimits, IsSymmetric}
use Rattle.crystal.proofs.CellLemmas.{is_cell}
use Rattle.prim_cell.proofs.Moving.{some_cells}
use Rattle.crystal_compare.specs.Maps.{AffineMap, Takes}
use Rattle.crystal_compare.specs.AnyMaps.{modulo_one}
use Rattle.crystal_compare.specs.Search.{steps, MapsOnto, moments_of, IsIsometry, IsMap, shifted}
use Rattle.crystal_compare.proofs.WholeBetween.{square_above}
use Rattle.crystal_compare.proofs.WholeBetween as between
use Rattle.crystal_compare.proofs.Shifts.{AreRatios, lowest_ratio, ratio_lowest, moved_by, moved_from, ratios_of, steps_within, fraction_within}

-- ---- what is not 0
pub product_nonzero : (x y : ℤ) → (x ≡ pos 0 → ⊥) → (y ≡ pos 0 → ⊥) → x *ℤ y ≡ pos 0 → ⊥
product_nonzero x y h k e =
    let above : pos 0 <ℤ ((x *ℤ x) *ℤ (y *ℤ y)) = mul_pos (x *ℤ x) (y *ℤ y) (square_above x h) (square_above y k) in
    let none : (x *ℤ x) *ℤ (y *ℤ y) ≡ pos 0 = by_integers (x ∷ y ∷ []) ((var 0 :* var 0) :* (var 1 :* var 1)) ((var 0 :* var 1) :* (var 0 :* var 1)) refl ∙ ap (λ z. z *ℤ z) e in
    omega (arith, ints, above, none)

pub above_nonzero : (x : ℤ) → pos 0 <ℤ x → x ≡ pos 0 → ⊥
above_nonzero x h e = omega (arith, ints, h, e)

pub multiple_nonzero : (k : ℤ) (a : Matrix) → (k ≡ pos 0 → ⊥) → (determinant a ≡ pos 0 → ⊥) → determinant (matrix_multiple k a) ≡ pos 0 → ⊥
multiple_nonzero k a h d e = product_nonzero (k *ℤ (k *ℤ k)) (determinant a) (product_nonzero k (k *ℤ k) h (product_nonzero k k h h)) d (sym (determinant-matrix_multiple k a) ∙ e)

pub turn_nonzero : (kind : MomentKind) (b : Matrix) → (determinant b ≡ pos 0 → ⊥) → determinant (turn_matrix kind b) ≡ pos 0 → ⊥
turn_nonzero kind b h = by kind.vector refl
  where
    by : (vector : Bool) → kind.vector ≡ vector → determinant (turn_matrix kind b) ≡ pos 0 → ⊥
    by true e z = h (ap determinant (sym (turn-vector kind b e)) ∙ z)
    by false e z = one (ap determinant (sym (turn-scalar kind b e)) ∙ z)
      where
        one : determinant identity ≡ pos 0 → ⊥
        one f = cc f

pub axial_nonzero : (kind : MomentKind) (h : ℤ) → (h ≡ pos 0 → ⊥) → axial_factor kind h ≡ pos 0 → ⊥
axial_nonzero kind h n = by kind.axial refl
  where
    by : (axial : Bool) → kind.axial ≡ axial → axial_factor kind h ≡ pos 0 → ⊥
    by true e z = n (sym (axial_factor-axial kind h e) ∙ z)
    by false e z = cc (sym (axial_factor-plain kind h e) ∙ z)

pub sign_nonzero : (s : Sign) → sign_factor s ≡ pos 0 → ⊥
sign_nonzero Same e = cc e
sign_nonzero Reversed e = cc e

pub sign_of_nonzero : (z : ℤ) → sign_of z ≡ pos 0 → ⊥
sign_of_nonzero (pos n) e = cc e
sign_of_nonzero (negsuc n) e = cc e

-- a matrix that takes the one metric tensor to a positive multiple of the other has a determinant that is not 0
pub isometry_nonzero : (b g g' : Matrix) (s r : ℤ) → pos 0 <ℤ r → IsPositive g → matrix_multiple s (metric_in b g') ≡ matrix_multiple r g → determinant b ≡ pos 0 → ⊥
isometry_nonzero b g g' s r h p e z =
    multiple_nonzero r g (above_nonzero r h) (above_nonzero (determinant g) p.third)
    (ap determinant (sym e) ∙ determinant-matrix_multiple s (metric_in b g') ∙ ap (λ x. (s *ℤ (s *ℤ s)) *ℤ x) (determinant-metric_in b g' ∙ ap (λ x. (x *ℤ x) *ℤ determinant g') z)
    ∙ by_integers (s ∷ determinant g' ∷ []) ((var 0 :* (var 0 :* var 0)) :* ((con (pos 0) :* con (pos 0)) :* var 1)) (con (pos 0)) refl)

-- ---- the entries of an isometry between reduced metric tensors

-- the metric tensor of a symmetric matrix
tensor_of : Matrix → Tensor ℤ
tensor_of g = record { aa = g.a11; bb = g.a22; cc = g.a33; bc = g.a23; ac = g.a13; ab = g.a12 }

tensor_matrix-of : (g : Matrix) → IsSymmetric g → tensor_matrix (tensor_of g) ≡ g
unfolding tensor_of
tensor_matrix-of g h = matrix_same refl refl refl (sym h.ab) refl refl (sym h.ac) (sym h.bc) refl

-- entries -1, 0 and 1
pub isometry_small : (c c' : Structure) (w : Matrix) → IsCellWithinLimits c → IsCellWithinLimits c' → IsNiggli c.metric → IsNiggli c'.metric → IsIsometry c c' w → EntriesAtMost 1 w
unfolding tensor_of
isometry_small c c' w cell cell' niggli niggli' h =
    let above : pos 0 <ℤ c.scale = by c.scale cell.scale_at_least in
    let above' : pos 0 <ℤ c'.scale = by c'.scale cell'.scale_at_least in
    let e = (λ i. matrix_multiple c.scale (metric_in w (tensor_matrix-of c'.metric cell'.symmetric i))) ∙ h.metric ∙ ap (matrix_multiple c'.scale) (sym (tensor_matrix-of c.metric cell.symmetric)) in
    let each : EachEntry (AtMost 1) w = scaled_basis_change_small c.scale c'.scale (tensor_of c'.metric) (tensor_of c.metric) w above above' niggli'.main niggli.main e h.unimodular in
    record { a11 = each.a11; a12 = each.a12; a13 = each.a13; a21 = each.a21; a22 = each.a22; a23 = each.a23; a31 = each.a31; a32 = each.a32; a33 = each.a33 }
  where
    by : (s : ℤ) → pos 1 ≤ℤ s → pos 0 <ℤ s
    by s h = omega (arith, ints, h)

-- ---- maps

-- both are primitive cells
pub record ArePrimitive (c c' : Structure) : Type 0 where
  pub cell : IsCellWithinLimits c
  pub cell' : IsCellWithinLimits c'
  pub primitive : IsPrimitive c
  pub primitive' : IsPrimitive c'

-- the operation that a map is, in steps
pub record InSteps (c c' : Structure) (a : AffineMap) : Type 0 where
  pub operation : Operation
  pub is_map : IsMap c c' operation
  pub is : a ≡ shifted (steps c c') operation

pub record AnyInSteps (c c' : Structure) (b : Matrix) (f : Vec3 Fraction) (d : ℕ) (sign : Sign) : Type 0 where
  pub operation : Operation
  pub is_map : IsMap c c' operation
  pub matrix_is : b ≡ matrix_multiple (pos d) operation.matrix
  pub is : record { matrix = operation.matrix; shift = vector_map modulo_one f; sign = sign } ≡ shifted (steps c c') operation

-- the moment of an image, in units of 1/(k k')
pub moment_is : (c c' : Structure) (w : Matrix) (sign : Sign) (m : Triple) → image (moments_of c c' w sign) m ≡ multiple (pos c'.k) (moment_after c.kind w (sign_factor sign) m)
unfolding moments_of
moment_is c c' w sign m = image-matrix_multiple (pos c'.k) (moment_matrix c.kind w (sign_factor sign)) m

moments_nonzero : (c c' : Structure) (w : Matrix) (sign : Sign) → pos 0 <ℤ pos c'.k → (determinant w ≡ pos 0 → ⊥) → determinant (moments_of c c' w sign) ≡ pos 0 → ⊥
unfolding moments_of moment_matrix
moments_nonzero c c' w sign k h =
    multiple_nonzero (pos c'.k) (matrix_multiple (sign_factor sign *ℤ axial_factor c.kind (determinant w)) (turn_matrix c.kind w)) (above_nonzero (pos c'.k) k)
    (multiple_nonzero (sign_factor sign *ℤ axial_factor c.kind (determinant w)) (turn_matrix c.kind w) (product_nonzero (sign_factor sign) (axial_factor c.kind (determinant w)) (sign_nonzero sign) (axial_nonzero c.kind (determinant w) h)) (turn_nonzero c.kind w h))

one_multiple : (w : Matrix) → matrix_multiple (pos 1) w ≡ w
one_multiple w = matrix_same (by w.a11) (by w.a12) (by w.a13) (by w.a21) (by w.a22) (by w.a23) (by w.a31) (by w.a32) (by w.a33)
  where
    by : (x : ℤ) → pos 1 *ℤ x ≡ x
    by x = by_integers (x ∷ []) (con (pos 1) :* var 0) (var 0) refl

module _ (c c' : Structure) (p : ArePrimitive c c') where
  first : IsCell c
  first = is_cell c p.cell

  n_above : pos 0 <ℤ pos c.n
  n_above = some_cells c p.cell

  n'_above : pos 0 <ℤ pos c'.n
  n'_above = some_cells c' p.cell'

  natural_above : (k : ℕ) → 1 ≤ k → pos 0 <ℤ pos k
  natural_above k h = omega (arith, ints, h)

  scale_above : (s : ℤ) → pos 1 ≤ℤ s → pos 0 <ℤ s
  scale_above s h = omega (arith, ints, h)

  steps_above : pos 0 <ℤ pos (steps c c')
  steps_above = mul_pos (pos c.n) (pos c'.n) n_above n'_above

  -- ---- from steps to fractions
  pub takes_of_map : (o : Operation) → IsMap c c' o → Takes c c' (shifted (steps c c') o)
  unfolding shifted
  takes_of_map o h = record {
    x_within = fraction_within o.translation.x (pos (steps c c')) steps_above h.within.x.0 h.within.x.1;
    y_within = fraction_within o.translation.y (pos (steps c c')) steps_above h.within.y.0 h.within.y.1;
    z_within = fraction_within o.translation.z (pos (steps c c')) steps_above h.within.z.0 h.within.z.1;
    same_kind = h.same_kind;
    metric = h.isometry.metric;
    images = λ s q m o'. (let i = h.onto.images s q m o' in record {
      species = i.species;
      position = i.position;
      moment = i.moment;
      occupied = i.occupied;
      is_image = record {
        one_name = i.moved.one_name;
        position = moved_by (image o.matrix q) o.translation i.position (pos c.n) (pos c'.n) (shifted (steps c c') o).shift ratios i.moved.position;
        moment = i.moved.moment ∙ moment_is c c' o.matrix o.sign m;
      };
    });
    onto = λ r q l o'. (let f = h.onto.onto r q l o' in record {
      species = f.species;
      position = f.position;
      moment = f.moment;
      occupied = f.occupied;
      is_image = record {
        one_name = f.moved.one_name;
        position = moved_by (image o.matrix f.position) o.translation q (pos c.n) (pos c'.n) (shifted (steps c c') o).shift ratios f.moved.position;
        moment = f.moved.moment ∙ moment_is c c' o.matrix o.sign f.moment;
      };
    });
  }
    where
      ratios : AreRatios o.translation (pos c.n *ℤ pos c'.n) (shifted (steps c c') o).shift
      ratios = record { x = lowest_ratio o.translation.x (pos (steps c c')) steps_above; y = lowest_ratio o.translation.y (pos (steps c c')) steps_above; z = lowest_ratio o.translation.z (pos (steps c c')) steps_above }

  -- ---- from fractions to steps
  module _ (a : AffineMap) (h : Takes c c' a) where
    at : Triple
    at = first.first.position

    seen : Occupied c first.first.species first.first.position first.first.moment
    seen = occupied_itself c first.first first.of_cell

    t : Triple
    t = difference (multiple (pos c.n) (h.images first.first.species first.first.position first.first.moment seen).position) (multiple (pos c'.n) (image a.matrix first.first.position))

    ratios : AreRatios t (pos c.n *ℤ pos c'.n) a.shift
    unfolding t
    ratios = ratios_of (image a.matrix first.first.position) (h.images first.first.species first.first.position first.first.moment seen).position (pos c.n) (pos c'.n) a.shift
        (record { x = h.x_within.lowest.positive; y = h.y_within.lowest.positive; z = h.z_within.lowest.positive }) (h.images first.first.species first.first.position first.first.moment seen).is_image.position

    moves : MapsOnto c c' a.matrix t a.sign
    moves = record {
      images = λ s q m o. (let i = h.images s q m o in record {
        species = i.species;
        position = i.position;
        moment = i.moment;
        occupied = i.occupied;
        moved = record {
          one_name = i.is_image.one_name;
          position = moved_from (image a.matrix q) t i.position (pos c.n) (pos c'.n) a.shift ratios i.is_image.position;
          moment = i.is_image.moment ∙ sym (moment_is c c' a.matrix a.sign m);
        };
      });
      onto = λ r q l o. (let f = h.onto r q l o in record {
        species = f.species;
        position = f.position;
        moment = f.moment;
        occupied = f.occupied;
        moved = record {
          one_name = f.is_image.one_name;
          position = moved_from (image a.matrix f.position) t q (pos c.n) (pos c'.n) a.shift ratios f.is_image.position;
          moment = f.is_image.moment ∙ sym (moment_is c c' a.matrix a.sign f.moment);
        };
      });
    }

    turns : determinant a.matrix ≡ pos 0 → ⊥
    turns = isometry_nonzero a.matrix c.metric c'.metric c.scale c'.scale (scale_above c'.scale p.cell'.scale_at_least) p.cell.positive h.metric

    unimodular : determinant a.matrix *ℤ determinant a.matrix ≡ pos 1
    unimodular =
        let l = moments_of c c' a.matrix a.sign in
        let l_turns = moments_nonzero c c' a.matrix a.sign (natural_above c'.k p.cell'.k_at_least) turns in
        let e_is : pos c.n ≡ pos c.n *ℤ pos 1 = by_integers (pos c.n ∷ []) (var 0) (var 0 :* con (pos 1)) refl in
        let alone = cells_alone c n_above p.primitive in
        let alone' = cells_alone c' n'_above p.primitive' in
        let k_above = natural_above c.k p.cell.k_at_least in
        let d_above : pos 0 <ℤ pos 1 = natural_above 1 (omega arith) in
        let k = between.whole c c' a.matrix t (pos c.n) (pos c.k) l moves n_above k_above l_turns turns p.cell.names_differ p.cell'.names_differ n_above n'_above 1 d_above e_is first.first.species first.first.position first.first.moment seen alone alone' in
        subst (λ (v : Matrix). determinant v *ℤ determinant v ≡ pos 1) (sym (k.is ∙ one_multiple k.matrix)) k.unimodular

    pub map_of_takes : InSteps c c' a
    unfolding shifted
    map_of_takes =
        let n = pos (steps c c') in
        let x = steps_within t.x n a.shift.x steps_above ratios.x h.x_within.at_least h.x_within.below in
        let y = steps_within t.y n a.shift.y steps_above ratios.y h.y_within.at_least h.y_within.below in
        let z = steps_within t.z n a.shift.z steps_above ratios.z h.z_within.at_least h.z_within.below in
        let fx = ratio_lowest t.x n a.shift.x steps_above h.x_within.lowest ratios.x in
        let fy = ratio_lowest t.y n a.shift.y steps_above h.y_within.lowest ratios.y in
        let fz = ratio_lowest t.z n a.shift.z steps_above h.z_within.lowest ratios.z in
        record {
          operation = record { matrix = a.matrix; translation = t; sign = a.sign };
          is_map = record { within = record { x = x; y = y; z = z }; same_kind = h.same_kind; isometry = record { unimodular = unimodular; metric = h.metric }; onto = moves };
          is = λ i. record { matrix = a.matrix; shift = record { x = fx i; y = fy i; z = fz i }; sign = a.sign };
        }
