-- An operation of the standard cell is one of the first crystal: with K = Q W adj(Q), which is det(Q) Q W Q⁻¹, the map of K
-- and its fractions keeps the first crystal, which is primitive, so that it is a map of integers and is listed.
use Rattle.std.proofs.Common.{◌≡◌, ℕ, suc, zero, ℤ, pos, negsuc, ◌*ℤ◌, ◌<ℤ◌, ◌≤ℤ◌, Bool, true, false, List, [], ◌∷◌, ◌++◌, refl, sym, ◌∙◌, ap, subst, arith}
use Rattle.std.specs.Prelude.{if◌then◌else◌, unsigned_abs}
use Rattle.std.proofs.lemmas.Int.{ints}
use Rattle.lists.specs.Increasing.{IsMember}
use Rattle.matrix3.specs.Matrices as formulas
use Rattle.ring.specs.Ring.{var, quoted, ◌:*◌}
use Rattle.ring.proofs.IntOrder.{mul_pos}
use Rattle.matrix3.specs.Matrices.{entries, coordinates, matrix_of_variables, vector_of_variables}
use Rattle.crystal_spec.specs.declared.MomentKind.{MomentKind}
use Rattle.crystal_spec.specs.Matrices.{Triple, Matrix, product, image, determinant, adjugate, identity, multiple, sum_of, difference, matrix_multiple}
use Rattle.crystal_spec.specs.Moments.{axial_factor, turn_matrix, moment_matrix, divisor}
use Rattle.crystal_spec.specs.Crystals.{Structure, Occupied, Keeps, position_after, moment_after}
use Rattle.crystal_spec.specs.Operations.{Operation, sign_factor, ListsAll}
use Rattle.crystal_spec.proofs.Identities.{by_integers, by_triples, by_matrices}
use Rattle.crystal_spec.proofs.Isometries.{determinant-isometry, determinant-product, sign_squared, image-adjugate, multiple-one}
use Rattle.basis_spec.specs.Metrics.{metric_in}
use Rattle.positions.specs.Positions.{modulo}
use Rattle.crystal_spec.specs.Cells.{IsCell}
use Rattle.basis_spec.specs.Maps.{HasImage, IsImage, sign_of}
use Rattle.basis_spec.specs.Carrying.{KeepsAny, IsListed}
use Rattle.basis_spec.specs.Translations.{IsPrimitive}
use Rattle.basis_spec.proofs.MatrixLaws.{metric_in-product, metric_in-matrix_multiple, metric_in_adjugate-metric_in, matrix_multiple-twice, determinant-matrix_multiple, determinant-adjugate, image-product, image-multiple, image-sum_of, image-identity, image-matrix_multiple, image-image_adjugate, multiple-multiple, multiple_swap, product-matrix_multiple_left}
use Rattle.basis_spec.proofs.Cancelling.{multiple_cancel, matrix_multiple_cancel}
use Rattle.basis_spec.proofs.Translations.{occupied_as, source}
use Rattle.basis_spec.proofs.AllOperations.{full_group_misses_nothing}
use Rattle.match_spec.specs.Points.{Point, IsPoint}
use Rattle.standard_cell.specs.StandardCells.{IsStandard}
use Rattle.standard_cell.proofs.Linked.{Link, under, over}
use Rattle.standard_cell.proofs.Shifts.{IsShift}
use Rattle.standard_cell.proofs.Moved.{standard_positive}

natural : (d : ℤ) → pos 0 <ℤ d → pos (unsigned_abs d) ≡ d
natural (pos n) h = refl
natural (negsuc n) h = absurd h.lt

at_least : (d : ℤ) → pos 0 <ℤ d → pos 1 ≤ℤ d
at_least d h = omega (arith, ints)

-- the sign of a positive multiple of 1 or -1
sign_of_unit : (k a : ℤ) → pos 0 <ℤ k → a *ℤ a ≡ pos 1 → sign_of (k *ℤ a) ≡ a
sign_of_unit (negsuc n) a p e = absurd p.lt
sign_of_unit (pos zero) a p e = absurd (omega (arith, ints))
sign_of_unit (pos (suc n)) (pos zero) p e = absurd (omega (arith, ints))
sign_of_unit (pos (suc n)) (pos (suc zero)) p e = refl
sign_of_unit (pos (suc n)) (pos (suc (suc a))) p e = absurd (omega (arith, ints))
sign_of_unit (pos (suc n)) (negsuc zero) p e = ap sign_of (negative_part n)
  where
    negative_part : (n : ℕ) → pos (suc n) *ℤ negsuc 0 ≡ negsuc n
    negative_part n = omega (arith, ints)
sign_of_unit (pos (suc n)) (negsuc (suc a)) p e = absurd (omega (arith, ints))

-- Q W adj(Q)
abbrev pub around : Matrix → Matrix → Matrix
around q w = product q (product w (adjugate q))

-- which takes Q x to det(Q) Q W x
image-around : (q w : Matrix) (x : Triple) → image (around q w) (image q x) ≡ multiple (determinant q) (image q (image w x))
image-around q w x =
    image-product q (product w (adjugate q)) (image q x)
    ∙ ap (image q) (image-product w (adjugate q) (image q x) ∙ ap (image w) (image-adjugate q x) ∙ image-multiple w (determinant q) x)
    ∙ image-multiple q (determinant q) (image w x)

determinant-around : (q w : Matrix) → determinant (around q w) ≡ (determinant q *ℤ (determinant q *ℤ determinant q)) *ℤ determinant w
determinant-around q w =
    determinant-product q (product w (adjugate q)) ∙ ap (λ (z : ℤ). determinant q *ℤ z) (determinant-product w (adjugate q) ∙ ap (λ (z : ℤ). determinant w *ℤ z) (determinant-adjugate q))
    ∙ by_integers (determinant q ∷ determinant w ∷ []) (var 0 :* (var 1 :* (var 0 :* var 0))) ((var 0 :* (var 0 :* var 0)) :* var 1) refl

around-product : (q w : Matrix) → product (around q w) q ≡ matrix_multiple (determinant q) (product q w)
around-product q w =
    let q' = matrix_of_variables 0 in
    let w' = matrix_of_variables 9 in
    by_matrices (entries q ++ entries w) (formulas.product quoted (formulas.product quoted q' (formulas.product quoted w' (formulas.adjugate quoted q'))) q')
    (formulas.matrix_map (λ x. formulas.determinant quoted q' :* x) (formulas.product quoted q' w')) refl

-- the translation part of the map, times n m d h
abbrev pub fraction_shift : Matrix → Matrix → Triple → ℤ → ℤ → ℤ → Triple → Triple
fraction_shift q k u d n m w = multiple n (difference (sum_of (multiple (determinant q *ℤ d) (image q w)) (multiple (determinant q *ℤ m) u)) (multiple m (image k u)))

module _ (c s : Structure) (q : Matrix) (p : Point) (st : IsStandard c q p s) (above : pos 0 <ℤ determinant q) (is_p : IsPoint p) (cell : IsCell c)
    (o : Operation) (keeps : Keeps s o.matrix o.translation (sign_factor o.sign)) where
  abbrev some : pos 0 <ℤ pos c.n
  some = cell.some_cells

  abbrev w : Matrix
  w = o.matrix

  abbrev sign : ℤ
  sign = sign_factor o.sign

  abbrev h : ℤ
  h = determinant q

  abbrev k : Matrix
  k = around q w

  abbrev n : ℤ
  n = pos c.n

  abbrev m : ℤ
  m = pos s.n

  abbrev d : ℤ
  d = p.denominator

  abbrev u : Triple
  u = p.numerators

  md_above : pos 0 <ℤ (m *ℤ d)
  md_above = mul_pos m d st.n.positive is_p.positive

  -- the denominator of the map
  abbrev parts : ℕ
  parts = unsigned_abs (h *ℤ (m *ℤ d))

  parts_above : pos 0 <ℤ (h *ℤ (m *ℤ d))
  parts_above = mul_pos h (m *ℤ d) above md_above

  parts_are : pos parts ≡ h *ℤ (m *ℤ d)
  parts_are = natural (h *ℤ (m *ℤ d)) parts_above

  abbrev b : Matrix
  b = matrix_multiple (m *ℤ d) k

  abbrev t : Triple
  t = fraction_shift q k u d n m o.translation

  abbrev back : Matrix
  back = turn_matrix c.kind (adjugate q)

  one : determinant w *ℤ determinant w ≡ pos 1
  one = determinant-isometry s.metric w (standard_positive c s q p st cell above) keeps.metric

  sign_is : sign_of (determinant b) ≡ determinant w
  sign_is =
      ap sign_of (determinant-matrix_multiple (m *ℤ d) k ∙ ap (λ (z : ℤ). ((m *ℤ d) *ℤ ((m *ℤ d) *ℤ (m *ℤ d))) *ℤ z) (determinant-around q w)
      ∙ by_integers ((m *ℤ d) ∷ h ∷ determinant w ∷ []) ((var 0 :* (var 0 :* var 0)) :* ((var 1 :* (var 1 :* var 1)) :* var 2)) (((var 0 :* (var 0 :* var 0)) :* (var 1 :* (var 1 :* var 1))) :* var 2) refl)
      ∙ sign_of_unit (((m *ℤ d) *ℤ ((m *ℤ d) *ℤ (m *ℤ d))) *ℤ (h *ℤ (h *ℤ h))) (determinant w) (mul_pos _ _ (cube (m *ℤ d) md_above) (cube h above)) one
    where
      cube : (z : ℤ) → pos 0 <ℤ z → pos 0 <ℤ (z *ℤ (z *ℤ z))
      cube z a = mul_pos z (z *ℤ z) a (mul_pos z z a a)

  metric_kept : metric_in b c.metric ≡ matrix_multiple (pos parts *ℤ pos parts) c.metric
  metric_kept =
      metric_in-matrix_multiple (m *ℤ d) k c.metric
      ∙ ap (matrix_multiple ((m *ℤ d) *ℤ (m *ℤ d))) (metric_in-product q (product w (adjugate q)) c.metric ∙ ap (metric_in (product w (adjugate q))) (sym st.metric)
      ∙ metric_in-product w (adjugate q) s.metric ∙ ap (metric_in (adjugate q)) (keeps.metric ∙ st.metric) ∙ metric_in_adjugate-metric_in q c.metric)
      ∙ matrix_multiple-twice ((m *ℤ d) *ℤ (m *ℤ d)) (h *ℤ h) c.metric
      ∙ ap (λ (z : ℤ). matrix_multiple z c.metric) (by_integers ((m *ℤ d) ∷ h ∷ []) ((var 0 :* var 0) :* (var 1 :* var 1)) ((var 1 :* var 0) :* (var 1 :* var 0)) refl ∙ (λ i. sym parts_are i *ℤ sym parts_are i))

  -- h n (d (b + c) + m u) by parts
  by_parts : (h n d m : ℤ) (b c u : Triple) → multiple h (multiple n (sum_of (multiple d (sum_of b c)) (multiple m u))) ≡ multiple n (sum_of (sum_of (multiple d (multiple h b)) (multiple (h *ℤ d) c)) (multiple (h *ℤ m) u))
  by_parts h n d m b c u =
      by_triples (h ∷ n ∷ d ∷ m ∷ coordinates b ++ coordinates c ++ coordinates u)
      (formulas.multiple quoted (var 0) (formulas.multiple quoted (var 1) (formulas.sum_of quoted (formulas.multiple quoted (var 2) (formulas.sum_of quoted (vector_of_variables 4) (vector_of_variables 7))) (formulas.multiple quoted (var 3) (vector_of_variables 10)))))
      (formulas.multiple quoted (var 1) (formulas.sum_of quoted (formulas.sum_of quoted (formulas.multiple quoted (var 2) (formulas.multiple quoted (var 0) (vector_of_variables 4))) (formulas.multiple quoted (var 0 :* var 2) (vector_of_variables 7))) (formulas.multiple quoted (var 0 :* var 3) (vector_of_variables 10)))) refl

  whole_shift : (h n d m : ℤ) (k : Matrix) (a c u : Triple) → multiple n (sum_of (sum_of (multiple d (image k a)) (multiple (h *ℤ d) c)) (multiple (h *ℤ m) u))
      ≡ sum_of (image k (multiple n (sum_of (multiple d a) (multiple m u)))) (multiple n (difference (sum_of (multiple (h *ℤ d) c) (multiple (h *ℤ m) u)) (multiple m (image k u))))
  whole_shift h n d m k a c u =
      let k' = matrix_of_variables 4 in
      let a' = vector_of_variables 13 in
      let c' = vector_of_variables 16 in
      let u' = vector_of_variables 19 in
      by_triples (h ∷ n ∷ d ∷ m ∷ entries k ++ coordinates a ++ coordinates c ++ coordinates u)
      (formulas.multiple quoted (var 1) (formulas.sum_of quoted (formulas.sum_of quoted (formulas.multiple quoted (var 2) (formulas.image quoted k' a')) (formulas.multiple quoted (var 0 :* var 2) c')) (formulas.multiple quoted (var 0 :* var 3) u')))
      (formulas.sum_of quoted (formulas.image quoted k' (formulas.multiple quoted (var 1) (formulas.sum_of quoted (formulas.multiple quoted (var 2) a') (formulas.multiple quoted (var 3) u'))))
      (formulas.multiple quoted (var 1) (formulas.difference quoted (formulas.sum_of quoted (formulas.multiple quoted (var 0 :* var 2) c') (formulas.multiple quoted (var 0 :* var 3) u')) (formulas.multiple quoted (var 3) (formulas.image quoted k' u'))))) refl

  -- the position to which the map takes a position
  lifted : (x y y1 : Triple) → Link c s q p st above some is_p x y → Link c s q p st above some is_p (position_after w o.translation x) y1 → multiple (pos parts) y1 ≡ sum_of (image b y) t
  lifted x y y1 link next =
      ap (λ (z : ℤ). multiple z y1) parts_are ∙ sym (multiple-multiple h (m *ℤ d) y1) ∙ ap (multiple h) (sym next)
      ∙ ap (λ v. multiple h (multiple n (sum_of (multiple d v) (multiple m u)))) (image-sum_of q (image w x) o.translation)
      ∙ by_parts h n d m (image q (image w x)) (image q o.translation) u
      ∙ ap (λ v. multiple n (sum_of (sum_of (multiple d v) (multiple (h *ℤ d) (image q o.translation))) (multiple (h *ℤ m) u))) (sym (image-around q w x))
      ∙ whole_shift h n d m k (image q x) (image q o.translation) u
      ∙ ap (λ v. sum_of v t) (ap (image k) link ∙ image-multiple k (m *ℤ d) y ∙ sym (image-matrix_multiple (m *ℤ d) k y))

  -- and the moment
  moment_lifted : (m0 m1 : Triple) → image back m1 ≡ moment_after c.kind w sign (image back m0) →
      multiple (pos (divisor c.kind parts)) m1 ≡ multiple (sign *ℤ axial_factor c.kind (sign_of (determinant b))) (image (turn_matrix c.kind b) m0)
  unfolding turn_matrix divisor moment_matrix
  moment_lifted m0 m1 e = by c.kind.vector e ∙ ap (λ (z : ℤ). multiple (sign *ℤ axial_factor c.kind z) (image (if c.kind.vector then b else identity) m0)) (sym sign_is)
    where
      by : (vector : Bool) → image (if vector then adjugate q else identity) m1 ≡ image (matrix_multiple (sign *ℤ axial_factor c.kind (determinant w)) (if vector then w else identity)) (image (if vector then adjugate q else identity) m0) →
          multiple (pos (if vector then parts else 1)) m1 ≡ multiple (sign *ℤ axial_factor c.kind (determinant w)) (image (if vector then b else identity) m0)
      by true e =
          let g = sign *ℤ axial_factor c.kind (determinant w) in
          let a0 = image (adjugate q) m0 in
          let once : multiple h m1 ≡ multiple g (image k m0) =
          sym (image-image_adjugate q m1) ∙ ap (image q) (e ∙ image-matrix_multiple g w a0) ∙ image-multiple q g (image w a0)
          ∙ ap (multiple g) (ap (image q) (sym (image-product w (adjugate q) m0)) ∙ sym (image-product q (product w (adjugate q)) m0)) in
          ap (λ (z : ℤ). multiple z m1) (parts_are ∙ by_integers (h ∷ (m *ℤ d) ∷ []) (var 0 :* var 1) (var 1 :* var 0) refl) ∙ sym (multiple-multiple (m *ℤ d) h m1) ∙ ap (multiple (m *ℤ d)) once
          ∙ multiple_swap (m *ℤ d) g (image k m0) ∙ ap (multiple g) (sym (image-matrix_multiple (m *ℤ d) k m0))
      by false e =
          let g = sign *ℤ axial_factor c.kind (determinant w) in
          multiple-one m1 ∙ sym (image-identity m1) ∙ e ∙ image-matrix_multiple g identity (image identity m0) ∙ ap (multiple g) (image-identity (image identity m0))

  has_image : (species : ℕ) (y m0 : Triple) → Occupied c species y m0 → HasImage c.kind c b t parts sign species y m0
  has_image species y m0 a =
      let r = over c s q p st above some is_p species y m0 a in
      let next = (keeps.crystal species r.position (image back m0)).0 r.occupied in
      let f = under c s q p st above some is_p species (position_after w o.translation r.position) (moment_after s.kind w sign (image back m0)) next in
      record {
        new_position = f.position;
        new_moment = f.moment;
        position_is = lifted r.position y f.position r.link f.link;
        moment_is = moment_lifted m0 f.moment (sym f.moment_is ∙ ap (λ (kind : MomentKind). moment_after kind w sign (image back m0)) st.kind);
        occupied = f.occupied;
      }

  is_image : (species : ℕ) (y1 m1 : Triple) → Occupied c species y1 m1 → IsImage c.kind c b t parts sign species y1 m1
  is_image species y1 m1 a =
      let r = over c s q p st above some is_p species y1 m1 a in
      let f = source s.kind w o.translation sign one (sign_squared o.sign) r.position (image back m1) in
      let before = (keeps.crystal species f.old_position f.old_moment).1 (occupied_as s species (sym f.position_is) (sym f.moment_is) r.occupied) in
      let g = under c s q p st above some is_p species f.old_position f.old_moment before in
      record {
        old_position = g.position;
        old_moment = g.moment;
        position_is = lifted f.old_position g.position y1 g.link (subst (λ x. Link c s q p st above some is_p x y1) (sym f.position_is) r.link);
        moment_is = moment_lifted g.moment m1 (sym f.moment_is ∙ (λ i. moment_after (st.kind i) w sign (g.moment_is i)));
        occupied = g.occupied;
      }

  keeps_any : KeepsAny c b t parts sign
  keeps_any = record {
    kind = refl;
    some_parts = subst (λ (z : ℤ). pos 1 ≤ℤ z) (sym parts_are) (at_least (h *ℤ (m *ℤ d)) parts_above);
    metric = metric_kept;
    images = has_image;
    onto = is_image;
  }

  module _ (primitive : IsPrimitive c) (ms : List Operation) (lists : ListsAll c ms) where
    pub listed : IsListed c.n ms b t parts o.sign
    listed = full_group_misses_nothing c ms cell primitive lists b t parts o.sign keeps_any

    -- the matrix of the listed operation
    abbrev pub found : Matrix
    found = listed.matrix

    -- and its translation part, but for whole cells
    abbrev pub found_part : Triple
    found_part = listed.whole_translation

    around_is : k ≡ matrix_multiple h found
    around_is = matrix_multiple_cancel (m *ℤ d) k (matrix_multiple h found) md_above
        (listed.matrix_is ∙ ap (λ (z : ℤ). matrix_multiple z found) (parts_are ∙ by_integers (h ∷ (m *ℤ d) ∷ []) (var 0 :* var 1) (var 1 :* var 0) refl) ∙ sym (matrix_multiple-twice (m *ℤ d) h found))

    pub turned : product found q ≡ product q w
    turned = matrix_multiple_cancel h (product found q) (product q w) above (sym (product-matrix_multiple_left h found q) ∙ ap (λ a. product a q) (sym around_is) ∙ around-product q w)

    pub shift : IsShift q found u d n m o.translation found_part
    shift = multiple_cancel h _ _ above
        (factored h n d m (image q o.translation) u (image found u) ∙ ap (λ v. multiple n (difference (sum_of (multiple (h *ℤ d) (image q o.translation)) (multiple (h *ℤ m) u)) (multiple m v))) (sym (ap (λ a. image a u) around_is ∙ image-matrix_multiple h found u))
        ∙ listed.translation_is ∙ ap (λ (z : ℤ). multiple z found_part) parts_are ∙ sym (multiple-multiple h (m *ℤ d) found_part))
      where
        factored : (h n d m : ℤ) (a u v : Triple) → multiple h (multiple n (sum_of (multiple d a) (multiple m (difference u v)))) ≡ multiple n (difference (sum_of (multiple (h *ℤ d) a) (multiple (h *ℤ m) u)) (multiple m (multiple h v)))
        factored h n d m a u v =
            by_triples (h ∷ n ∷ d ∷ m ∷ coordinates a ++ coordinates u ++ coordinates v)
            (formulas.multiple quoted (var 0) (formulas.multiple quoted (var 1) (formulas.sum_of quoted (formulas.multiple quoted (var 2) (vector_of_variables 4)) (formulas.multiple quoted (var 3) (formulas.difference quoted (vector_of_variables 7) (vector_of_variables 10))))))
            (formulas.multiple quoted (var 1) (formulas.difference quoted (formulas.sum_of quoted (formulas.multiple quoted (var 0 :* var 2) (vector_of_variables 4)) (formulas.multiple quoted (var 0 :* var 3) (vector_of_variables 7))) (formulas.multiple quoted (var 3) (formulas.multiple quoted (var 0) (vector_of_variables 10))))) refl

    pub of_list : IsMember (record { matrix = found; translation = modulo c.n found_part; sign = o.sign }) ms
    of_list = listed.of_list
