-- A map with fractions that takes one primitive crystal onto another is one of integers, of determinant 1 or -1.
--
-- Let p ↦ (B p + t) / d take the one onto the other. Move n v from an atom here: so for each v some u with d u = n B v is a
-- translation there, u and -u. The cell there is primitive, so u = n y and B v = d y. So each column of B is a multiple of
-- d, B = d W, and from one atom t = d w. W takes two triples to two, since it keeps the lengths. Move n y from an atom there:
-- both are reached from here, by two positions that differ by some u with W u = n y, and u is a translation here. The cell
-- here is primitive too, so u = n x and W x = y. So W has an inverse, and det(W) is 1 or -1. Then d cancels from moments.
use Rattle.std.proofs.Common.{◌≡◌, ℕ, suc, zero, ℤ, pos, negsuc, ◌*ℤ◌, ◌≤ℤ◌, ◌<ℤ◌, refl, sym, ap, ◌∙◌, arith}
use Rattle.std.proofs.lemmas.Int.{ints}
use Rattle.ring.proofs.IntOrder.{mul_pos}
use Rattle.crystal_spec.specs.Matrices.{Triple, Matrix, product, transposed, image, determinant, multiple, sum_of, identity}
use Rattle.basis_spec.specs.Metrics.{matrix_multiple, metric_in}
use Rattle.crystal_spec.specs.Moments.{axial_factor, turn_matrix, divisor}
use Rattle.crystal_spec.specs.Crystals.{Structure, Occupied, Keeps, position_after, moment_after, IsPositive}
use Rattle.basis_spec.specs.Translations.{IsTranslation, HasOnlyWholeCells}
use Rattle.basis_spec.specs.Maps.{HaveCommonUnits, TakenFrom, Takes, TakesAny, HasImage, sign_of}
use Rattle.basis_spec.specs.Carrying.{KeepsAny}
use Rattle.basis_spec.proofs.MatrixLaws.{Factor, factor, image-identity, image-multiple, image-product, image-sum_of, image-matrix_multiple, multiple_swap, multiple-sum_of, sum_comm, sum_swap, add_subtract, subtract_add, add_difference, metric_in-matrix_multiple, product-multiple, determinant-matrix_multiple}
use Rattle.basis_spec.proofs.Cancelling.{multiple_cancel, matrix_multiple_cancel, sum_cancel, image_cancel}
use Rattle.basis_spec.proofs.Translations.{occupied_as, occupied_away, is_translation, position_after-sum_of, source}
use Rattle.crystal_spec.proofs.Isometries.{cancel_image, cancel_multiple, determinant-isometry, determinant-product, unit_product, unit_of_product}
use Rattle.crystal_spec.proofs.Moments.{axial_factor-unit, turn-injective, cancel_moment, moment_after-whole, divisor-positive}

-- ---- maps of a crystal onto itself

-- what keeps a crystal takes it onto itself
pub takes_of_keeps : (c : Structure) (w : Matrix) (t : Triple) (sign : ℤ) → IsPositive c.metric → sign *ℤ sign ≡ pos 1 → Keeps c w t sign → Takes c c w t sign
takes_of_keeps c w t sign positive two k = record {
  kind = refl;
  metric = k.metric;
  images = λ s p m o. (k.crystal s p m).0 o;
  onto = λ s q l o. let f = source c.kind w t sign (determinant-isometry c.metric w positive k.metric) two q l in
      record {
        old_position = f.old_position;
        old_moment = f.old_moment;
        position_is = f.position_is;
        moment_is = f.moment_is;
        occupied = (k.crystal s f.old_position f.old_moment).1 (occupied_as c s (sym f.position_is) (sym f.moment_is) o);
      };
}

-- and what takes it onto itself keeps it
pub keeps_of_takes : (c : Structure) (w : Matrix) (t : Triple) (sign : ℤ) → IsPositive c.metric → sign *ℤ sign ≡ pos 1 → Takes c c w t sign → Keeps c w t sign
keeps_of_takes c w t sign positive two k = record { metric = k.metric; crystal = λ s q l. (k.images s q l, back s q l) }
  where
    one : determinant w *ℤ determinant w ≡ pos 1
    one = determinant-isometry c.metric w positive k.metric

    back : (s : ℕ) (q l : Triple) → Occupied c s (position_after w t q) (moment_after c.kind w sign l) → Occupied c s q l
    back s q l o =
        let f = k.onto s (position_after w t q) (moment_after c.kind w sign l) o in
        occupied_as c s (cancel_image w f.old_position q one (sum_cancel (image w f.old_position) (image w q) t f.position_is)) (cancel_moment c.kind w sign f.old_moment l two one f.moment_is) f.occupied

-- ---- maps with fractions

-- the map with integers that it is
pub record IsWholeMap (c c' : Structure) (b : Matrix) (translation : Triple) (d : ℕ) (sign : ℤ) : Type 0 where
  pub matrix : Matrix
  pub whole_translation : Triple
  pub matrix_is : b ≡ matrix_multiple (pos d) matrix
  pub translation_is : translation ≡ multiple (pos d) whole_translation
  pub unit : determinant matrix *ℤ determinant matrix ≡ pos 1
  pub takes : Takes c c' matrix whole_translation sign

above_zero : (d : ℕ) → pos 1 ≤ℤ pos d → pos 0 <ℤ pos d
above_zero d h = omega (arith, ints)

negative_part : (n : ℕ) → pos (suc n) *ℤ negsuc 0 ≡ negsuc n
negative_part n = omega (arith, ints)

-- the sign of a positive multiple of 1 or -1
pub sign_of_unit : (k a : ℤ) → pos 0 <ℤ k → a *ℤ a ≡ pos 1 → sign_of (k *ℤ a) ≡ a
sign_of_unit (negsuc n) a p e = absurd p.lt
sign_of_unit (pos zero) a p e = absurd (omega (arith, ints))
sign_of_unit (pos (suc n)) (pos zero) p e = absurd (omega (arith, ints))
sign_of_unit (pos (suc n)) (pos (suc zero)) p e = refl
sign_of_unit (pos (suc n)) (pos (suc (suc a))) p e = absurd (omega (arith, ints))
sign_of_unit (pos (suc n)) (negsuc zero) p e = ap sign_of (negative_part n)
sign_of_unit (pos (suc n)) (negsuc (suc a)) p e = absurd (omega (arith, ints))

sign_of_squared : (z : ℤ) → sign_of z *ℤ sign_of z ≡ pos 1
sign_of_squared (pos n) = refl
sign_of_squared (negsuc n) = refl

-- a matrix that takes a metric tensor to a positive one takes two triples to two
image_told : (w g' g : Matrix) → IsPositive g → metric_in w g' ≡ g → (u v : Triple) → image w u ≡ image w v → u ≡ v
image_told w g' g positive kept u v e = image_cancel g u v positive.third (through u ∙ ap (λ (p : Triple). image (transposed w) (image g' p)) e ∙ sym (through v))
  where
    through : (v : Triple) → image g v ≡ image (transposed w) (image g' (image w v))
    through v = ap (λ (a : Matrix). image a v) (sym kept) ∙ image-product (transposed w) (product g' w) v ∙ ap (image (transposed w)) (image-product g' w v)

module _ (c c' : Structure) (b : Matrix) (translation : Triple) (d : ℕ) (sign : ℤ) (units : HaveCommonUnits c c') (k : TakesAny c c' b translation d sign) where
  d_above : pos 0 <ℤ pos d
  d_above = above_zero d k.some_parts

  e_above : pos 0 <ℤ pos (divisor c.kind d)
  e_above = divisor-positive c.kind d d_above

  -- an atom there, and the atom n·v/d·B on from it
  record Step (s : ℕ) (q l v : Triple) : Type 0 where
    position : Triple
    is : multiple (pos d) position ≡ sum_of (multiple (pos d) q) (multiple (pos c.n) (image b v))
    occupied : Occupied c' s position l

  moved : (p v : Triple) → sum_of (image b (sum_of p (multiple (pos c.n) v))) translation ≡ sum_of (sum_of (image b p) translation) (multiple (pos c.n) (image b v))
  moved p v = ap (λ u. sum_of u translation) (image-sum_of b p (multiple (pos c.n) v) ∙ ap (sum_of (image b p)) (image-multiple b (pos c.n) v)) ∙ sum_swap (image b p) (multiple (pos c.n) (image b v)) translation

  step : (s : ℕ) (q l v : Triple) → Occupied c' s q l → Step s q l v
  step s q l v o =
      let f = k.onto s q l o in
      let i = k.images s (sum_of f.old_position (multiple (pos c.n) v)) f.old_moment (occupied_away c s f.old_position f.old_moment v f.occupied) in
      record {
        position = i.new_position;
        is = i.position_is ∙ moved f.old_position v ∙ ap (λ u. sum_of u (multiple (pos c.n) (image b v))) (sym f.position_is);
        occupied = occupied_as c' s refl (multiple_cancel (pos (divisor c.kind d)) i.new_moment l e_above (i.moment_is ∙ sym f.moment_is)) i.occupied;
      }

  -- where n·Bv is d·u, u is a translation there
  step_translation : (u v : Triple) → multiple (pos d) u ≡ multiple (pos c.n) (image b v) → IsTranslation c' u
  step_translation u v e = is_translation c' u forth back
    where
      forth : (s : ℕ) (q l : Triple) → Occupied c' s q l → Occupied c' s (sum_of q u) l
      forth s q l o =
          let t = step s q l v o in
          occupied_as c' s (multiple_cancel (pos d) t.position (sum_of q u) d_above (t.is ∙ ap (sum_of (multiple (pos d) q)) (sym e) ∙ sym (multiple-sum_of (pos d) q u))) refl t.occupied

      back : (s : ℕ) (q l : Triple) → Occupied c' s (sum_of q u) l → Occupied c' s q l
      back s q l o =
          let t = step s (sum_of q u) l (multiple (negsuc 0) v) o in
          let down : multiple (pos c.n) (image b (multiple (negsuc 0) v)) ≡ multiple (negsuc 0) (multiple (pos d) u) =
          ap (multiple (pos c.n)) (image-multiple b (negsuc 0) v) ∙ multiple_swap (pos c.n) (negsuc 0) (image b v) ∙ ap (multiple (negsuc 0)) (sym e) in
          occupied_as c' s (multiple_cancel (pos d) t.position q d_above (t.is ∙ (λ i. sum_of (multiple-sum_of (pos d) q u i) (down i)) ∙ add_subtract (multiple (pos d) q) (multiple (pos d) u))) refl t.occupied

  module _ (s : ℕ) (p m : Triple) (o : Occupied c s p m) (some_cells : pos 0 <ℤ pos c.n) (alone' : HasOnlyWholeCells c') where
    at : HasImage c.kind c' b translation d sign s p m
    at = k.images s p m o

    -- B v is d times a triple
    divides : (v : Triple) → (u : Triple) × (image b v ≡ image (matrix_multiple (pos d) identity) u)
    divides v =
        let i = k.images s (sum_of p (multiple (pos c.n) v)) m (occupied_away c s p m v o) in
        let u = sum_of i.new_position (multiple (negsuc 0) at.new_position) in
        let e : multiple (pos d) u ≡ multiple (pos c.n) (image b v) =
        sum_cancel (multiple (pos d) u) (multiple (pos c.n) (image b v)) (multiple (pos d) at.new_position)
        (sym (multiple-sum_of (pos d) u at.new_position) ∙ ap (multiple (pos d)) (subtract_add i.new_position at.new_position) ∙ i.position_is ∙ moved p v ∙ ap (λ w. sum_of w (multiple (pos c.n) (image b v))) (sym at.position_is)
        ∙ sum_comm (multiple (pos d) at.new_position) (multiple (pos c.n) (image b v))) in
        let y = alone' u (step_translation u v e) in (
          y.cells,
          multiple_cancel (pos c.n) (image b v) (multiple (pos d) y.cells) some_cells (sym e ∙ ap (multiple (pos d)) (y.is ∙ ap (λ (n : ℕ). multiple (pos n) y.cells) units.n) ∙ multiple_swap (pos d) (pos c.n) y.cells)
              ∙ sym (image-matrix_multiple (pos d) identity y.cells ∙ ap (multiple (pos d)) (image-identity y.cells)),
        )

    f : Factor b (matrix_multiple (pos d) identity)
    f = factor b (matrix_multiple (pos d) identity) divides

    w : Matrix
    w = f.matrix

    b_is : b ≡ matrix_multiple (pos d) w
    unfolding w
    b_is = f.is ∙ product-multiple (pos d) w

    image_b : (v : Triple) → image b v ≡ multiple (pos d) (image w v)
    image_b v = ap (λ a. image a v) b_is ∙ image-matrix_multiple (pos d) w v

    t : Triple
    t = sum_of at.new_position (multiple (negsuc 0) (image w p))

    translation_is : translation ≡ multiple (pos d) t
    unfolding t
    translation_is = sum_cancel translation (multiple (pos d) t) (image b p)
        (sum_comm translation (image b p) ∙ sym at.position_is ∙ ap (multiple (pos d)) (sym (subtract_add at.new_position (image w p))) ∙ multiple-sum_of (pos d) t (image w p) ∙ ap (sum_of (multiple (pos d) t)) (sym (image_b p)))

    position_is : (q : Triple) → sum_of (image b q) translation ≡ multiple (pos d) (position_after w t q)
    position_is q = (λ i. sum_of (image_b q i) (translation_is i)) ∙ sym (multiple-sum_of (pos d) (image w q) t)

    -- where an atom is brought
    brought : (q new : Triple) → multiple (pos d) new ≡ sum_of (image b q) translation → new ≡ position_after w t q
    brought q new e = multiple_cancel (pos d) new (position_after w t q) d_above (e ∙ position_is q)

    module _ (positive : IsPositive c.metric) (two : sign *ℤ sign ≡ pos 1) (alone : HasOnlyWholeCells c) where
      metric_kept : metric_in w c'.metric ≡ c.metric
      metric_kept = matrix_multiple_cancel (pos d *ℤ pos d) (metric_in w c'.metric) c.metric (mul_pos (pos d) (pos d) d_above d_above)
          (sym (metric_in-matrix_multiple (pos d) w c'.metric) ∙ ap (λ a. metric_in a c'.metric) (sym b_is) ∙ k.metric)

      w_told : (u v : Triple) → image w u ≡ image w v → u ≡ v
      w_told = image_told w c'.metric c.metric positive metric_kept

      position_told : (q r : Triple) → position_after w t q ≡ position_after w t r → q ≡ r
      position_told q r e = w_told q r (sum_cancel (image w q) (image w r) t e)

      b_told : (u v : Triple) → image b u ≡ image b v → u ≡ v
      b_told u v e = w_told u v (multiple_cancel (pos d) (image w u) (image w v) d_above (sym (image_b u) ∙ e ∙ image_b v))

      factor_unit : (sign *ℤ axial_factor c.kind (sign_of (determinant b))) *ℤ (sign *ℤ axial_factor c.kind (sign_of (determinant b))) ≡ pos 1
      factor_unit = unit_product sign (axial_factor c.kind (sign_of (determinant b))) two (axial_factor-unit c.kind (sign_of (determinant b)) (sign_of_squared (determinant b)))

      moment_told : (l j : Triple) → multiple (sign *ℤ axial_factor c.kind (sign_of (determinant b))) (image (turn_matrix c.kind b) l) ≡ multiple (sign *ℤ axial_factor c.kind (sign_of (determinant b))) (image (turn_matrix c.kind b) j) → l ≡ j
      moment_told l j e = turn-injective c.kind b b_told l j (cancel_multiple (sign *ℤ axial_factor c.kind (sign_of (determinant b))) (image (turn_matrix c.kind b) l) (image (turn_matrix c.kind b) j) factor_unit e)

      -- where W u is whole cells there, u moves atoms to atoms here
      shifted : (y u : Triple) → image w u ≡ multiple (pos c'.n) y → (r : ℕ) (q l : Triple) → Occupied c r q l → Occupied c r (sum_of q u) l
      shifted y u e r q l a =
          let i = k.images r q l a in
          let h = k.onto r (sum_of i.new_position (multiple (pos c'.n) y)) i.new_moment (occupied_away c' r i.new_position i.new_moment y i.occupied) in
          let there : sum_of i.new_position (multiple (pos c'.n) y) ≡ position_after w t (sum_of q u) =
          (λ j. sum_of (brought q i.new_position i.position_is j) (sym e j)) ∙ sym (position_after-sum_of w t q u) in
          occupied_as c r
          (position_told h.old_position (sum_of q u) (sym (brought h.old_position (sum_of i.new_position (multiple (pos c'.n) y)) h.position_is) ∙ there))
          (moment_told h.old_moment l (sym h.moment_is ∙ i.moment_is)) h.occupied

      -- so it is a translation here
      cells_come : (y u : Triple) → image w u ≡ multiple (pos c'.n) y → IsTranslation c u
      cells_come y u e = is_translation c u (shifted y u e) (λ r q l a. occupied_as c r (add_subtract q u) refl (shifted (multiple (negsuc 0) y) (multiple (negsuc 0) u) down r (sum_of q u) l a))
        where
          down : image w (multiple (negsuc 0) u) ≡ multiple (pos c'.n) (multiple (negsuc 0) y)
          down = image-multiple w (negsuc 0) u ∙ ap (multiple (negsuc 0)) e ∙ multiple_swap (negsuc 0) (pos c'.n) y

      -- two positions that are brought to whole cells y apart differ by a triple whose image they are
      apart : (q y : Triple) → sum_of at.new_position (multiple (pos c'.n) y) ≡ position_after w t q → image w (sum_of q (multiple (negsuc 0) p)) ≡ multiple (pos c'.n) y
      apart q y e =
          let u = sum_of q (multiple (negsuc 0) p) in
          let from = position_after w t p in
          let cells = multiple (pos c'.n) y in
          let here : sum_of from (image w u) ≡ sum_of from cells =
          sym (position_after-sum_of w t p u) ∙ ap (position_after w t) (add_difference q p) ∙ sym e ∙ ap (λ (r : Triple). sum_of r cells) (brought p at.new_position at.position_is) in
          sum_cancel (image w u) cells from (sum_comm (image w u) from ∙ here ∙ sum_comm from cells)

      -- W x is y where W takes n x to n y
      divided : (u x y : Triple) → u ≡ multiple (pos c.n) x → image w u ≡ multiple (pos c'.n) y → image w x ≡ y
      divided u x y is e =
          multiple_cancel (pos c.n) (image w x) y some_cells (sym (image-multiple w (pos c.n) x) ∙ ap (image w) (sym is) ∙ e ∙ ap (λ (n : ℕ). multiple (pos n) y) units.n)

      -- each triple is the image of one
      reached : (y : Triple) → (x : Triple) × (image identity y ≡ image w x)
      reached y =
          let there = sum_of at.new_position (multiple (pos c'.n) y) in
          let g = k.onto s there at.new_moment (occupied_away c' s at.new_position at.new_moment y at.occupied) in
          let u = sum_of g.old_position (multiple (negsuc 0) p) in
          let e = apart g.old_position y (brought g.old_position there g.position_is) in
          let x = alone u (cells_come y u e) in
          (x.cells, image-identity y ∙ sym (divided u x.cells y x.is e))

      -- so W has an inverse
      one : determinant w *ℤ determinant w ≡ pos 1
      one =
          let i = factor identity w reached in
          unit_of_product (determinant w) (determinant i.matrix) (sym (determinant-product w i.matrix) ∙ ap determinant (sym i.is))

      sign_is : sign_of (determinant b) ≡ determinant w
      sign_is = ap sign_of (ap determinant b_is ∙ determinant-matrix_multiple (pos d) w) ∙ sign_of_unit (pos d *ℤ (pos d *ℤ pos d)) (determinant w) (mul_pos (pos d) (pos d *ℤ pos d) d_above (mul_pos (pos d) (pos d) d_above d_above)) one

      moment_is : (l : Triple) → multiple (sign *ℤ axial_factor c.kind (sign_of (determinant b))) (image (turn_matrix c.kind b) l) ≡ multiple (pos (divisor c.kind d)) (moment_after c.kind w sign l)
      moment_is l = moment_after-whole c.kind b w d (sign_of (determinant b)) sign b_is sign_is l

      -- so the map is one of integers
      pub whole_map : IsWholeMap c c' b translation d sign
      whole_map = record { matrix = w; whole_translation = t; matrix_is = b_is; translation_is = translation_is; unit = one; takes = record { kind = k.kind; metric = metric_kept; images = images; onto = onto } }
        where
          images : (r : ℕ) (q l : Triple) → Occupied c r q l → Occupied c' r (position_after w t q) (moment_after c.kind w sign l)
          images r q l a =
              let i = k.images r q l a in
              occupied_as c' r (brought q i.new_position i.position_is) (multiple_cancel (pos (divisor c.kind d)) i.new_moment (moment_after c.kind w sign l) e_above (i.moment_is ∙ moment_is l)) i.occupied

          onto : (r : ℕ) (q l : Triple) → Occupied c' r q l → TakenFrom c w t sign r q l
          onto r q l a =
              let i = k.onto r q l a in
              record {
                old_position = i.old_position;
                old_moment = i.old_moment;
                position_is = sym (brought i.old_position q i.position_is);
                moment_is = multiple_cancel (pos (divisor c.kind d)) (moment_after c.kind w sign i.old_moment) l e_above (sym (moment_is i.old_moment) ∙ sym i.moment_is);
                occupied = i.occupied;
              }

-- ---- a map with fractions that keeps a primitive crystal

-- the map with integers that it is
pub record IsWhole (c : Structure) (b : Matrix) (translation : Triple) (d : ℕ) (sign : ℤ) : Type 0 where
  pub matrix : Matrix
  pub whole_translation : Triple
  pub matrix_is : b ≡ matrix_multiple (pos d) matrix
  pub translation_is : translation ≡ multiple (pos d) whole_translation
  pub keeps : Keeps c matrix whole_translation sign

pub whole : (c : Structure) (b : Matrix) (translation : Triple) (d : ℕ) (sign : ℤ) → KeepsAny c b translation d sign → (s : ℕ) (p m : Triple) → Occupied c s p m → pos 0 <ℤ pos c.n → HasOnlyWholeCells c → IsPositive c.metric → sign *ℤ sign ≡ pos 1 →
    IsWhole c b translation d sign
whole c b translation d sign k s p m o some_cells alone positive two =
    let f = whole_map c c b translation d sign (record { names = refl; scale = refl; n = refl; k = refl }) k s p m o some_cells alone positive two alone in
    record { matrix = f.matrix; whole_translation = f.whole_translation; matrix_is = f.matrix_is; translation_is = f.translation_is; keeps = keeps_of_takes c f.matrix f.whole_translation sign positive two f.takes }
