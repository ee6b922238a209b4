-- What keeps a crystal, in one basis and in another.
--
-- Let Q take coordinates to the other basis. Where an integer V with V Q = Q W keeps the crystal there, W keeps it here:
-- multiply out and cancel Q. Conversely, let W keep the crystal, and let the other cell be primitive. Whole cells there
-- are images of translations t, so Q times the matrix of these is n. W takes them to translations, and Q takes these to
-- whole cells, since the other cell is primitive: Q W steps = n V, so V Q = Q W. No reduced basis is used.
use Rattle.std.proofs.Common.{◌≡◌, ℕ, ℤ, pos, negsuc, ◌*ℤ◌, ◌≤ℤ◌, ◌<ℤ◌, [], ◌∷◌, refl, sym, ap, subst, ◌∙◌, arith}
use Rattle.std.proofs.lemmas.Int.{ints}
use Rattle.ring.specs.Ring.{var, ◌:*◌}
use Rattle.crystal_spec.specs.Matrices.{Triple, Matrix, product, image, determinant, multiple, sum_of, identity}
use Rattle.basis_spec.specs.Metrics.{matrix_multiple, metric_in}
use Rattle.crystal_spec.specs.declared.MomentKind.{MomentKind}
use Rattle.crystal_spec.specs.Moments.{turn_matrix}
use Rattle.crystal_spec.specs.Crystals.{Structure, Occupied, Keeps, position_after, moment_after, IsPositive}
use Rattle.basis_spec.specs.Translations.{IsTranslation, HasOnlyWholeCells}
use Rattle.basis_spec.specs.Bases.{SameCrystal}
use Rattle.basis_spec.proofs.MatrixLaws.{Factor, factor, same_images, image-identity, image-multiple, image-sum_of, image-product, image-matrix_multiple, multiple_swap, sum_assoc, sum_comm, add_subtract, subtract_add, metric_in-multiple_metric, metric_in-product, product-multiple}
use Rattle.basis_spec.proofs.Cancelling.{mul_cancel, multiple_cancel, matrix_multiple_cancel, sum_cancel, image_cancel, metric_in_cancel, square_positive}
use Rattle.basis_spec.proofs.Translations.{occupied_as, occupied_away, is_translation, moves, moves_back, translation_carried, source}
use Rattle.crystal_spec.proofs.Identities.{by_integers}
use Rattle.crystal_spec.proofs.Isometries.{cancel_image, determinant-isometry, determinant-product}
use Rattle.crystal_spec.proofs.Moments.{cancel_moment, moment_after-turned}

-- the map of the other basis that (w, translation, sign) is: an integer V with V Q = Q W, and the translation Q w
pub record KeepsThere (c' : Structure) (r : Matrix) (w : Matrix) (translation : Triple) (sign : ℤ) : Type 0 where
  pub matrix : Matrix
  pub turned : product matrix r ≡ product r w
  pub keeps : Keeps c' matrix (image r translation) sign

-- what is at least 1 is positive
pub at_least_one : (h : ℤ) → pos 1 ≤ℤ h → pos 0 <ℤ h
at_least_one h p = omega (arith, ints)

-- whole cells are translations
pub cells_translation : (c : Structure) (d : Triple) → IsTranslation c (multiple (pos c.n) d)
cells_translation c d = is_translation c (multiple (pos c.n) d) (λ s p m o. occupied_away c s p m d o) back
  where
    undone : (p : Triple) → sum_of (sum_of p (multiple (pos c.n) d)) (multiple (pos c.n) (multiple (negsuc 0) d)) ≡ p
    undone p = ap (sum_of (sum_of p (multiple (pos c.n) d))) (multiple_swap (pos c.n) (negsuc 0) d) ∙ add_subtract p (multiple (pos c.n) d)

    back : (s : ℕ) (p m : Triple) → Occupied c s (sum_of p (multiple (pos c.n) d)) m → Occupied c s p m
    back s p m o = occupied_as c s (undone p) refl (occupied_away c s (sum_of p (multiple (pos c.n) d)) m (multiple (negsuc 0) d) o)

position_after-moved : (w : Matrix) (t u p : Triple) → sum_of (position_after w t p) u ≡ position_after w (sum_of t u) p
position_after-moved w t u p = sum_assoc (image w p) t u

-- a translation part may change by a translation of the crystal, so by whole cells
pub keeps_moved : (c : Structure) (w : Matrix) (t u : Triple) (sign : ℤ) → IsTranslation c u → Keeps c w t sign → Keeps c w (sum_of t u) sign
keeps_moved c w t u sign is k = record {
  metric = k.metric;
  crystal = λ s p m. (
    (λ o. occupied_as c s (position_after-moved w t u p) refl (moves c u is s (position_after w t p) (moment_after c.kind w sign m) ((k.crystal s p m).0 o))),
    (λ o. (k.crystal s p m).1 (moves_back c u is s (position_after w t p) (moment_after c.kind w sign m) (occupied_as c s (sym (position_after-moved w t u p)) refl o))),
  );
}

module _ (c c' : Structure) (r : Matrix) (same : SameCrystal c c' r) where
  r_above : pos 0 <ℤ determinant r
  r_above = at_least_one (determinant r) same.determinant_positive

  -- a translation is one in the other basis
  pub translation_there : (t : Triple) → IsTranslation c t → IsTranslation c' (image r t)
  translation_there t is = is_translation c' (image r t) forth back
    where
      forth : (s : ℕ) (q l : Triple) → Occupied c' s q l → Occupied c' s (sum_of q (image r t)) l
      forth s q l o =
          let f = same.onto s q l o in
          occupied_as c' s (image-sum_of r f.old_position t ∙ ap (λ v. sum_of v (image r t)) f.position_is) f.moment_is ((same.crystal s (sum_of f.old_position t) f.old_moment).0 (moves c t is s f.old_position f.old_moment f.occupied))

      back : (s : ℕ) (q l : Triple) → Occupied c' s (sum_of q (image r t)) l → Occupied c' s q l
      back s q l o =
          let f = same.onto s (sum_of q (image r t)) l o in
          let p = sum_of f.old_position (multiple (negsuc 0) t) in
          let here : Occupied c s p f.old_moment = moves_back c t is s p f.old_moment (occupied_as c s (sym (subtract_add f.old_position t)) refl f.occupied) in
          occupied_as c' s (image-sum_of r f.old_position (multiple (negsuc 0) t) ∙ (λ i. sum_of (f.position_is i) (image-multiple r (negsuc 0) t i)) ∙ add_subtract q (image r t)) f.moment_is ((same.crystal s p f.old_moment).0 here)

  -- what is a translation there is one here
  pub translation_here : (t : Triple) → IsTranslation c' (image r t) → IsTranslation c t
  translation_here t is = is_translation c t
      (λ s p m o. (same.crystal s (sum_of p t) m).1 (occupied_as c' s (sym (image-sum_of r p t)) refl (moves c' (image r t) is s (image r p) (image (turn_matrix c.kind r) m) ((same.crystal s p m).0 o))))
      (λ s p m o. (same.crystal s p m).1 (moves_back c' (image r t) is s (image r p) (image (turn_matrix c.kind r) m) (occupied_as c' s (image-sum_of r p t) refl ((same.crystal s (sum_of p t) m).0 o))))

  -- ---- from the other basis to this one
  pub keeps_here : (w : Matrix) (translation : Triple) (sign : ℤ) → KeepsThere c' r w translation sign → Keeps c w translation sign
  keeps_here w translation sign k = record {
    metric = kept;
    crystal = λ s p m. (
      (λ o. (same.crystal s (position_after w translation p) (moment_after c.kind w sign m)).1 (occupied_as c' s (position_is p) (moment_is m) ((k.keeps.crystal s (image r p) (image (turn_matrix c.kind r) m)).0 ((same.crystal s p m).0 o)))),
      (λ o. (same.crystal s p m).1 ((k.keeps.crystal s (image r p) (image (turn_matrix c.kind r) m)).1 (occupied_as c' s (sym (position_is p)) (sym (moment_is m)) ((same.crystal s (position_after w translation p) (moment_after c.kind w sign m)).0 o)))),
    );
  }
    where
      v : Matrix
      v = k.matrix

      turned : (p : Triple) → image k.matrix (image r p) ≡ image r (image w p)
      turned p = sym (image-product k.matrix r p) ∙ ap (λ a. image a p) k.turned ∙ image-product r w p

      swapped : (a b : ℤ) → a *ℤ b ≡ b *ℤ a
      swapped a b = by_integers (a ∷ b ∷ []) (var 0 :* var 1) (var 1 :* var 0) refl

      determinant_is : determinant k.matrix ≡ determinant w
      determinant_is = mul_cancel (determinant r) (determinant k.matrix) (determinant w) r_above (swapped (determinant r) (determinant k.matrix) ∙ sym (determinant-product k.matrix r) ∙ ap determinant k.turned ∙ determinant-product r w)

      position_is : (p : Triple) → position_after k.matrix (image r translation) (image r p) ≡ image r (position_after w translation p)
      position_is p = ap (λ u. sum_of u (image r translation)) (turned p) ∙ sym (image-sum_of r (image w p) translation)

      moment_is : (m : Triple) → moment_after c'.kind k.matrix sign (image (turn_matrix c.kind r) m) ≡ image (turn_matrix c.kind r) (moment_after c.kind w sign m)
      moment_is m = ap (λ (kind : MomentKind). moment_after kind k.matrix sign (image (turn_matrix c.kind r) m)) same.kind ∙ moment_after-turned c.kind k.matrix w r sign k.turned determinant_is m

      kept : metric_in w c.metric ≡ c.metric
      kept = matrix_multiple_cancel (determinant r *ℤ determinant r) (metric_in w c.metric) c.metric (square_positive (determinant r) r_above)
          (sym (metric_in-multiple_metric w (determinant r *ℤ determinant r) c.metric) ∙ ap (metric_in w) (sym same.metric) ∙ sym (metric_in-product r w c'.metric) ∙ ap (λ a. metric_in a c'.metric) (sym k.turned)
          ∙ metric_in-product k.matrix r c'.metric ∙ ap (metric_in r) k.keeps.metric ∙ same.metric)

  -- ---- from this basis to the other
  module _ (alone : HasOnlyWholeCells c') (some_cells : pos 0 <ℤ pos c.n) (s : ℕ) (p m : Triple) (o : Occupied c s p m) where
    n' : pos c'.n ≡ pos c.n
    n' = ap pos same.n

    -- each triple of whole cells there is the image of a triple
    from_cells : (y : Triple) → (t : Triple) × (image (matrix_multiple (pos c.n) identity) y ≡ image r t)
    from_cells y =
        let there : Occupied c' s (sum_of (image r p) (multiple (pos c'.n) y)) (image (turn_matrix c.kind r) m) = occupied_away c' s (image r p) (image (turn_matrix c.kind r) m) y ((same.crystal s p m).0 o) in
        let f = same.onto s (sum_of (image r p) (multiple (pos c'.n) y)) (image (turn_matrix c.kind r) m) there in
        let t = sum_of f.old_position (multiple (negsuc 0) p) in (
          t,
          image-matrix_multiple (pos c.n) identity y ∙ ap (multiple (pos c.n)) (image-identity y) ∙ ap (λ k. multiple k y) (sym n') ∙ sym (
              sum_cancel (image r t) (multiple (pos c'.n) y) (image r p) (sym (image-sum_of r t p) ∙ ap (image r) (subtract_add f.old_position p) ∙ f.position_is ∙ sum_comm (image r p) (multiple (pos c'.n) y))),
        )

    -- the basis of the translations: Q times it is n
    pub steps : Factor (matrix_multiple (pos c.n) identity) r
    steps = factor (matrix_multiple (pos c.n) identity) r from_cells

    times_n : (y : Triple) → image (matrix_multiple (pos c.n) identity) y ≡ multiple (pos c.n) y
    times_n y = image-matrix_multiple (pos c.n) identity y ∙ ap (multiple (pos c.n)) (image-identity y)

    -- Q times the basis of the translations is n
    pub steps_there : (y : Triple) → image r (image steps.matrix y) ≡ multiple (pos c.n) y
    steps_there y = sym (image-product r steps.matrix y) ∙ ap (λ a. image a y) (sym steps.is) ∙ times_n y

    -- and so is that basis times Q
    pub steps_back : (t : Triple) → image steps.matrix (image r t) ≡ multiple (pos c.n) t
    steps_back t = image_cancel r (image steps.matrix (image r t)) (multiple (pos c.n) t) r_above (steps_there (image r t) ∙ sym (image-multiple r (pos c.n) t))

    step_translation : (y : Triple) → IsTranslation c (image steps.matrix y)
    step_translation y = translation_here (image steps.matrix y) (subst (IsTranslation c') (ap (λ k. multiple k y) n' ∙ sym (steps_there y)) (cells_translation c' y))

    -- what keeps the crystal here keeps it there
    pub keeps_there : IsPositive c.metric → (w : Matrix) (translation : Triple) (sign : ℤ) → sign *ℤ sign ≡ pos 1 → Keeps c w translation sign → KeepsThere c' r w translation sign
    keeps_there positive w translation sign two k = record { matrix = v.matrix; turned = turned; keeps = record { metric = kept; crystal = λ t q l. (forth t q l, back t q l) } }
      where
        carried_cells : (y : Triple) → (u : Triple) × (image (product r (product w steps.matrix)) y ≡ image (matrix_multiple (pos c.n) identity) u)
        carried_cells y =
            let carried = translation_there (image w (image steps.matrix y)) (translation_carried c w translation sign positive two k (image steps.matrix y) (step_translation y)) in
            let whole = alone (image r (image w (image steps.matrix y))) carried in
            (whole.cells, image-product r (product w steps.matrix) y ∙ ap (image r) (image-product w steps.matrix y) ∙ whole.is ∙ ap (λ k. multiple k whole.cells) n' ∙ sym (times_n whole.cells))

        v : Factor (product r (product w steps.matrix)) (matrix_multiple (pos c.n) identity)
        v = factor (product r (product w steps.matrix)) (matrix_multiple (pos c.n) identity) carried_cells

        v_is : (y : Triple) → multiple (pos c.n) (image v.matrix y) ≡ image r (image w (image steps.matrix y))
        v_is y = sym (image-matrix_multiple (pos c.n) v.matrix y) ∙ ap (λ a. image a y) (sym (product-multiple (pos c.n) v.matrix) ∙ sym v.is) ∙ image-product r (product w steps.matrix) y ∙ ap (image r) (image-product w steps.matrix y)

        turns : (t : Triple) → image v.matrix (image r t) ≡ image r (image w t)
        turns t = multiple_cancel (pos c.n) (image v.matrix (image r t)) (image r (image w t)) some_cells
            (v_is (image r t) ∙ ap (λ u. image r (image w u)) (steps_back t) ∙ ap (image r) (image-multiple w (pos c.n) t) ∙ image-multiple r (pos c.n) (image w t))

        turned : product v.matrix r ≡ product r w
        turned = same_images (product v.matrix r) (product r w) (λ t. image-product v.matrix r t ∙ turns t ∙ sym (image-product r w t))

        kept : metric_in v.matrix c'.metric ≡ c'.metric
        kept = metric_in_cancel r (metric_in v.matrix c'.metric) c'.metric r_above
            (sym (metric_in-product v.matrix r c'.metric) ∙ ap (λ a. metric_in a c'.metric) turned ∙ metric_in-product r w c'.metric ∙ ap (metric_in w) same.metric ∙ metric_in-multiple_metric w (determinant r *ℤ determinant r) c.metric
            ∙ ap (matrix_multiple (determinant r *ℤ determinant r)) k.metric ∙ sym same.metric)

        swapped : (a b : ℤ) → a *ℤ b ≡ b *ℤ a
        swapped a b = by_integers (a ∷ b ∷ []) (var 0 :* var 1) (var 1 :* var 0) refl

        determinant_is : determinant v.matrix ≡ determinant w
        determinant_is = mul_cancel (determinant r) (determinant v.matrix) (determinant w) r_above (swapped (determinant r) (determinant v.matrix) ∙ sym (determinant-product v.matrix r) ∙ ap determinant turned ∙ determinant-product r w)

        one : determinant w *ℤ determinant w ≡ pos 1
        one = determinant-isometry c.metric w positive k.metric

        one_there : determinant v.matrix *ℤ determinant v.matrix ≡ pos 1
        one_there = ap (λ h. h *ℤ h) determinant_is ∙ one

        position_is : (p : Triple) → position_after v.matrix (image r translation) (image r p) ≡ image r (position_after w translation p)
        position_is p = ap (λ u. sum_of u (image r translation)) (turns p) ∙ sym (image-sum_of r (image w p) translation)

        moment_is : (m : Triple) → moment_after c'.kind v.matrix sign (image (turn_matrix c.kind r) m) ≡ image (turn_matrix c.kind r) (moment_after c.kind w sign m)
        moment_is m = ap (λ (kind : MomentKind). moment_after kind v.matrix sign (image (turn_matrix c.kind r) m)) same.kind ∙ moment_after-turned c.kind v.matrix w r sign turned determinant_is m

        forth : (t : ℕ) (q l : Triple) → Occupied c' t q l → Occupied c' t (position_after v.matrix (image r translation) q) (moment_after c'.kind v.matrix sign l)
        forth t q l a =
            let f = same.onto t q l a in
            occupied_as c' t (sym (position_is f.old_position) ∙ ap (position_after v.matrix (image r translation)) f.position_is) (sym (moment_is f.old_moment) ∙ ap (moment_after c'.kind v.matrix sign) f.moment_is)
            ((same.crystal t (position_after w translation f.old_position) (moment_after c.kind w sign f.old_moment)).0 ((k.crystal t f.old_position f.old_moment).0 f.occupied))

        back : (t : ℕ) (q l : Triple) → Occupied c' t (position_after v.matrix (image r translation) q) (moment_after c'.kind v.matrix sign l) → Occupied c' t q l
        back t q l a =
            let f = same.onto t (position_after v.matrix (image r translation) q) (moment_after c'.kind v.matrix sign l) a in
            let g = source c.kind w translation sign one two f.old_position f.old_moment in
            let here : Occupied c t g.old_position g.old_moment = (k.crystal t g.old_position g.old_moment).1 (occupied_as c t (sym g.position_is) (sym g.moment_is) f.occupied) in
            occupied_as c' t
            (cancel_image v.matrix (image r g.old_position) q one_there (sum_cancel (image v.matrix (image r g.old_position)) (image v.matrix q) (image r translation) (position_is g.old_position ∙ ap (image r) g.position_is ∙ f.position_is)))
            (cancel_moment c'.kind v.matrix sign (image (turn_matrix c.kind r) g.old_moment) l two one_there (moment_is g.old_moment ∙ ap (image (turn_matrix c.kind r)) g.moment_is ∙ f.moment_is))
            ((same.crystal t g.old_position g.old_moment).0 here)
