-- A map with fractions between two primitive crystals is one of integers, and its matrix is unimodular.
--
-- Let p ↦ q with e q = n' B p + t carry c onto c', where e = n d. Whole cells v of c take each atom of c' on by the u of
-- d u = n' B v, so u is a translation of c'; c' is primitive, so B v is d times a triple, and B = d W. Whole cells v of c'
-- come from the u of W u = n v, a translation of c; c is primitive, so u is n y, and W y = v. So W has an inverse of integers.
use Rattle.std.proofs.Common.{◌≡◌, ℕ, suc, zero, ℤ, pos, negsuc, ◌*ℤ◌, ◌<ℤ◌, [], ◌∷◌, refl, sym, ap, subst, ◌∙◌, arith}
use Rattle.std.proofs.lemmas.Int.{ints}
use Rattle.ring.specs.Ring.{var, ◌:*◌}
use Rattle.ring.proofs.IntOrder.{mul_pos}
use Rattle.lists.specs.Increasing.{IsDistinct}
use Rattle.crystal_spec.specs.Matrices.{Triple, Matrix, image, determinant, adjugate, multiple, sum_of, identity}
use Rattle.crystal_spec.specs.Crystals.{Structure, Occupied}
use Rattle.crystal_spec.proofs.Identities.{by_integers}
use Rattle.crystal_spec.proofs.Isometries.{image-adjugate, determinant-product, unit_of_product}
use Rattle.basis_spec.specs.Metrics.{matrix_multiple}
use Rattle.basis_spec.specs.Translations.{IsTranslation, HasOnlyWholeCells}
use Rattle.basis_spec.proofs.MatrixLaws.{Factor, factor, image-identity, image-multiple, image-sum_of, image-matrix_multiple, multiple-multiple, multiple_swap, multiple-sum_of, sum_comm, sum_swap, add_subtract, subtract_add, product-multiple}
use Rattle.basis_spec.proofs.Cancelling.{multiple_cancel, sum_cancel}
use Rattle.basis_spec.proofs.Translations.{occupied_as, occupied_away, is_translation}
use Rattle.crystal_compare.specs.Search.{Moves, HasMovedTo}
use Rattle.crystal_compare.proofs.Names.{same_first, same_second}

-- the square of a number that is not 0 is positive
pub square_above : (a : ℤ) → (a ≡ pos 0 → ⊥) → pos 0 <ℤ (a *ℤ a)
square_above (pos zero) h = absurd (h refl)
square_above (pos (suc n)) h = omega (arith, ints)
square_above (negsuc n) h = omega (arith, ints)

-- a matrix whose determinant is not 0 takes two triples to two
pub image_told : (a : Matrix) (u v : Triple) → (determinant a ≡ pos 0 → ⊥) → image a u ≡ image a v → u ≡ v
image_told a u v h e = multiple_cancel (determinant a *ℤ determinant a) u v (square_above (determinant a) h) (back u ∙ ap (λ w. multiple (determinant a) (image (adjugate a) w)) e ∙ sym (back v))
  where
    back : (w : Triple) → multiple (determinant a *ℤ determinant a) w ≡ multiple (determinant a) (image (adjugate a) (image a w))
    back w = sym (multiple-multiple (determinant a) (determinant a) w) ∙ ap (multiple (determinant a)) (sym (image-adjugate a w))

-- d times a unimodular matrix of integers
pub record IsWhole (b : Matrix) (d : ℕ) : Type 0 where
  pub matrix : Matrix
  pub is : b ≡ matrix_multiple (pos d) matrix
  pub unimodular : determinant matrix *ℤ determinant matrix ≡ pos 1

module _ (c c' : Structure) (b : Matrix) (t : Triple) (e k : ℤ) (l : Matrix) (moves : Moves c c' b t e k l) (e_above : pos 0 <ℤ e) (k_above : pos 0 <ℤ k) (l_turns : determinant l ≡ pos 0 → ⊥) (b_turns : determinant b ≡ pos 0 → ⊥)
    (told : IsDistinct c.names) (told' : IsDistinct c'.names) (n_above : pos 0 <ℤ pos c.n) (n'_above : pos 0 <ℤ pos c'.n) where
  n : ℤ
  n = pos c.n

  n' : ℤ
  n' = pos c'.n

  -- ---- whole cells of c

  -- whole cells further on
  moved : (p v : Triple) → sum_of (multiple (pos c'.n) (image b (sum_of p (multiple (pos c.n) v)))) t ≡ sum_of (sum_of (multiple (pos c'.n) (image b p)) t) (multiple (pos c'.n) (multiple (pos c.n) (image b v)))
  moved p v = ap (λ u. sum_of (multiple (pos c'.n) u) t) (image-sum_of b p (multiple (pos c.n) v) ∙ ap (sum_of (image b p)) (image-multiple b (pos c.n) v))
      ∙ ap (λ u. sum_of u t) (multiple-sum_of (pos c'.n) (image b p) (multiple (pos c.n) (image b v)))
      ∙ sum_swap (multiple (pos c'.n) (image b p)) (multiple (pos c'.n) (multiple (pos c.n) (image b v))) t

  -- an atom of c', and the atom to which whole cells of c take it
  record Step (r : ℕ) (q h v : Triple) : Type 0 where
    position : Triple
    is : multiple e position ≡ sum_of (multiple e q) (multiple (pos c'.n) (multiple (pos c.n) (image b v)))
    occupied : Occupied c' r position h

  step : (r : ℕ) (q h v : Triple) → Occupied c' r q h → Step r q h v
  step r q h v o =
      let f = moves.onto r q h o in
      let i = moves.images f.species (sum_of f.position (multiple (pos c.n) v)) f.moment (occupied_away c f.species f.position f.moment v f.occupied) in
      record {
        position = i.position;
        is = i.moved.position ∙ moved f.position v ∙ ap (λ u. sum_of u (multiple (pos c'.n) (multiple (pos c.n) (image b v)))) (sym f.moved.position);
        occupied = subst (λ (x : ℕ). Occupied c' x i.position h) (same_second c c' f.species i.species r told' i.moved.one_name f.moved.one_name)
            (occupied_as c' i.species refl (multiple_cancel k i.moment h k_above (i.moved.moment ∙ sym f.moved.moment)) i.occupied);
      }

  -- where e u is n' n B v, the translation by u keeps c'
  step_translation : (u v : Triple) → multiple e u ≡ multiple (pos c'.n) (multiple (pos c.n) (image b v)) → IsTranslation c' u
  step_translation u v is = is_translation c' u forth back
    where
      forth : (r : ℕ) (q h : Triple) → Occupied c' r q h → Occupied c' r (sum_of q u) h
      forth r q h o =
          let j = step r q h v o in
          occupied_as c' r (multiple_cancel e j.position (sum_of q u) e_above (j.is ∙ ap (sum_of (multiple e q)) (sym is) ∙ sym (multiple-sum_of e q u))) refl j.occupied

      down : multiple (pos c'.n) (multiple (pos c.n) (image b (multiple (negsuc 0) v))) ≡ multiple (negsuc 0) (multiple e u)
      down = ap (λ w. multiple (pos c'.n) (multiple (pos c.n) w)) (image-multiple b (negsuc 0) v) ∙ ap (multiple (pos c'.n)) (multiple_swap (pos c.n) (negsuc 0) (image b v)) ∙ multiple_swap (pos c'.n) (negsuc 0) (multiple (pos c.n) (image b v)) ∙ ap (multiple (negsuc 0)) (sym is)

      back : (r : ℕ) (q h : Triple) → Occupied c' r (sum_of q u) h → Occupied c' r q h
      back r q h o =
          let j = step r (sum_of q u) h (multiple (negsuc 0) v) o in
          occupied_as c' r (multiple_cancel e j.position q e_above (j.is ∙ (λ i. sum_of (multiple-sum_of e q u i) (down i)) ∙ add_subtract (multiple e q) (multiple e u))) refl j.occupied

  -- ---- whole cells of c'

  -- an atom of c, and the atom whose image lies whole cells of c' from its own
  record Source (s : ℕ) (p m v : Triple) : Type 0 where
    position : Triple
    is : multiple (pos c'.n) (image b position) ≡ sum_of (multiple (pos c'.n) (image b p)) (multiple e (multiple (pos c'.n) v))
    occupied : Occupied c s position m

  source : (s : ℕ) (p m v : Triple) → Occupied c s p m → Source s p m v
  source s p m v o =
      let i = moves.images s p m o in
      let f = moves.onto i.species (sum_of i.position (multiple (pos c'.n) v)) i.moment (occupied_away c' i.species i.position i.moment v i.occupied) in
      let y = multiple e (multiple (pos c'.n) v) in
      record {
        position = f.position;
        is = sum_cancel (multiple (pos c'.n) (image b f.position)) (sum_of (multiple (pos c'.n) (image b p)) y) t
            (sym f.moved.position ∙ multiple-sum_of e i.position (multiple (pos c'.n) v) ∙ ap (λ u. sum_of u y) i.moved.position ∙ sum_swap (multiple (pos c'.n) (image b p)) t y);
        occupied = subst (λ (x : ℕ). Occupied c x f.position m) (same_first c c' f.species s i.species told f.moved.one_name i.moved.one_name)
            (occupied_as c f.species refl (image_told l f.moment m l_turns (sym f.moved.moment ∙ i.moved.moment)) f.occupied);
      }

  -- where B u is e v, the translation by u keeps c
  source_translation : (u v : Triple) → image b u ≡ multiple e v → IsTranslation c u
  source_translation u v is = is_translation c u forth back
    where
      on : (p w : Triple) → image b w ≡ multiple e v → sum_of (multiple (pos c'.n) (image b p)) (multiple e (multiple (pos c'.n) v)) ≡ multiple (pos c'.n) (image b (sum_of p w))
      on p w h = ap (sum_of (multiple (pos c'.n) (image b p))) (multiple_swap e (pos c'.n) v ∙ ap (multiple (pos c'.n)) (sym h)) ∙ sym (multiple-sum_of (pos c'.n) (image b p) (image b w)) ∙ ap (multiple (pos c'.n)) (sym (image-sum_of b p w))

      told_by : (x y : Triple) → multiple (pos c'.n) (image b x) ≡ multiple (pos c'.n) (image b y) → x ≡ y
      told_by x y h = image_told b x y b_turns (multiple_cancel (pos c'.n) (image b x) (image b y) n'_above h)

      forth : (s : ℕ) (p m : Triple) → Occupied c s p m → Occupied c s (sum_of p u) m
      forth s p m o = let j = source s p m v o in occupied_as c s (told_by j.position (sum_of p u) (j.is ∙ on p u is)) refl j.occupied

      down : multiple e (multiple (pos c'.n) (multiple (negsuc 0) v)) ≡ multiple (negsuc 0) (multiple (pos c'.n) (image b u))
      down = ap (multiple e) (multiple_swap (pos c'.n) (negsuc 0) v) ∙ multiple_swap e (negsuc 0) (multiple (pos c'.n) v) ∙ ap (multiple (negsuc 0)) (multiple_swap e (pos c'.n) v ∙ ap (multiple (pos c'.n)) (sym is))

      back : (s : ℕ) (p m : Triple) → Occupied c s (sum_of p u) m → Occupied c s p m
      back s p m o =
          let j = source s (sum_of p u) m (multiple (negsuc 0) v) o in
          let apart = ap (multiple (pos c'.n)) (image-sum_of b p u) ∙ multiple-sum_of (pos c'.n) (image b p) (image b u) in
          occupied_as c s (told_by j.position p (j.is ∙ (λ i. sum_of (apart i) (down i)) ∙ add_subtract (multiple (pos c'.n) (image b p)) (multiple (pos c'.n) (image b u)))) refl j.occupied

  module _ (d : ℕ) (d_above : pos 0 <ℤ pos d) (e_is : e ≡ pos c.n *ℤ pos d) (s : ℕ) (p m : Triple) (o : Occupied c s p m) (alone : HasOnlyWholeCells c) (alone' : HasOnlyWholeCells c') where
    at : HasMovedTo c c' b t e k l s p m
    at = moves.images s p m o

    -- B v is d times a triple
    divides : (v : Triple) → (u : Triple) × (image b v ≡ image (matrix_multiple (pos d) identity) u)
    divides v =
        let q = at.position in
        let j = step at.species q at.moment v at.occupied in
        let u = sum_of j.position (multiple (negsuc 0) q) in
        let is : multiple e u ≡ multiple (pos c'.n) (multiple (pos c.n) (image b v)) =
        sum_cancel (multiple e u) (multiple (pos c'.n) (multiple (pos c.n) (image b v))) (multiple e q)
        (sym (multiple-sum_of e u q) ∙ ap (multiple e) (subtract_add j.position q) ∙ j.is ∙ sum_comm (multiple e q) (multiple (pos c'.n) (multiple (pos c.n) (image b v)))) in
        let y = alone' u (step_translation u v is) in (
          y.cells,
          multiple_cancel (pos c'.n *ℤ pos c.n) (image b v) (multiple (pos d) y.cells) (mul_pos (pos c'.n) (pos c.n) n'_above n_above)
              (sym (multiple-multiple (pos c'.n) (pos c.n) (image b v)) ∙ sym is ∙ ap (multiple e) y.is ∙ ap (λ a. multiple a (multiple (pos c'.n) y.cells)) e_is
              ∙ multiple-multiple (pos c.n *ℤ pos d) (pos c'.n) y.cells ∙ ap (λ a. multiple a y.cells) (by_integers (pos c.n ∷ pos d ∷ pos c'.n ∷ []) ((var 0 :* var 1) :* var 2) ((var 2 :* var 0) :* var 1) refl)
              ∙ sym (multiple-multiple (pos c'.n *ℤ pos c.n) (pos d) y.cells))
              ∙ sym (image-matrix_multiple (pos d) identity y.cells ∙ ap (multiple (pos d)) (image-identity y.cells)),
        )

    f : Factor b (matrix_multiple (pos d) identity)
    f = factor b (matrix_multiple (pos d) identity) divides

    w : Matrix
    w = f.matrix

    b_is : b ≡ matrix_multiple (pos d) w
    unfolding w
    b_is = f.is ∙ product-multiple (pos d) w

    -- each triple is an image
    reached : (v : Triple) → (y : Triple) × (image identity v ≡ image w y)
    reached v =
        let j = source s p m v o in
        let u = sum_of j.position (multiple (negsuc 0) p) in
        let is : image b u ≡ multiple e v =
        multiple_cancel (pos c'.n) (image b u) (multiple e v) n'_above (sum_cancel (multiple (pos c'.n) (image b u)) (multiple (pos c'.n) (multiple e v)) (multiple (pos c'.n) (image b p))
        (sym (multiple-sum_of (pos c'.n) (image b u) (image b p)) ∙ ap (multiple (pos c'.n)) (sym (image-sum_of b u p) ∙ ap (image b) (subtract_add j.position p)) ∙ j.is
        ∙ ap (sum_of (multiple (pos c'.n) (image b p))) (multiple_swap e (pos c'.n) v) ∙ sum_comm (multiple (pos c'.n) (image b p)) (multiple (pos c'.n) (multiple e v)))) in
        let y = alone u (source_translation u v is) in (
          y.cells,
          image-identity v ∙ multiple_cancel (pos c.n *ℤ pos d) v (image w y.cells) (mul_pos (pos c.n) (pos d) n_above d_above)
              (ap (λ a. multiple a v) (sym e_is) ∙ sym is ∙ ap (image b) y.is ∙ image-multiple b (pos c.n) y.cells ∙ ap (λ a. multiple (pos c.n) (image a y.cells)) b_is
              ∙ ap (multiple (pos c.n)) (image-matrix_multiple (pos d) w y.cells) ∙ multiple-multiple (pos c.n) (pos d) (image w y.cells)),
        )

    g : Factor identity w
    g = factor identity w reached

    -- its matrix is one of integers, and unimodular
    pub whole : IsWhole b d
    whole = record { matrix = w; is = b_is; unimodular = unit_of_product (determinant w) (determinant g.matrix) (sym (determinant-product w g.matrix) ∙ ap determinant (sym g.is)) }
