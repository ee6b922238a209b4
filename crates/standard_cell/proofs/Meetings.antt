-- Places X / e with e = h n d, h being the determinant of Q, by the columns Q X: X is the place of a position Y exactly where
-- Q X is h (d Y - n u), but for multiples of e.
use Rattle.std.proofs.Common.{◌≡◌, ℤ, pos, ◌+ℤ◌, ◌*ℤ◌, neg_ℤ, ◌<ℤ◌, ◌≤ℤ◌, [], ◌∷◌, ◌++◌, refl, sym, ◌∙◌, ap, subst, arith}
use Rattle.std.proofs.lemmas.Int.{ints}
use Rattle.matrix3.specs.Matrices as formulas
use Rattle.ring.specs.Ring.{var, con, quoted, ◌:+◌, ◌:-◌, ◌:*◌}
use Rattle.ring.proofs.IntOrder.{mul_pos, mul_nonneg, add_nonneg}
use Rattle.matrix3.specs.Matrices.{entries, coordinates, matrix_of_variables, vector_of_variables}
use Rattle.crystal_spec.specs.Matrices.{Triple, Matrix, image, determinant, adjugate, multiple, sum_of, difference}
use Rattle.crystal_spec.proofs.Identities.{by_integers, by_triples}
use Rattle.crystal_spec.proofs.Isometries.{image-adjugate}
use Rattle.basis_spec.proofs.Cancelling.{multiple_cancel}
use Rattle.basis_spec.proofs.Positive.{pos_of_mul}
use Rattle.standard_cell.proofs.Links.{IsLink}

-- x = h w + e k
opened : (h e : ℤ) (x w k : Triple) → difference x (multiple h w) ≡ multiple e k → x ≡ sum_of (multiple h w) (multiple e k)
opened h e x w k is =
    by_triples (h ∷ coordinates x ++ coordinates w) (vector_of_variables 1) (formulas.sum_of quoted (formulas.multiple quoted (var 0) (vector_of_variables 4)) (formulas.difference quoted (vector_of_variables 1) (formulas.multiple quoted (var 0) (vector_of_variables 4)))) refl
    ∙ ap (sum_of (multiple h w)) is

closed : (h e : ℤ) (x w k : Triple) → x ≡ sum_of (multiple h w) (multiple e k) → difference x (multiple h w) ≡ multiple e k
closed h e x w k is =
    ap (λ v. difference v (multiple h w)) is
    ∙ by_triples (h ∷ e ∷ coordinates w ++ coordinates k) (formulas.difference quoted (formulas.sum_of quoted (formulas.multiple quoted (var 0) (vector_of_variables 2)) (formulas.multiple quoted (var 1) (vector_of_variables 5))) (formulas.multiple quoted (var 0) (vector_of_variables 2))) (formulas.multiple quoted (var 1) (vector_of_variables 5)) refl

-- such an X is the place of Y and k cells
pub meets_link : (q : Matrix) (u : Triple) (d n h : ℤ) (x y k : Triple) → difference (image q x) (multiple h (difference (multiple d y) (multiple n u))) ≡ multiple (h *ℤ (n *ℤ d)) k → IsLink q u d n (h *ℤ (n *ℤ d)) x (sum_of y (multiple n k))
meets_link q u d n h x y k is =
    ap (λ v. multiple n (sum_of (multiple d v) (multiple (h *ℤ (n *ℤ d)) u))) (opened h (h *ℤ (n *ℤ d)) (image q x) (difference (multiple d y) (multiple n u)) k is)
    ∙ (
    let e' = var 2 :* (var 1 :* var 0) in
    let y' = vector_of_variables 3 in
    let u' = vector_of_variables 6 in
    let k' = vector_of_variables 9 in
    by_triples (d ∷ n ∷ h ∷ coordinates y ++ coordinates u ++ coordinates k)
    (formulas.multiple quoted (var 1) (formulas.sum_of quoted (formulas.multiple quoted (var 0) (formulas.sum_of quoted (formulas.multiple quoted (var 2) (formulas.difference quoted (formulas.multiple quoted (var 0) y') (formulas.multiple quoted (var 1) u'))) (formulas.multiple quoted e' k'))) (formulas.multiple quoted e' u')))
    (formulas.multiple quoted (e' :* var 0) (formulas.sum_of quoted y' (formulas.multiple quoted (var 1) k'))) refl
    )

-- and each place of Y and k cells is one
pub link_meets : (q : Matrix) (u : Triple) (d n h : ℤ) (x y k : Triple) → pos 0 <ℤ (n *ℤ d) → IsLink q u d n (h *ℤ (n *ℤ d)) x (sum_of y (multiple n k)) → difference (image q x) (multiple h (difference (multiple d y) (multiple n u))) ≡ multiple (h *ℤ (n *ℤ d)) k
link_meets q u d n h x y k above l =
    closed h (h *ℤ (n *ℤ d)) (image q x) (difference (multiple d y) (multiple n u)) k
    (multiple_cancel (n *ℤ d) (image q x) (sum_of (multiple h (difference (multiple d y) (multiple n u))) (multiple (h *ℤ (n *ℤ d)) k)) above (left (h *ℤ (n *ℤ d)) (image q x) ∙ ap (λ v. difference v (multiple (n *ℤ (h *ℤ (n *ℤ d))) u)) l ∙ right))
  where
    left : (e : ℤ) (v : Triple) → multiple (n *ℤ d) v ≡ difference (multiple n (sum_of (multiple d v) (multiple e u))) (multiple (n *ℤ e) u)
    left e v =
        by_triples (d ∷ n ∷ e ∷ coordinates v ++ coordinates u) (formulas.multiple quoted (var 1 :* var 0) (vector_of_variables 3))
        (formulas.difference quoted (formulas.multiple quoted (var 1) (formulas.sum_of quoted (formulas.multiple quoted (var 0) (vector_of_variables 3)) (formulas.multiple quoted (var 2) (vector_of_variables 6)))) (formulas.multiple quoted (var 1 :* var 2) (vector_of_variables 6))) refl

    right : difference (multiple ((h *ℤ (n *ℤ d)) *ℤ d) (sum_of y (multiple n k))) (multiple (n *ℤ (h *ℤ (n *ℤ d))) u) ≡ multiple (n *ℤ d) (sum_of (multiple h (difference (multiple d y) (multiple n u))) (multiple (h *ℤ (n *ℤ d)) k))
    right =
        let e' = var 2 :* (var 1 :* var 0) in
        let y' = vector_of_variables 3 in
        let u' = vector_of_variables 6 in
        let k' = vector_of_variables 9 in
        by_triples (d ∷ n ∷ h ∷ coordinates y ++ coordinates u ++ coordinates k)
        (formulas.difference quoted (formulas.multiple quoted (e' :* var 0) (formulas.sum_of quoted y' (formulas.multiple quoted (var 1) k'))) (formulas.multiple quoted (var 1 :* e') u'))
        (formulas.multiple quoted (var 1 :* var 0) (formulas.sum_of quoted (formulas.multiple quoted (var 2) (formulas.difference quoted (formulas.multiple quoted (var 0) y') (formulas.multiple quoted (var 1) u'))) (formulas.multiple quoted e' k'))) refl

-- then X is adj(Q) w, but for multiples of s
pub meets_source : (q : Matrix) (h s : ℤ) (x w k : Triple) → h ≡ determinant q → pos 0 <ℤ h → difference (image q x) (multiple h w) ≡ multiple (h *ℤ s) k → x ≡ sum_of (image (adjugate q) w) (multiple s (image (adjugate q) k))
meets_source q h s x w k h_is above is =
    multiple_cancel h x (sum_of (image (adjugate q) w) (multiple s (image (adjugate q) k))) above
    (ap (λ (z : ℤ). multiple z x) h_is ∙ sym (image-adjugate q x) ∙ ap (image (adjugate q)) (opened h (h *ℤ s) (image q x) w k is) ∙ apart)
  where
    apart : image (adjugate q) (sum_of (multiple h w) (multiple (h *ℤ s) k)) ≡ multiple h (sum_of (image (adjugate q) w) (multiple s (image (adjugate q) k)))
    apart =
        let q' = matrix_of_variables 2 in
        let w' = vector_of_variables 11 in
        let k' = vector_of_variables 14 in
        by_triples (h ∷ s ∷ entries (adjugate q) ++ coordinates w ++ coordinates k)
        (formulas.image quoted q' (formulas.sum_of quoted (formulas.multiple quoted (var 0) w') (formulas.multiple quoted (var 0 :* var 1) k')))
        (formulas.multiple quoted (var 0) (formulas.sum_of quoted (formulas.image quoted q' w') (formulas.multiple quoted (var 1) (formulas.image quoted q' k')))) refl

-- ---- one coordinate: r + s t with r from 0 and below s

low_by : (a r s : ℤ) → pos 0 ≤ℤ (r +ℤ a) → r <ℤ s → pos 0 <ℤ (a +ℤ s)
low_by a r s h k = omega (arith, ints)

high_by : (a b r : ℤ) → pos 0 ≤ℤ r → (r +ℤ a) <ℤ b → pos 0 <ℤ (b +ℤ neg_ℤ a)
high_by a b r h k = omega (arith, ints)

below_by : (a b r s : ℤ) → r <ℤ s → pos 0 ≤ℤ (b +ℤ neg_ℤ (a +ℤ s)) → (r +ℤ a) <ℤ b
below_by a b r s h k = omega (arith, ints)

nonneg_by : (t : ℤ) → pos 0 <ℤ (t +ℤ pos 1) → pos 0 ≤ℤ t
nonneg_by t h = omega (arith, ints)

less_by : (t k : ℤ) → pos 0 <ℤ (k +ℤ neg_ℤ t) → t <ℤ k
less_by t k h = omega (arith, ints)

room_by : (t k : ℤ) → t <ℤ k → pos 0 ≤ℤ (k +ℤ neg_ℤ (t +ℤ pos 1))
room_by t k h = omega (arith, ints)

some_by : (r s : ℤ) → pos 0 ≤ℤ r → r <ℤ s → pos 0 <ℤ s
some_by r s h k = omega (arith, ints)

-- what t is for r + s t from 0 and below k s
pub t_low : (s r t : ℤ) → pos 0 ≤ℤ r → r <ℤ s → pos 0 ≤ℤ (r +ℤ s *ℤ t) → pos 0 ≤ℤ t
t_low s r t low high h =
    nonneg_by t (pos_of_mul s (t +ℤ pos 1) (some_by r s low high) (subst (λ (z : ℤ). pos 0 <ℤ z) (by_integers (s ∷ t ∷ []) (var 0 :* var 1 :+ var 0) (var 0 :* (var 1 :+ con (pos 1))) refl) (low_by (s *ℤ t) r s h high)))

pub t_high : (s r t k : ℤ) → pos 0 ≤ℤ r → r <ℤ s → (r +ℤ s *ℤ t) <ℤ (k *ℤ s) → t <ℤ k
t_high s r t k low high h =
    less_by t k (pos_of_mul s (k +ℤ neg_ℤ t) (some_by r s low high) (subst (λ (z : ℤ). pos 0 <ℤ z) (by_integers (s ∷ t ∷ k ∷ []) (var 2 :* var 0 :- var 0 :* var 1) (var 0 :* (var 2 :- var 1)) refl) (high_by (s *ℤ t) (k *ℤ s) r low h)))

-- and r + s t for such a t
pub point_low : (s r t : ℤ) → pos 0 ≤ℤ r → r <ℤ s → pos 0 ≤ℤ t → pos 0 ≤ℤ (r +ℤ s *ℤ t)
point_low s r t low high h = add_nonneg r (s *ℤ t) low (mul_nonneg s t (weak (some_by r s low high)) h)
  where
    weak : pos 0 <ℤ s → pos 0 ≤ℤ s
    weak h = omega (arith, ints)

pub point_high : (s r t k : ℤ) → pos 0 ≤ℤ r → r <ℤ s → t <ℤ k → (r +ℤ s *ℤ t) <ℤ (k *ℤ s)
point_high s r t k low high h =
    below_by (s *ℤ t) (k *ℤ s) r s high (subst (λ (z : ℤ). pos 0 ≤ℤ z) (by_integers (s ∷ t ∷ k ∷ []) (var 0 :* (var 2 :- (var 1 :+ con (pos 1)))) (var 2 :* var 0 :- (var 0 :* var 1 :+ var 0)) refl) (mul_nonneg s (k +ℤ neg_ℤ (t +ℤ pos 1)) (weak (some_by r s low high)) (room_by t k h)))
  where
    weak : pos 0 <ℤ s → pos 0 ≤ℤ s
    weak h = omega (arith, ints)

-- the order of r + s t is that of t
pub point_less : (s r t v g b d : ℤ) → pos 0 <ℤ s → pos 0 <ℤ g → t <ℤ v → g *ℤ b ≡ r +ℤ s *ℤ t → g *ℤ d ≡ r +ℤ s *ℤ v → b <ℤ d
point_less s r t v g b d s_above g_above h e f =
    less_by b d (pos_of_mul g (d +ℤ neg_ℤ b) g_above (subst (λ (z : ℤ). pos 0 <ℤ z) (sym apart) (mul_pos s (v +ℤ neg_ℤ t) s_above (above t v h))))
  where
    above : (t v : ℤ) → t <ℤ v → pos 0 <ℤ (v +ℤ neg_ℤ t)
    above t v h = omega (arith, ints)

    apart : g *ℤ (d +ℤ neg_ℤ b) ≡ s *ℤ (v +ℤ neg_ℤ t)
    apart = by_integers (g ∷ b ∷ d ∷ []) (var 0 :* (var 2 :- var 1)) (var 0 :* var 2 :- var 0 :* var 1) refl ∙ (λ i. f i +ℤ neg_ℤ (e i)) ∙ by_integers (s ∷ r ∷ t ∷ v ∷ []) ((var 1 :+ var 0 :* var 3) :- (var 1 :+ var 0 :* var 2)) (var 0 :* (var 3 :- var 2)) refl
