-- The operations of the standard cell are those of the symbol's group.
--
-- An operation of the group has its image among those of the first crystal, and so keeps the standard cell. Conversely the
-- first crystal is primitive, so an operation (W, w) of the standard cell is an image (V, t) there, which is that of some
-- (W, w') of the group too. Then Q (w - w') is a whole translation: w - w' is a pure translation of the group, since Q is P S
-- with a P of determinant 1, and S takes just the group's translations to whole ones. So (W, w) is of the group.
use Rattle.std.proofs.Common.{◌≡◌, ℕ, ℤ, pos, ◌*ℤ◌, ◌<ℤ◌, ◌≤ℤ◌, List, ◌∷◌, ◌++◌, refl, sym, ◌∙◌, ap, subst, arith}
use Rattle.std.proofs.lemmas.Int.{ints}
use Rattle.lists.specs.Increasing.{IsMember}
use Rattle.matrix3.specs.Matrices as formulas
use Rattle.ring.specs.Ring.{var, con, quoted, ◌:*◌}
use Rattle.ring.proofs.IntOrder.{mul_pos}
use Rattle.matrix3.specs.Matrices.{entries, coordinates, matrix_of_variables, vector_of_variables}
use Rattle.crystal_spec.specs.declared.Sign.{Sign}
use Rattle.crystal_spec.specs.declared.Sign.TheVariants.{Same, Reversed}
use Rattle.crystal_spec.specs.Matrices.{Triple, Matrix, product, image, determinant, adjugate, identity, multiple, sum_of, difference}
use Rattle.crystal_spec.specs.Crystals.{Structure, position_after}
use Rattle.crystal_spec.specs.Operations.{Operation, IsWithinCell, sign_factor, ListsAll}
use Rattle.crystal_spec.proofs.Identities.{by_triples, by_matrices}
use Rattle.crystal_spec.proofs.Isometries.{determinant-product, image-adjugate, multiple-one}
use Rattle.positions.specs.Positions.{modulo}
use Rattle.crystal_spec.specs.Cells.{IsCell}
use Rattle.basis_spec.specs.Bases.{IsBack}
use Rattle.basis_spec.specs.Translations.{IsPrimitive, pure_translation}
use Rattle.basis_spec.specs.StepBases.{InLattice}
use Rattle.basis_spec.proofs.MatrixLaws.{image-product, image-multiple, image-identity, image-matrix_multiple, multiple-sum_of}
use Rattle.basis_spec.proofs.Cancelling.{multiple_cancel, image_cancel}
use Rattle.positions.proofs.Residues.{modulo_away}
use Rattle.basis_spec.proofs.PureTranslations.{translations_same}
use Rattle.basis_spec.proofs.StepLists.{list_lattice}
use Rattle.basis_spec.proofs.StepIndex.{step_back}
use Rattle.basis_spec.proofs.StepEntries.{found_is}
use Rattle.op_group.specs.Groups.{IsGroupModulo}
use Rattle.match_spec.specs.Points.{Point, point, IsPoint, IsInCell}
use Rattle.match_spec.specs.Maps.{Carries}
use Rattle.match_spec.specs.FirstMap.{IsStepMatrix, IsFirstMap}
use Rattle.match_spec.proofs.Wholes.{cancel_left, not_zero}
use Rattle.match_spec.proofs.ListedGroups.{closed_of, some_cells}
use Rattle.standard_cell.specs.StandardCells.{IsStandard}
use Rattle.standard_cell.specs.Groups.{IsSameOperation, AreSameOperations}
use Rattle.standard_cell.proofs.Links.{scaled_in_cell}
use Rattle.standard_cell.proofs.Shifts.{IsShift, shift_of}
use Rattle.standard_cell.proofs.Moved.{moved_operation, within_scaled}
use Rattle.standard_cell.proofs.Brought.{found, found_part, turned, shift, of_list}

-- ---- the symbol's translations

above_one : (d : ℤ) → pos 1 ≤ℤ d → pos 0 <ℤ d
above_one d h = omega (arith, ints)

-- S takes just the translations of the group to whole ones
step_is_back : (h : List Operation) (s : Matrix) → IsGroupModulo 12 h → IsStepMatrix h s → IsBack 12 (InLattice 12 h) s
step_is_back h s g k =
    let some = some_cells 12 h g in
    let l = list_lattice 12 h some (closed_of 12 h g) in
    subst (IsBack 12 (InLattice 12 h)) (found_is 12 (InLattice 12 h) l some k.index s k.fore k.steps) (step_back 12 (InLattice 12 h) l k.steps.basis k.steps.is_basis some)

-- a place v / m that Q = P S takes to a whole translation is one of the group's
record IsPure (h : List Operation) (m : ℤ) (v : Triple) : Type 0 where
  translation : Triple
  is : v ≡ multiple m translation
  of_group : InLattice 12 h translation

pure_of : (h : List Operation) (q class step : Matrix) (m : ℤ) (v z : Triple) → IsGroupModulo 12 h → IsStepMatrix h step → q ≡ product class step → determinant class ≡ pos 1 → image q v ≡ multiple (pos 12 *ℤ m) z → IsPure h m v
pure_of h q class step m v z g k q_is one e =
    let back = step_is_back h step g k in
    let y = image (adjugate class) z in
    let taken : image step v ≡ multiple (pos 12 *ℤ m) y =
    sym (multiple-one (image step v)) ∙ ap (λ (d : ℤ). multiple d (image step v)) (sym one) ∙ sym (image-adjugate class (image step v))
    ∙ ap (image (adjugate class)) (sym (image-product class step v) ∙ ap (λ a. image a v) (sym q_is) ∙ e) ∙ image-multiple (adjugate class) (pos 12 *ℤ m) z in
    let whole : image step (image back.steps y) ≡ multiple (pos 12) y = sym (image-product step back.steps y) ∙ ap (λ a. image a y) back.whole ∙ image-matrix_multiple (pos 12) identity y ∙ ap (multiple (pos 12)) (image-identity y) in
    record {
      translation = image back.steps y;
      is = image_cancel step v (multiple m (image back.steps y)) (above_one (determinant step) back.determinant_positive) (taken ∙ factors m y ∙ ap (multiple m) (sym whole) ∙ sym (image-multiple step m (image back.steps y)));
      of_group = (back.exact (image back.steps y)).1 (record { cells = y; is = whole });
    }
  where
    factors : (m : ℤ) (y : Triple) → multiple (pos 12 *ℤ m) y ≡ multiple m (multiple (pos 12) y)
    factors m y = by_triples (m ∷ coordinates y) (formulas.multiple quoted (con (pos 12) :* var 0) (vector_of_variables 1)) (formulas.multiple quoted (var 0) (formulas.multiple quoted (con (pos 12)) (vector_of_variables 1))) refl

-- ---- two operations with one image

-- the translation parts w / m and w' / 12 differ by what Q takes to a whole translation
shifts_differ : (q v : Matrix) (u : Triple) (d n m : ℤ) (w t w' r k z : Triple) → pos 0 <ℤ d → pos 0 <ℤ n → IsShift q v u d n m w t → IsShift q v u d n (pos 12) w' (sum_of r (multiple n z)) → t ≡ sum_of r (multiple n k) →
    image q (difference (multiple (pos 12) w) (multiple m w')) ≡ multiple (pos 12 *ℤ m) (difference k z)
shifts_differ q v u d n m w t w' r k z d_above n_above first second t_is =
    multiple_cancel (n *ℤ d) _ _ (mul_pos n d n_above d_above)
    (opened ∙ (λ i. difference (multiple (pos 12) (first i)) (multiple m (second i))) ∙ ap (λ t. difference (multiple (pos 12) (multiple (m *ℤ d) t)) (multiple m (multiple (pos 12 *ℤ d) (sum_of r (multiple n z))))) t_is ∙ closed)
  where
    opened : multiple (n *ℤ d) (image q (difference (multiple (pos 12) w) (multiple m w')))
        ≡ difference (multiple (pos 12) (multiple n (sum_of (multiple d (image q w)) (multiple m (difference u (image v u)))))) (multiple m (multiple n (sum_of (multiple d (image q w')) (multiple (pos 12) (difference u (image v u))))))
    opened =
        let q' = matrix_of_variables 3 in
        let a' = vector_of_variables 12 in
        let b' = vector_of_variables 15 in
        let u' = vector_of_variables 18 in
        let v' = vector_of_variables 21 in
        let t' = con (pos 12) in
        by_triples (d ∷ n ∷ m ∷ entries q ++ coordinates w ++ coordinates w' ++ coordinates u ++ coordinates (image v u))
        (formulas.multiple quoted (var 1 :* var 0) (formulas.image quoted q' (formulas.difference quoted (formulas.multiple quoted t' a') (formulas.multiple quoted (var 2) b'))))
        (formulas.difference quoted (formulas.multiple quoted t' (formulas.multiple quoted (var 1) (formulas.sum_of quoted (formulas.multiple quoted (var 0) (formulas.image quoted q' a')) (formulas.multiple quoted (var 2) (formulas.difference quoted u' v')))))
        (formulas.multiple quoted (var 2) (formulas.multiple quoted (var 1) (formulas.sum_of quoted (formulas.multiple quoted (var 0) (formulas.image quoted q' b')) (formulas.multiple quoted t' (formulas.difference quoted u' v')))))) refl

    closed : difference (multiple (pos 12) (multiple (m *ℤ d) (sum_of r (multiple n k)))) (multiple m (multiple (pos 12 *ℤ d) (sum_of r (multiple n z)))) ≡ multiple (n *ℤ d) (multiple (pos 12 *ℤ m) (difference k z))
    closed =
        let r' = vector_of_variables 3 in
        let k' = vector_of_variables 6 in
        let z' = vector_of_variables 9 in
        let t' = con (pos 12) in
        by_triples (d ∷ n ∷ m ∷ coordinates r ++ coordinates k ++ coordinates z)
        (formulas.difference quoted (formulas.multiple quoted t' (formulas.multiple quoted (var 2 :* var 0) (formulas.sum_of quoted r' (formulas.multiple quoted (var 1) k')))) (formulas.multiple quoted (var 2) (formulas.multiple quoted (t' :* var 0) (formulas.sum_of quoted r' (formulas.multiple quoted (var 1) z')))))
        (formulas.multiple quoted (var 1 :* var 0) (formulas.multiple quoted (t' :* var 2) (formulas.difference quoted k' z'))) refl

-- ---- one operation after a pure translation

same_sign : (a b : Sign) → sign_factor a ≡ pos 1 *ℤ sign_factor b → b ≡ a
same_sign Same Same e = refl
same_sign Same Reversed e = absurd (cc e)
same_sign Reversed Same e = absurd (cc e)
same_sign Reversed Reversed e = refl

identity-product : (a : Matrix) → product identity a ≡ a
identity-product a = by_matrices (entries a) (formulas.product quoted (formulas.scalar quoted (con (pos 1))) (matrix_of_variables 0)) (matrix_of_variables 0) refl

within_cell : (m : ℕ) (w v : Triple) → pos 0 <ℤ pos m → multiple (pos 12) w ≡ multiple (pos m) v → IsWithinCell m w → IsWithinCell 12 v
within_cell m w v some e h =
    let r : IsInCell (point v (pos 12)) = scaled_in_cell (pos m) (pos 12) w v some (omega (arith, ints)) e (record { x_low = h.x.0; x_high = h.x.1; y_low = h.y.0; y_high = h.y.1; z_low = h.z.0; z_high = h.z.1 }) in
    record { x = (r.x_low, r.x_high); y = (r.y_low, r.y_high); z = (r.z_low, r.z_high) }

-- the group has b with a translation of the group added
after_pure : (h : List Operation) (n : ℕ) (o b : Operation) (t : Triple) → IsGroupModulo 12 h → IsMember b h → InLattice 12 h t → pos 0 <ℤ pos n → IsWithinCell n o.translation → o.matrix ≡ b.matrix → o.sign ≡ b.sign → multiple (pos 12) o.translation ≡ multiple (pos n) (sum_of b.translation t) →
    (r : Operation) × (IsMember r h × IsSameOperation n o r)
unfolding InLattice
after_pure h n o b t g of_h pure some within matrix sign e =
    let c = g.composed b (pure_translation (modulo 12 t)) of_h pure in
    let r = c.0 in
    let is = c.1.1 in
    let rest = modulo_away 12 t (some_cells 12 h g) in
    let same : sum_of b.translation t ≡ r.translation =
    translations_same 12 (sum_of b.translation t) r.translation (within_cell n o.translation (sum_of b.translation t) some e within) is.translation.within
    (record { cells = sum_of is.translation.cells rest.cells; is = ap (sum_of b.translation) rest.is ∙ regroup b.translation (modulo 12 t) rest.cells ∙ ap (λ v. sum_of v (multiple (pos 12) rest.cells)) is.translation.same ∙ two r.translation is.translation.cells rest.cells }) in
    (r, (c.1.0, record { matrix = matrix ∙ sym (is.matrix ∙ identity-product b.matrix); translation = e ∙ ap (multiple (pos n)) same; sign = sign ∙ same_sign r.sign b.sign is.sign }))
  where
    regroup : (b t z : Triple) → sum_of b (sum_of t (multiple (pos 12) z)) ≡ sum_of (position_after identity t b) (multiple (pos 12) z)
    regroup b t z =
        by_triples (coordinates b ++ coordinates t ++ coordinates z)
        (formulas.sum_of quoted (vector_of_variables 0) (formulas.sum_of quoted (vector_of_variables 3) (formulas.multiple quoted (con (pos 12)) (vector_of_variables 6))))
        (formulas.sum_of quoted (formulas.sum_of quoted (formulas.image quoted (formulas.scalar quoted (con (pos 1))) (vector_of_variables 0)) (vector_of_variables 3)) (formulas.multiple quoted (con (pos 12)) (vector_of_variables 6))) refl

    two : (r x y : Triple) → sum_of (sum_of r (multiple (pos 12) x)) (multiple (pos 12) y) ≡ sum_of r (multiple (pos 12) (sum_of x y))
    two r x y =
        by_triples (coordinates r ++ coordinates x ++ coordinates y)
        (formulas.sum_of quoted (formulas.sum_of quoted (vector_of_variables 0) (formulas.multiple quoted (con (pos 12)) (vector_of_variables 3))) (formulas.multiple quoted (con (pos 12)) (vector_of_variables 6)))
        (formulas.sum_of quoted (vector_of_variables 0) (formulas.multiple quoted (con (pos 12)) (formulas.sum_of quoted (vector_of_variables 3) (vector_of_variables 6)))) refl

-- ---- both groups

module _ (c s : Structure) (q : Matrix) (p : Point) (st : IsStandard c q p s) (cell : IsCell c) (primitive : IsPrimitive c) (is_p : IsPoint p)
    (h ms os : List Operation) (g : IsGroupModulo 12 h) (lists : ListsAll c ms) (all : ListsAll s os) (carries : Carries q p h (pos c.n) ms)
    (class step : Matrix) (is_step : IsStepMatrix h step) (one : determinant class ≡ pos 1) (q_is : q ≡ product class step) where
  above : pos 0 <ℤ determinant q
  above = subst (λ (d : ℤ). pos 0 <ℤ d) (sym (ap determinant q_is ∙ determinant-product class step ∙ ap (λ (d : ℤ). d *ℤ determinant step) one ∙ one_times (determinant step))) (above_one (determinant step) (step_is_back h step g is_step).determinant_positive)
    where
      one_times : (d : ℤ) → pos 1 *ℤ d ≡ d
      one_times d = omega (arith, ints)

  onto : (b : Operation) → IsMember b h → (o : Operation) × (IsMember o os × IsSameOperation s.n o b)
  onto b of_h =
      let f = carries.into b of_h in
      let found = f.0 in
      let k = (lists.exact found).0 f.1.0 in
      let r = moved_operation c s q p st above is_p cell b found f.1.1 k.keeps in
      let o : Operation = record { matrix = b.matrix; translation = r.part; sign = found.sign } in (
        o,
        (
          (all.exact o).1 (record { translation = within_scaled s.n r.part b.translation st.n.positive r.part_is (g.within_cell b of_h); keeps = r.holds }),
          record { matrix = refl; translation = r.part_is; sign = f.1.1.sign },
        ),
      )

  into : (o : Operation) → IsMember o os → (b : Operation) × (IsMember b h × IsSameOperation s.n o b)
  into o of_s =
      let k = (all.exact o).0 of_s in
      let v = found c s q p st above is_p cell o k.keeps primitive ms lists in
      let t = found_part c s q p st above is_p cell o k.keeps primitive ms lists in
      let f = carries.onto (record { matrix = v; translation = modulo c.n t; sign = o.sign }) (of_list c s q p st above is_p cell o k.keeps primitive ms lists) in
      let b = f.0 in
      let im = f.1.1 in
      let away = modulo_away c.n t cell.some_cells in
      let differs = shifts_differ q v p.numerators p.denominator (pos c.n) (pos s.n) o.translation t b.translation (modulo c.n t) away.cells im.translation.whole.quotient is_p.positive cell.some_cells
      (shift c s q p st above is_p cell o k.keeps primitive ms lists) (shift_of q v p (pos c.n) (pos 12) b.translation (modulo c.n t) is_p.positive im.translation) away.is in
      let pure = pure_of h q class step (pos s.n) (difference (multiple (pos 12) o.translation) (multiple (pos s.n) b.translation)) (difference away.cells im.translation.whole.quotient) g is_step q_is one differs in
      after_pure h s.n o b pure.translation g f.1.0 pure.of_group st.n.positive k.translation
      (cancel_left q o.matrix b.matrix (not_zero (determinant q) above) (sym (turned c s q p st above is_p cell o k.keeps primitive ms lists) ∙ im.matrix))
      im.sign
      (added (multiple (pos 12) o.translation) (multiple (pos s.n) b.translation) ∙ ap (sum_of (multiple (pos s.n) b.translation)) pure.is ∙ sym (multiple-sum_of (pos s.n) b.translation pure.translation))
    where
      added : (x y : Triple) → x ≡ sum_of y (difference x y)
      added x y = by_triples (coordinates x ++ coordinates y) (vector_of_variables 0) (formulas.sum_of quoted (vector_of_variables 3) (formulas.difference quoted (vector_of_variables 0) (vector_of_variables 3))) refl

  pub same_operations : AreSameOperations s.n os h
  same_operations = record { into = into; onto = onto }

-- With the first map that carries the group h of a symbol onto all operations of a primitive cell c, the operations of the
-- standard cell are exactly the members of h.
pub operations_of_standard : (c s : Structure) (class turn : Matrix) (p : Point) (h ms os : List Operation) → IsStandard c turn p s → IsCell c → IsPrimitive c → ListsAll c ms → ListsAll s os → IsGroupModulo 12 h → IsFirstMap h c.n ms class turn p → AreSameOperations s.n os h
operations_of_standard c s class turn p h ms os st cell primitive lists all g f =
    same_operations c s turn p st cell primitive f.first.least_origin.is_point h ms os g lists all (subst (λ (a : Matrix). Carries a p h (pos c.n) ms) (sym f.turn_is) f.first.least_origin.carries) class f.step f.is_step f.first.class.proper f.turn_is
