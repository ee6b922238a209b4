-- Where a map carries the one crystal onto the other, the maps are as many as the operations of each, and the two groups are
-- of one type.
--
-- With G a map and O an operation, G O is a map, and with H a map, G⁻¹ H is an operation; neither tells two as one. And
-- G O G⁻¹ is an operation of the other crystal, of the same time sign, and the identity's matrix where O has it; G⁻¹ brings
-- it back. So what the types say of the one group holds of the other.
use Rattle.std.proofs.Common.{◌≡◌, ℕ, ◌≤◌, List, [], ◌∷◌, ◌++◌, length, ℤ, pos, negsuc, ◌*ℤ◌, ◌<ℤ◌, refl, sym, ap, subst, ◌∙◌, arith}
use Rattle.std.specs.Prelude.{◌↔◌}
use Rattle.ring.specs.Ring.{Expr, quoted, var, con, ◌:*◌}
use Rattle.lists.specs.Increasing.{IsMember, IsDistinct}
use Rattle.lists.proofs.Increasing.{increasing_distinct}
use Rattle.lists.proofs.Counting.{into_le}
use Rattle.matrix3.specs.declared.vector.Vec3.{Vec3}
use Rattle.matrix3.specs.Matrices.{coordinates, vector_of_variables}
use Rattle.matrix3.specs.Matrices as formulas
use Rattle.crystal_spec.specs.declared.Sign.{Sign}
use Rattle.crystal_spec.specs.declared.Sign.TheVariants.{Reversed}
use Rattle.crystal_spec.specs.Matrices.{Triple, Matrix, product, image, determinant, multiple, sum_of, identity}
use Rattle.crystal_spec.specs.Crystals.{Structure}
use Rattle.crystal_spec.specs.Operations.{Operation, IsWithinCell, IsSymmetryOperation, ListsAll, compare_of}
use Rattle.crystal_spec.proofs.Identities.{by_integers, by_triples}
use Rattle.crystal_spec.proofs.Images.{same_within}
use Rattle.crystal_spec.proofs.Ordered.{compare_total}
use Rattle.positions.specs.Positions.{origin}
use Rattle.basis_spec.specs.Translations.{IsPrimitive}
use Rattle.basis_spec.proofs.MatrixLaws.{image-identity, image-product, image-multiple, multiple-origin, sum_of-origin, sum_comm, same_images}
use Rattle.basis_spec.proofs.Cancelling.{multiple_cancel}
use Rattle.positions.proofs.Residues.{cells_within}
use Rattle.op_group.specs.Groups.{IsGroupModulo}
use Rattle.mag_type.specs.Families.{SpaceOperation, IsInFamily, IsUnprimed, IsNumberOf}
use Rattle.mag_type.specs.MagneticTypes.{HasOnlyZeroTranslation, anti_translation, time_reversal, HasAntiTranslation, IsTypeTwo, IsTypeFour, IsMagneticType, one, two, three, four}
use Rattle.mag_type.proofs.AllOperations.{group_of_all, primitive_of_all}
use Rattle.mag_type.proofs.OneType.{one_type}
use Rattle.crystal.specs.Cells.{IsCellWithinLimits}
use Rattle.crystal.proofs.CellLemmas.{is_cell}
use Rattle.crystal_compare.specs.Search.{steps, IsMap}
use Rattle.crystal_compare.specs.Groups.{AreAlike}
use Rattle.crystal_compare.proofs.Inverses.{inverse, undoes_inverse, inverse_after, inverse_unit, left_cancel, right_cancel, AreCellsApart, apart_sym, apart_trans, apart_less, apart_before}
use Rattle.crystal_compare.proofs.Sending.{Sends, HasUnits, both, both_cancel, both_cancel_last, both_twice, composed, back_translation, sent_back}
use Rattle.crystal_compare.proofs.SendingMaps.{units_of, sent_by_map, map_of_sent, sent_by_operation, operation_of_sent}

-- ---- what the types say, of a list to which each operation of another is carried

-- where an operation is carried to
pub record IsCarriedInto (os : List Operation) (o : Operation) : Type 0 where
  pub operation : Operation
  pub of_list : IsMember operation os
  pub sign : operation.sign ≡ o.sign
  pub still : o.matrix ≡ identity → operation.matrix ≡ identity
  pub fixed : o.matrix ≡ identity → o.translation ≡ origin → operation.translation ≡ origin

abbrev pub AreCarriedInto : List Operation → List Operation → Type 0
AreCarriedInto os' os = (o : Operation) → IsMember o os → IsCarriedInto os' o

-- an operation of these parts
member_as : (os : List Operation) (o : Operation) (v : Matrix) (t : Triple) (s : Sign) → o.matrix ≡ v → o.translation ≡ t → o.sign ≡ s → IsMember o os → IsMember (record { matrix = v; translation = t; sign = s }) os
member_as os o v t s e f g m = subst (λ (x : Operation). IsMember x os) (λ i. record { matrix = e i; translation = f i; sign = g i }) m

anti_carried : (os os' : List Operation) → AreCarriedInto os' os → HasAntiTranslation os → HasAntiTranslation os'
anti_carried os os' f h =
    let k = f (anti_translation h.translation) h.of_list in
    record { translation = k.operation.translation; of_list = member_as os' k.operation identity k.operation.translation Reversed (k.still refl) refl k.sign k.of_list }

reversal_carried : (os os' : List Operation) → AreCarriedInto os' os → IsTypeTwo os → IsTypeTwo os'
reversal_carried os os' f h =
    let k = f time_reversal h in
    member_as os' k.operation identity origin Reversed (k.still refl) (k.fixed refl refl) k.sign k.of_list

module _ (n : ℕ) (os os' : List Operation) (group : IsGroupModulo n os) (primitive : HasOnlyZeroTranslation os) (forth : AreCarriedInto os' os) (back : AreCarriedInto os os') where
  type_four_carried : (k : ℕ) → k ≡ 4 → IsTypeFour os → IsMagneticType os' k
  type_four_carried k e h =
      let i = forth (anti_translation h.translation) h.of_list in
      let m = member_as os' i.operation identity i.operation.translation Reversed (i.still refl) refl i.sign i.of_list in
      four e (record {
        translation = i.operation.translation;
        nonzero = λ zero_is. (let two_here = reversal_carried os' os back (member_as os' i.operation identity origin Reversed (i.still refl) zero_is i.sign i.of_list) in clash 2 4 refl refl (one_type n os group primitive 2 4 (two refl two_here) (four refl h)));
        of_list = m;
      })
    where
      clash : (x y : ℕ) → x ≡ 2 → y ≡ 4 → x ≡ y → ⊥
      clash x y f g i = omega (arith, f, g, i)

  pub type_carried : (k : ℕ) → IsMagneticType os k → IsMagneticType os' k
  type_carried k (one e h) = one e (λ o m. (let i = back o m in sym i.sign ∙ h i.operation i.of_list))
  type_carried k (two e h) = two e (reversal_carried os os' forth h)
  type_carried k (three e h) =
      let i = forth h.operation h.of_list in
      three e (record { operation = i.operation; of_list = i.of_list; reverses = i.sign ∙ h.reverses; no_anti_translation = λ a. h.no_anti_translation (anti_carried os' os back a) })
  type_carried k (four e h) = type_four_carried k e h

-- ---- operations of the one cell and of the other

-- whole cells of d = n n' are whole cells of n, in units of 1/n'
nearer : (n n' : ℤ) (x y : Triple) → pos 0 <ℤ n' → AreCellsApart (n *ℤ n') (multiple n' x) (multiple n' y) → AreCellsApart n x y
nearer n n' x y above h = record { cells = h.cells; is = multiple_cancel n' x (sum_of y (multiple n h.cells)) above (h.is ∙ spread y h.cells) }
  where
    spread : (y z : Triple) → sum_of (multiple n' y) (multiple (n *ℤ n') z) ≡ multiple n' (sum_of y (multiple n z))
    spread y z =
        let u = vector_of_variables 0 in
        let v = vector_of_variables 3 in
        by_triples (coordinates y ++ coordinates z ++ n ∷ n' ∷ []) (formulas.sum_of quoted (formulas.multiple quoted (var 7) u) (formulas.multiple quoted (var 6 :* var 7) v))
        (formulas.multiple quoted (var 7) (formulas.sum_of quoted u (formulas.multiple quoted (var 6) v))) refl

apart_same : (n : ℕ) (x y : Triple) → IsWithinCell n x → IsWithinCell n y → AreCellsApart (pos n) x y → x ≡ y
apart_same n x y h k a = same_within n x y a.cells h k a.is

apart_at : (d : ℤ) (x x' y : Triple) → x ≡ x' → AreCellsApart d x y → AreCellsApart d x' y
apart_at d x x' y e h = record { cells = h.cells; is = sym e ∙ h.is }

module _ (a b : Structure) (limits : IsCellWithinLimits a) (limits' : IsCellWithinLimits b) (w : Matrix) (t : Triple) (s : Sign) (g : Sends (pos a.n *ℤ pos b.n) a b w t s) where
  units : HasUnits a
  units = units_of a limits

  units' : HasUnits b
  units' = units_of b limits'

  back : Sends (pos a.n *ℤ pos b.n) b a (inverse w) (back_translation w t) s
  back = sent_back (pos a.n *ℤ pos b.n) a b w t s g

  unit : determinant (inverse w) *ℤ determinant (inverse w) ≡ pos 1
  unit = inverse_unit w g.unimodular

  swapped : pos a.n *ℤ pos b.n ≡ pos b.n *ℤ pos a.n
  swapped = by_integers (pos a.n ∷ pos b.n ∷ []) (var 0 :* var 1) (var 1 :* var 0) refl

  -- in the units of 1/d
  turned_translation : Matrix → Triple → Triple
  turned_translation v x = sum_of (image w (sum_of (image v (back_translation w t)) (multiple (pos b.n) x))) t

  -- (V, v) of the one cell and (W V W⁻¹, ..) of the other
  record IsTurned (v : Matrix) (x : Triple) (v' : Matrix) (x' : Triple) : Type 0 where
    matrix : v' ≡ product w (product v (inverse w))
    apart : AreCellsApart (pos a.n *ℤ pos b.n) (turned_translation v x) (multiple (pos a.n) x')

  record Turned (o : Operation) : Type 0 where
    operation : Operation
    is_operation : IsSymmetryOperation b operation
    sign : operation.sign ≡ o.sign
    turned : IsTurned o.matrix o.translation operation.matrix operation.translation

  -- G O G⁻¹
  turn : (o : Operation) → IsSymmetryOperation a o → Turned o
  unfolding turned_translation
  turn o h =
      let first = sent_by_operation a limits (pos b.n) units'.n o h in
      let u = sum_of (image o.matrix (back_translation w t)) (multiple (pos b.n) o.translation) in
      let two_maps = composed (pos a.n *ℤ pos b.n) b a a (inverse w) o.matrix (back_translation w t) (multiple (pos b.n) o.translation) s o.sign units back first in
      let all = composed (pos a.n *ℤ pos b.n) b a b (product o.matrix (inverse w)) w u t (both o.sign s) s units two_maps g in
      let k = operation_of_sent b limits' (pos a.n) units.n (product w (product o.matrix (inverse w))) (sum_of (image w u) t) (both s (both o.sign s)) (subst (λ (x : ℤ). Sends x b b (product w (product o.matrix (inverse w))) (sum_of (image w u) t) (both s (both o.sign s))) swapped all) in
      record {
        operation = k.operation;
        is_operation = k.is_operation;
        sign = k.sign_is ∙ both_twice s o.sign;
        turned = record { matrix = k.matrix_is; apart = subst (λ (x : ℤ). AreCellsApart x (sum_of (image w u) t) (multiple (pos a.n) k.operation.translation)) (sym swapped) k.apart };
      }

  -- it tells no two as one
  record AreSamePair (v : Matrix) (x : Triple) (u : Matrix) (y : Triple) : Type 0 where
    matrix : v ≡ u
    translation : x ≡ y

  turned_once : (v u v' : Matrix) (x y x' : Triple) → IsWithinCell a.n x → IsWithinCell a.n y → IsTurned v x v' x' → IsTurned u y v' x' → AreSamePair v x u y
  unfolding turned_translation
  turned_once v u v' x y x' within within' h k = record { matrix = same; translation = apart_same a.n x y within within' (nearer (pos a.n) (pos b.n) x y units'.n (apart_less (pos a.n *ℤ pos b.n) (multiple (pos b.n) x) (multiple (pos b.n) y) (image u (back_translation w t)) more)) }
    where
      same : v ≡ u
      same = right_cancel (inverse w) v u unit (left_cancel w (product v (inverse w)) (product u (inverse w)) g.unimodular (sym h.matrix ∙ k.matrix))

      together : AreCellsApart (pos a.n *ℤ pos b.n) (sum_of (image w (sum_of (image v (back_translation w t)) (multiple (pos b.n) x))) t) (sum_of (image w (sum_of (image u (back_translation w t)) (multiple (pos b.n) y))) t)
      together = apart_trans (pos a.n *ℤ pos b.n) (sum_of (image w (sum_of (image v (back_translation w t)) (multiple (pos b.n) x))) t) (multiple (pos a.n) x') (sum_of (image w (sum_of (image u (back_translation w t)) (multiple (pos b.n) y))) t) h.apart
          (apart_sym (pos a.n *ℤ pos b.n) (sum_of (image w (sum_of (image u (back_translation w t)) (multiple (pos b.n) y))) t) (multiple (pos a.n) x') k.apart)

      inside : AreCellsApart (pos a.n *ℤ pos b.n) (sum_of (image v (back_translation w t)) (multiple (pos b.n) x)) (sum_of (image u (back_translation w t)) (multiple (pos b.n) y))
      inside = apart_before (pos a.n *ℤ pos b.n) w (sum_of (image v (back_translation w t)) (multiple (pos b.n) x)) (sum_of (image u (back_translation w t)) (multiple (pos b.n) y)) g.unimodular
          (apart_less (pos a.n *ℤ pos b.n) (image w (sum_of (image v (back_translation w t)) (multiple (pos b.n) x))) (image w (sum_of (image u (back_translation w t)) (multiple (pos b.n) y))) t together)

      more : AreCellsApart (pos a.n *ℤ pos b.n) (sum_of (multiple (pos b.n) x) (image u (back_translation w t))) (sum_of (multiple (pos b.n) y) (image u (back_translation w t)))
      more = record {
        cells = inside.cells;
        is = sum_comm (multiple (pos b.n) x) (image u (back_translation w t)) ∙ ap (λ (m : Matrix). sum_of (image m (back_translation w t)) (multiple (pos b.n) x)) (sym same) ∙ inside.is
            ∙ ap (λ (q : Triple). sum_of q (multiple (pos a.n *ℤ pos b.n) inside.cells)) (sum_comm (image u (back_translation w t)) (multiple (pos b.n) y));
      }

  -- the identity's matrix stays, and no translation stays none
  still : (v v' : Matrix) (x x' : Triple) → IsTurned v x v' x' → v ≡ identity → v' ≡ identity
  still v v' x x' h e = h.matrix ∙ ap (λ (m : Matrix). product w (product m (inverse w))) e ∙ ap (product w) (product_identity_first (inverse w)) ∙ inverse_after w g.unimodular
    where
      product_identity_first : (m : Matrix) → product identity m ≡ m
      product_identity_first m = same_images (product identity m) m (λ z. image-product identity m z ∙ image-identity (image m z))

  opposite_sum : (y : Triple) → sum_of (multiple (negsuc 0) y) y ≡ origin
  opposite_sum y =
      let u = vector_of_variables 0 in
      let none : Vec3 Expr = record { x = con (pos 0); y = con (pos 0); z = con (pos 0) } in
      by_triples (coordinates y) (formulas.sum_of quoted (formulas.multiple quoted (con (negsuc 0)) u) u) none refl

  nothing : turned_translation identity origin ≡ origin
  unfolding turned_translation
  nothing =
      ap (λ (y : Triple). sum_of (image w y) t) ((λ i. sum_of (image-identity (back_translation w t) i) (multiple-origin (pos b.n) i)) ∙ sum_of-origin (back_translation w t))
      ∙ ap (λ (y : Triple). sum_of y t) (image-multiple w (negsuc 0) (image (inverse w) t) ∙ ap (multiple (negsuc 0)) (undoes_inverse w t g.unimodular))
      ∙ opposite_sum t

  fixed : (v v' : Matrix) (x x' : Triple) → IsWithinCell b.n x' → IsTurned v x v' x' → v ≡ identity → x ≡ origin → x' ≡ origin
  fixed v v' x x' within h e f =
      let away = apart_at (pos a.n *ℤ pos b.n) (turned_translation v x) origin (multiple (pos a.n) x') ((λ i. turned_translation (e i) (f i)) ∙ nothing) h.apart in
      let turned = apart_sym (pos a.n *ℤ pos b.n) origin (multiple (pos a.n) x') away in
      let near = nearer (pos b.n) (pos a.n) x' origin units.n (subst (λ (y : Triple). AreCellsApart (pos b.n *ℤ pos a.n) (multiple (pos a.n) x') y) (sym (multiple-origin (pos a.n))) (subst (λ (k : ℤ). AreCellsApart k (multiple (pos a.n) x') origin) swapped turned)) in
      cells_within b.n x' within (record { cells = near.cells; is = near.is ∙ sum_comm origin (multiple (pos b.n) near.cells) ∙ sum_of-origin (multiple (pos b.n) near.cells) })

  -- the operations of a are carried to those of b
  module _ (os os' : List Operation) (all : ListsAll a os) (all' : ListsAll b os') where
    pub carried : AreCarriedInto os' os
    carried o m =
        let k = turn o ((all.exact o).0 m) in
        record {
          operation = k.operation;
          of_list = (all'.exact k.operation).1 k.is_operation;
          sign = k.sign;
          still = still o.matrix k.operation.matrix o.translation k.operation.translation k.turned;
          fixed = fixed o.matrix k.operation.matrix o.translation k.operation.translation k.is_operation.translation k.turned;
        }

    -- no fewer operations
    record AreTurned (o o' : Operation) : Type 0 where
      turned : IsTurned o.matrix o.translation o'.matrix o'.translation
      sign : o'.sign ≡ o.sign

    same_operation : (o p q : Operation) → IsWithinCell a.n o.translation → IsWithinCell a.n p.translation → AreTurned o q → AreTurned p q → o ≡ p
    same_operation o p q h k i j =
        let e = turned_once o.matrix p.matrix q.matrix o.translation p.translation q.translation h k i.turned j.turned in
        let f = sym i.sign ∙ j.sign in
        λ i. record { matrix = e.matrix i; translation = e.translation i; sign = f i }

    within_of : (o : Operation) → IsMember o os → IsWithinCell a.n o.translation
    within_of o m = ((all.exact o).0 m).translation

    pub no_fewer_unprimed : (j k : ℕ) → IsNumberOf (IsUnprimed os) j → IsNumberOf (IsUnprimed os') k → j ≤ k
    no_fewer_unprimed j k x y =
        let h = into_le AreTurned x.all y.all x.once (record { right = right; one_left = λ o p q m l i j. same_operation o p q (within_of o ((x.exact o).0 m).of_list) (within_of p ((x.exact p).0 l).of_list) i j }) in
        omega (arith, h, x.count, y.count)
      where
        right : (o : Operation) → IsMember o x.all → (q : Operation) × (IsMember q y.all × AreTurned o q)
        right o m =
            let u = (x.exact o).0 m in
            let i = turn o ((all.exact o).0 u.of_list) in
            (i.operation, ((y.exact i.operation).1 (record { of_list = (all'.exact i.operation).1 i.is_operation; same = i.sign ∙ u.same }), record { turned = i.turned; sign = i.sign }))

    abbrev PairTurned : SpaceOperation → SpaceOperation → Type 0
    PairTurned p q = IsTurned p.matrix p.translation q.matrix q.translation

    pub no_fewer_pairs : (j k : ℕ) → IsNumberOf (IsInFamily os) j → IsNumberOf (IsInFamily os') k → j ≤ k
    no_fewer_pairs j k x y =
        let h = into_le PairTurned x.all y.all x.once (record { right = right; one_left = λ p q r m l i j. one_pair p q r m l i j }) in
        omega (arith, h, x.count, y.count)
      where
        right : (p : SpaceOperation) → IsMember p x.all → (q : SpaceOperation) × (IsMember q y.all × PairTurned p q)
        right p m =
            let u = (x.exact p).0 m in
            let i = turn (record { matrix = p.matrix; translation = p.translation; sign = u.sign }) ((all.exact (record { matrix = p.matrix; translation = p.translation; sign = u.sign })).0 u.of_list) in
            let q : SpaceOperation = record { matrix = i.operation.matrix; translation = i.operation.translation } in
            (q, ((y.exact q).1 (record { sign = i.operation.sign; of_list = (all'.exact i.operation).1 i.is_operation }), i.turned))

        within_pair : (p : SpaceOperation) → IsMember p x.all → IsWithinCell a.n p.translation
        within_pair p m =
            let u = (x.exact p).0 m in
            within_of (record { matrix = p.matrix; translation = p.translation; sign = u.sign }) u.of_list

        one_pair : (p q r : SpaceOperation) → IsMember p x.all → IsMember q x.all → PairTurned p r → PairTurned q r → p ≡ q
        one_pair p q r m l i j =
            let e = turned_once p.matrix q.matrix r.matrix p.translation q.translation r.translation (within_pair p m) (within_pair q l) i j in
            λ i. record { matrix = e.matrix i; translation = e.translation i }

  -- ---- maps, and operations of the one cell
  module _ (ms : List Operation) (found : (o : Operation) → IsMember o ms ↔ IsMap a b o) (once : IsDistinct ms) where
    within_steps : (h : Operation) → IsMember h ms → IsWithinCell (steps a b) h.translation
    within_steps h m = ((found h).0 m).within

    -- G O
    record IsAfter (o h : Operation) : Type 0 where
      matrix : h.matrix ≡ product w o.matrix
      sign : h.sign ≡ both s o.sign
      apart : AreCellsApart (pos a.n *ℤ pos b.n) (sum_of (image w (multiple (pos b.n) o.translation)) t) h.translation

    after : (o : Operation) → IsSymmetryOperation a o → (h : Operation) × (IsMember h ms × IsAfter o h)
    after o h =
        let first = sent_by_operation a limits (pos b.n) units'.n o h in
        let x = multiple (pos b.n) o.translation in
        let all = composed (pos a.n *ℤ pos b.n) a a b o.matrix w x t o.sign s units first g in
        let k = map_of_sent a b (product w o.matrix) (sum_of (image w x) t) (both s o.sign) units units' all in
        (k.operation, ((found k.operation).1 k.is_map, record { matrix = k.matrix_is; sign = k.sign_is; apart = k.apart }))

    after_once : (o p h : Operation) → IsWithinCell a.n o.translation → IsWithinCell a.n p.translation → IsAfter o h → IsAfter p h → o ≡ p
    after_once o p h l m i j =
        let d = pos a.n *ℤ pos b.n in
        let x = multiple (pos b.n) o.translation in
        let y = multiple (pos b.n) p.translation in
        let apart = apart_trans d (sum_of (image w x) t) h.translation (sum_of (image w y) t) i.apart (apart_sym d (sum_of (image w y) t) h.translation j.apart) in
        let inside = apart_before d w x y g.unimodular (apart_less d (image w x) (image w y) t apart) in
        let e = left_cancel w o.matrix p.matrix g.unimodular (sym i.matrix ∙ j.matrix) in
        let f = apart_same a.n o.translation p.translation l m (nearer (pos a.n) (pos b.n) o.translation p.translation units'.n inside) in
        let same = both_cancel s o.sign p.sign (sym i.sign ∙ j.sign) in
        λ z. record { matrix = e z; translation = f z; sign = same z }

    -- G⁻¹ H
    record IsBefore (h o : Operation) : Type 0 where
      matrix : o.matrix ≡ product (inverse w) h.matrix
      sign : o.sign ≡ both s h.sign
      apart : AreCellsApart (pos a.n *ℤ pos b.n) (sum_of (image (inverse w) h.translation) (back_translation w t)) (multiple (pos b.n) o.translation)

    before : (h : Operation) → IsMap a b h → (o : Operation) × (IsSymmetryOperation a o × IsBefore h o)
    before h is_map =
        let x = back_translation w t in
        let all = composed (pos a.n *ℤ pos b.n) a b a h.matrix (inverse w) h.translation x h.sign s units' (sent_by_map a b h is_map) back in
        let k = operation_of_sent a limits (pos b.n) units'.n (product (inverse w) h.matrix) (sum_of (image (inverse w) h.translation) x) (both s h.sign) all in
        (k.operation, (k.is_operation, record { matrix = k.matrix_is; sign = k.sign_is; apart = k.apart }))

    before_once : (h k o : Operation) → IsWithinCell (steps a b) h.translation → IsWithinCell (steps a b) k.translation → IsBefore h o → IsBefore k o → h ≡ k
    before_once h k o l m i j =
        let d = pos a.n *ℤ pos b.n in
        let v = inverse w in
        let x = back_translation w t in
        let y = multiple (pos b.n) o.translation in
        let apart = apart_trans d (sum_of (image v h.translation) x) y (sum_of (image v k.translation) x) i.apart (apart_sym d (sum_of (image v k.translation) x) y j.apart) in
        let inside = apart_before d v h.translation k.translation unit (apart_less d (image v h.translation) (image v k.translation) x apart) in
        let e = left_cancel v h.matrix k.matrix unit (sym i.matrix ∙ j.matrix) in
        let f = apart_same (steps a b) h.translation k.translation l m inside in
        let same = both_cancel s h.sign k.sign (sym i.sign ∙ j.sign) in
        λ z. record { matrix = e z; translation = f z; sign = same z }

    pub as_many_as_first : (os : List Operation) → ListsAll a os → length ms ≡ length os
    as_many_as_first os all =
        let up = into_le IsAfter os ms (increasing_distinct compare_of compare_total os all.increasing) (record { right = λ o m. after o ((all.exact o).0 m); one_left = λ o p h m l i j. after_once o p h ((all.exact o).0 m).translation ((all.exact p).0 l).translation i j }) in
        let down = into_le IsBefore ms os once (record { right = λ h m. (let k = before h ((found h).0 m) in (k.0, ((all.exact k.0).1 k.1.0, k.1.1))); one_left = λ h k o m l i j. before_once h k o (within_steps h m) (within_steps k l) i j }) in
        omega (arith, up, down)

    -- ---- maps, and operations of the other cell

    -- O G
    record IsBehind (o h : Operation) : Type 0 where
      matrix : h.matrix ≡ product o.matrix w
      sign : h.sign ≡ both o.sign s
      apart : AreCellsApart (pos a.n *ℤ pos b.n) (sum_of (image o.matrix t) (multiple (pos a.n) o.translation)) h.translation

    behind : (o : Operation) → IsSymmetryOperation b o → (h : Operation) × (IsMember h ms × IsBehind o h)
    behind o h =
        let x = multiple (pos a.n) o.translation in
        let next = subst (λ (k : ℤ). Sends k b b o.matrix x o.sign) (sym swapped) (sent_by_operation b limits' (pos a.n) units.n o h) in
        let all = composed (pos a.n *ℤ pos b.n) a b b w o.matrix t x s o.sign units' g next in
        let k = map_of_sent a b (product o.matrix w) (sum_of (image o.matrix t) x) (both o.sign s) units units' all in
        (k.operation, ((found k.operation).1 k.is_map, record { matrix = k.matrix_is; sign = k.sign_is; apart = k.apart }))

    -- what is behind both does not matter
    apart_more : (d : ℤ) (u v : Matrix) (x y z : Triple) → u ≡ v → AreCellsApart d (sum_of (image u x) y) (sum_of (image v x) z) → AreCellsApart d y z
    apart_more d u v x y z e h = apart_less d y z (image v x) (record {
      cells = h.cells;
      is = sum_comm y (image v x) ∙ ap (λ (m : Matrix). sum_of (image m x) y) (sym e) ∙ h.is ∙ ap (λ (q : Triple). sum_of q (multiple d h.cells)) (sum_comm (image v x) z);
    })

    behind_once : (o p h : Operation) → IsWithinCell b.n o.translation → IsWithinCell b.n p.translation → IsBehind o h → IsBehind p h → o ≡ p
    behind_once o p h l m i j =
        let d = pos a.n *ℤ pos b.n in
        let x = multiple (pos a.n) o.translation in
        let y = multiple (pos a.n) p.translation in
        let apart = apart_trans d (sum_of (image o.matrix t) x) h.translation (sum_of (image p.matrix t) y) i.apart (apart_sym d (sum_of (image p.matrix t) y) h.translation j.apart) in
        let e = right_cancel w o.matrix p.matrix g.unimodular (sym i.matrix ∙ j.matrix) in
        let inside = subst (λ (k : ℤ). AreCellsApart k x y) swapped (apart_more d o.matrix p.matrix t x y e apart) in
        let f = apart_same b.n o.translation p.translation l m (nearer (pos b.n) (pos a.n) o.translation p.translation units.n inside) in
        let same = both_cancel_last s o.sign p.sign (sym i.sign ∙ j.sign) in
        λ z. record { matrix = e z; translation = f z; sign = same z }

    -- H G⁻¹
    record IsUndone (h o : Operation) : Type 0 where
      matrix : o.matrix ≡ product h.matrix (inverse w)
      sign : o.sign ≡ both h.sign s
      apart : AreCellsApart (pos a.n *ℤ pos b.n) (sum_of (image h.matrix (back_translation w t)) h.translation) (multiple (pos a.n) o.translation)

    undone : (h : Operation) → IsMap a b h → (o : Operation) × (IsSymmetryOperation b o × IsUndone h o)
    undone h is_map =
        let x = back_translation w t in
        let all = composed (pos a.n *ℤ pos b.n) b a b (inverse w) h.matrix x h.translation s h.sign units back (sent_by_map a b h is_map) in
        let k = operation_of_sent b limits' (pos a.n) units.n (product h.matrix (inverse w)) (sum_of (image h.matrix x) h.translation) (both h.sign s)
        (subst (λ (z : ℤ). Sends z b b (product h.matrix (inverse w)) (sum_of (image h.matrix x) h.translation) (both h.sign s)) swapped all) in
        (k.operation, (k.is_operation, record { matrix = k.matrix_is; sign = k.sign_is; apart = subst (λ (z : ℤ). AreCellsApart z (sum_of (image h.matrix x) h.translation) (multiple (pos a.n) k.operation.translation)) (sym swapped) k.apart }))

    undone_once : (h k o : Operation) → IsWithinCell (steps a b) h.translation → IsWithinCell (steps a b) k.translation → IsUndone h o → IsUndone k o → h ≡ k
    undone_once h k o l m i j =
        let d = pos a.n *ℤ pos b.n in
        let x = back_translation w t in
        let y = multiple (pos a.n) o.translation in
        let apart = apart_trans d (sum_of (image h.matrix x) h.translation) y (sum_of (image k.matrix x) k.translation) i.apart (apart_sym d (sum_of (image k.matrix x) k.translation) y j.apart) in
        let e = right_cancel (inverse w) h.matrix k.matrix unit (sym i.matrix ∙ j.matrix) in
        let f = apart_same (steps a b) h.translation k.translation l m (apart_more d h.matrix k.matrix x h.translation k.translation e apart) in
        let same = both_cancel_last s h.sign k.sign (sym i.sign ∙ j.sign) in
        λ z. record { matrix = e z; translation = f z; sign = same z }

    pub as_many_as_second : (os : List Operation) → ListsAll b os → length ms ≡ length os
    as_many_as_second os all =
        let up = into_le IsBehind os ms (increasing_distinct compare_of compare_total os all.increasing) (record { right = λ o m. behind o ((all.exact o).0 m); one_left = λ o p h m l i j. behind_once o p h ((all.exact o).0 m).translation ((all.exact p).0 l).translation i j }) in
        let down = into_le IsUndone ms os once (record { right = λ h m. (let k = undone h ((found h).0 m) in (k.0, ((all.exact k.0).1 k.1.0, k.1.1))); one_left = λ h k o m l i j. undone_once h k o (within_steps h m) (within_steps k l) i j }) in
        omega (arith, up, down)

-- ---- both ways
module _ (a b : Structure) (limits : IsCellWithinLimits a) (limits' : IsCellWithinLimits b) (primitive : IsPrimitive a) (primitive' : IsPrimitive b) (g : Operation) (is_map : IsMap a b g) (os os' : List Operation) (all : ListsAll a os) (all' : ListsAll b os') where
  there : Sends (pos a.n *ℤ pos b.n) a b g.matrix g.translation g.sign
  there = sent_by_map a b g is_map

  and_back : Sends (pos b.n *ℤ pos a.n) b a (inverse g.matrix) (back_translation g.matrix g.translation) g.sign
  and_back = subst (λ (x : ℤ). Sends x b a (inverse g.matrix) (back_translation g.matrix g.translation) g.sign) (by_integers (pos a.n ∷ pos b.n ∷ []) (var 0 :* var 1) (var 1 :* var 0) refl)
      (sent_back (pos a.n *ℤ pos b.n) a b g.matrix g.translation g.sign there)

  equal : (j k : ℕ) → j ≤ k → k ≤ j → j ≡ k
  equal j k h i = omega (arith, h, i)

  pub groups_alike : AreAlike os os'
  groups_alike = record {
    one_type = λ j k x y. one_type b.n os' (group_of_all b os' (is_cell b limits') all') (primitive_of_all b os' primitive' all') j k
        (type_carried a.n os os' (group_of_all a os (is_cell a limits) all) (primitive_of_all a os primitive all)
        (carried a b limits limits' g.matrix g.translation g.sign there os os' all all') (carried b a limits' limits (inverse g.matrix) (back_translation g.matrix g.translation) g.sign and_back os' os all' all) j x) y;
    one_family = λ j k x y. equal j k (no_fewer_pairs a b limits limits' g.matrix g.translation g.sign there os os' all all' j k x y)
        (no_fewer_pairs b a limits' limits (inverse g.matrix) (back_translation g.matrix g.translation) g.sign and_back os' os all' all k j y x);
    one_unprimed = λ j k x y. equal j k (no_fewer_unprimed a b limits limits' g.matrix g.translation g.sign there os os' all all' j k x y)
        (no_fewer_unprimed b a limits' limits (inverse g.matrix) (back_translation g.matrix g.translation) g.sign and_back os' os all' all k j y x);
  }
