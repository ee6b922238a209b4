-- What a search of maps rests on. The symbol's group is known by representatives, one operation for each matrix and time sign.
-- A map is tried by the images of the representatives alone: where each has a member of its matrix and sign, and their
-- translation parts agree at an origin, the whole group is carried.
use Rattle.std.proofs.Common.{◌≡◌, ℕ, suc, ℤ, pos, ◌*ℤ◌, ◌<ℤ◌, ◌≤◌, List, [], ◌∷◌, ◌++◌, map, length, refl, sym, ◌∙◌, ap, ap₂, subst, arith, inl, inr, ◌⊎◌}
use Rattle.std.specs.Prelude.{◌↔◌}
use Rattle.ring.specs.Ring.{var, con, quoted, ◌:*◌}
use Rattle.ring.proofs.IntOrder.{mul_pos}
use Rattle.lists.specs.Increasing.{IsMember, IsDistinct}
use Rattle.lists.proofs.Counting.{Into, covered, into_le}
use Rattle.lists.proofs.Distinct.{IsDistinct-from_mapped, IsDistinct-mapped, told_apart}
use Rattle.lists.proofs.Members.{MappedFrom, mapped_from, mapped_member}
use Rattle.matrix3.specs.Matrices.{coordinates, entries, vector_of_variables, matrix_of_variables}
use Rattle.matrix3.specs.Matrices as formulas
use Rattle.crystal_spec.specs.declared.Sign.{Sign}
use Rattle.crystal_spec.specs.declared.Sign.TheVariants.{Same, Reversed}
use Rattle.crystal_spec.specs.Matrices.{Triple, Matrix, product, image, determinant, adjugate, multiple, sum_of, difference}
use Rattle.crystal_spec.specs.Operations.{Operation}
use Rattle.crystal_spec.proofs.Identities.{by_integers, by_triples}
use Rattle.crystal_spec.proofs.Isometries.{determinant-product}
use Rattle.positions.specs.Positions.{origin}
use Rattle.std.proofs.lemmas.List.{length-map}
use Rattle.op_group.specs.Groups.{IsGroupModulo}
use Rattle.mag_type.specs.MagneticTypes.{HasOnlyZeroTranslation}
use Rattle.match_spec.specs.Points.{Point, point, IsPoint, IsInCell, IsWhole, SameModuloOne}
use Rattle.match_spec.specs.Maps.{image_shift, Carries, Pair, IsPairs, matrix_of, balance}
use Rattle.match_spec.specs.FirstMap.{IsClass, IsBefore, IsLeastOrigin}
use Rattle.match_spec.proofs.Laws.{zero_vector}
use Rattle.match_spec.proofs.Wholes.{whole_is, cancel_left, cancel_right, not_zero}
use Rattle.match_spec.proofs.Units.{InUnits, in_units, same_to, same_from}
use Rattle.match_spec.proofs.Moves.{lit_pos, image_units, in_image, image_triple}
use Rattle.match_spec.specs.Searching.{class_of, AreRepresentatives, source_of, AreMatched, IsFirstOfMatrix, IsLaterOfMatrix, IsPart, gap_sum, place_units, excess_at, AllWhole}
use Rattle.match_spec.proofs.Counts.{IsClasses, Turns, matched, same_class}
use Rattle.match_spec.proofs.Homs.{Lands, scale_of}
use Rattle.match_spec.proofs.Reps.{lands_pure, one_each_carries, takes_pure}
use Rattle.match_spec.proofs.Decide.{lands_at, least_origin_is}
use Rattle.match_spec.proofs.Origins.{balance_units, some_pair}
use Rattle.match_spec.proofs.Balances.{reduced_balance}
use Rattle.match_spec.proofs.Candidates.{IsReduced}
use Rattle.match_spec.proofs.Firsts.{none_at}
use Rattle.match_spec.proofs.Conjugate.{conjugated, inner}
use Rattle.match_spec.specs.BalancedPoints.{origin_at, IsPlace}
use Rattle.match_spec.proofs.ListedGroups.{some_cells, group_of, primitive_of, same_member, IsStep}

-- ---- lists of classes

-- the classes of the representatives are those of the group
pub classes_of : (h rs : List Operation) → AreRepresentatives h rs → IsClasses h (map class_of rs)
classes_of h rs r = record {
  distinct = r.distinct;
  classes = λ c k. (let x = mapped_from class_of c rs k in (x.item, (r.of_list x.item x.of_list, sym x.is)));
  all = λ o k. (let x = r.each o k in subst (λ c. IsMember c (map class_of rs)) x.1.1 (mapped_member class_of x.0 rs x.1.0));
}

-- ---- parts of a list

pub part_of : {X : Type 0} (P N : X → Type 0) (xs ys : List X) → IsPart P N xs ys → (y : X) → IsMember y ys → IsMember y xs × P y
part_of P N [] ys h y k = absurd (subst (IsMember y) h k)
part_of {X} P N (x ∷ xs) ys (inl h) y k = by (subst (IsMember y) h.1.1.0 k) (part_of P N xs h.1.0 h.1.1.1 y)
  where
    by : IsMember y (x ∷ h.1.0) → (IsMember y h.1.0 → IsMember y xs × P y) → IsMember y (x ∷ xs) × P y
    by (inl e) rec = (inl e, subst P (sym e) h.0)
    by (inr j) rec = (let r = rec j in (inr r.0, r.1))
part_of P N (x ∷ xs) ys (inr h) y k = (let r = part_of P N xs ys h.1 y k in (inr r.0, r.1))

pub part_either : {X : Type 0} (P N : X → Type 0) (xs ys : List X) → IsPart P N xs ys → (x : X) → IsMember x xs → IsMember x ys ⊎ N x
part_either P N [] ys h x k = absurd k
part_either P N (w ∷ xs) ys (inl h) x (inl e) = inl (subst (IsMember x) (sym h.1.1.0) (inl e))
part_either {X} P N (w ∷ xs) ys (inl h) x (inr k) = by (part_either P N xs h.1.0 h.1.1.1 x k)
  where
    by : IsMember x h.1.0 ⊎ N x → IsMember x ys ⊎ N x
    by (inl j) = inl (subst (IsMember x) (sym h.1.1.0) (inr j))
    by (inr j) = inr j
part_either P N (w ∷ xs) ys (inr h) x (inl e) = inr (subst N (sym e) h.0)
part_either P N (w ∷ xs) ys (inr h) x (inr k) = part_either P N xs ys h.1 x k

pub part_distinct : {X : Type 0} (P N : X → Type 0) (xs ys : List X) → IsPart P N xs ys → IsDistinct xs → IsDistinct ys
part_distinct P N [] ys h d = subst IsDistinct (sym h) tt
part_distinct P N (x ∷ xs) ys (inl h) d =
    subst IsDistinct (sym h.1.1.0) ((λ k. d.0 (part_of P N xs h.1.0 h.1.1.1 x k).0), part_distinct P N xs h.1.0 h.1.1.1 d.1)
part_distinct P N (x ∷ xs) ys (inr h) d = part_distinct P N xs ys h.1 d.1

pub part_length : {X : Type 0} (P N : X → Type 0) (xs ys : List X) → IsPart P N xs ys → length ys ≤ length xs
part_length P N [] ys h = let e : length ys ≡ 0 = ap length h in omega (arith, e)
part_length {X} P N (x ∷ xs) ys (inl h) = by (part_length P N xs h.1.0 h.1.1.1) (ap length h.1.1.0)
  where
    by : length h.1.0 ≤ length xs → length ys ≡ suc (length h.1.0) → length ys ≤ suc (length xs)
    by r e = omega (arith, r, e)
part_length {X} P N (x ∷ xs) ys (inr h) = by (part_length P N xs ys h.1)
  where
    by : length ys ≤ length xs → length ys ≤ suc (length xs)
    by r = omega (arith, r)

-- the sum of gaps is the balance in units of 1 / 12 n
pub gap_sum-units : (q : Matrix) (n : ℤ) (cs : List Pair) → balance_units q n (pos 12) cs ≡ gap_sum q n cs
gap_sum-units q n [] = refl
gap_sum-units q n (c ∷ cs) = ap₂ sum_of (one n q c.member.matrix c.source.translation c.member.translation) (gap_sum-units q n cs)
  where
    one : (n : ℤ) (q v : Matrix) (w m : Triple) → difference (multiple (pos 12) m) (sum_of (image q (multiple n w)) (difference origin (image v origin))) ≡ difference (multiple (pos 12) m) (multiple n (image q w))
    one n q v w m =
        let o = zero_vector quoted in
        by_triples (n ∷ (coordinates w ++ coordinates m ++ entries q ++ entries v)) (formulas.difference quoted (formulas.multiple quoted (con (pos 12)) (vector_of_variables 4)) (formulas.sum_of quoted (formulas.image quoted (matrix_of_variables 7) (formulas.multiple quoted (var 0) (vector_of_variables 1))) (formulas.difference quoted o (formulas.image quoted (matrix_of_variables 16) o)))) (formulas.difference quoted (formulas.multiple quoted (con (pos 12)) (vector_of_variables 4)) (formulas.multiple quoted (var 0) (formulas.image quoted (matrix_of_variables 7) (vector_of_variables 1)))) refl

-- ---- the test in integers

pub excess_is : (k n : ℤ) (q v : Matrix) (u w m : Triple) → difference (sum_of (image q (multiple (k *ℤ n) w)) (difference u (image v u))) (multiple (k *ℤ pos 12) m) ≡ difference (difference u (image v u)) (multiple k (difference (multiple (pos 12) m) (multiple n (image q w))))
excess_is k n q v u w m =
    by_triples (k ∷ n ∷ (coordinates u ++ coordinates w ++ coordinates m ++ entries q ++ entries v)) (formulas.difference quoted (formulas.sum_of quoted (formulas.image quoted (matrix_of_variables 11) (formulas.multiple quoted (var 0 :* var 1) (vector_of_variables 5))) (formulas.difference quoted (vector_of_variables 2) (formulas.image quoted (matrix_of_variables 20) (vector_of_variables 2)))) (formulas.multiple quoted (var 0 :* con (pos 12)) (vector_of_variables 8))) (formulas.difference quoted (formulas.difference quoted (vector_of_variables 2) (formulas.image quoted (matrix_of_variables 20) (vector_of_variables 2))) (formulas.multiple quoted (var 0) (formulas.difference quoted (formulas.multiple quoted (con (pos 12)) (vector_of_variables 8)) (formulas.multiple quoted (var 1) (formulas.image quoted (matrix_of_variables 11) (vector_of_variables 5)))))) refl

-- at the place z the translation parts agree where the excess is a multiple of 12 n k
pub fits_at : (q : Matrix) (n : ℤ) (r : Triple) (k : ℤ) (z : Triple) (c : Pair) → pos 0 <ℤ n → pos 0 <ℤ k → SameModuloOne (image_shift q (origin_at (point r (n *ℤ pos 12)) k z) c.member.matrix c.source.translation) (point c.member.translation n) ↔ IsWhole (k *ℤ (n *ℤ pos 12)) (excess_at q n r k z c)
fits_at q n r k z c pn pk =
    let p = origin_at (point r (n *ℤ pos 12)) k z in
    let d = k *ℤ (n *ℤ pos 12) in
    let u = place_units n r z in
    let v = c.member.matrix in
    let w = c.source.translation in
    let pd : pos 0 <ℤ d = mul_pos _ _ pk (mul_pos _ _ pn (lit_pos 11)) in
    let ip : IsPoint p = record { positive = pd } in
    let iu : InUnits d p u = record { is = refl } in
    let one = in_image d (k *ℤ n) q p u v w (by_twelve k n) iu in
    let two = in_units d n (k *ℤ pos 12) c.member.translation (by_n k n) in (
      (λ s. whole_is d _ _ (sym (excess_is k n q v u w c.member.translation)) (same_to d (image_shift q p v w) (point c.member.translation n) (image_units q u v w (k *ℤ n)) (multiple (k *ℤ pos 12) c.member.translation) (image_triple q p v w ip) (record { positive = pn }) one two s)),
      (λ x. same_from d (image_shift q p v w) (point c.member.translation n) (image_units q u v w (k *ℤ n)) (multiple (k *ℤ pos 12) c.member.translation) pd one two (whole_is d _ _ (excess_is k n q v u w c.member.translation) x)),
    )
  where
    by_twelve : (k n : ℤ) → k *ℤ (n *ℤ pos 12) ≡ pos 12 *ℤ (k *ℤ n)
    by_twelve k n = by_integers (k ∷ n ∷ []) (var 0 :* (var 1 :* con (pos 12))) (con (pos 12) :* (var 0 :* var 1)) refl

    by_n : (k n : ℤ) → k *ℤ (n *ℤ pos 12) ≡ n *ℤ (k *ℤ pos 12)
    by_n k n = by_integers (k ∷ n ∷ []) (var 0 :* (var 1 :* con (pos 12))) (var 1 :* (var 0 :* con (pos 12))) refl

-- ---- the search

module _ (n : ℕ) (m : List Operation) (g : IsGroupModulo n m) (pr : HasOnlyZeroTranslation m) where
  -- each member of the found group has a class of its own
  pub found_classes : IsDistinct m → IsClasses m (map class_of m)
  found_classes d = record {
    distinct = IsDistinct-mapped class_of m d (λ x w hx hw e. same_member n m g pr x w hx hw (ap (λ c. c.matrix) e) (ap (λ c. c.sign) e));
    classes = λ c k. (let x = mapped_from class_of c m k in (x.item, (x.of_list, sym x.is)));
    all = λ p k. mapped_member class_of p m k;
  }

  module _ (h : List Operation) (gh : IsGroupModulo 12 h) (s : Matrix) (st : IsStep h s) (rs : List Operation) (ar : AreRepresentatives h rs) (d : IsDistinct m) where
    -- Q = P S has a determinant other than 0
    pub turn_nonzero : (c : Matrix) → IsClass c → determinant (product c s) ≡ pos 0 → ⊥
    turn_nonzero c ic e =
        not_zero (determinant s) st.above (one (determinant s) ∙ (ap (λ (z : ℤ). z *ℤ determinant s) (sym ic.proper) ∙ (sym (determinant-product c s) ∙ e)))
      where
        one : (z : ℤ) → z ≡ pos 1 *ℤ z
        one z = by_integers (z ∷ []) (var 0) (con (pos 1) :* var 0) refl

    -- where any point carries, there are as many representatives as members
    pub as_many : (c : Matrix) → IsClass c → (p : Point) → Carries (product c s) p h (pos n) m → length rs ≡ length m
    as_many c ic p ca =
        let q = product c s in
        let nz = turn_nonzero c ic in
        let mt = matched q p h (pos n) m (map class_of rs) (map class_of m) nz (classes_of h rs ar) (found_classes d) ca in
        let le : length (map class_of rs) ≤ length (map class_of m) = into_le (Turns q) (map class_of rs) (map class_of m) ar.distinct (record { right = mt.right; one_left = λ x w y hx hw. mt.one_left x w y }) in
        let ge : length (map class_of m) ≤ length (map class_of rs) = into_le (λ y x. Turns q x y) (map class_of m) (map class_of rs) (found_classes d).distinct (record { right = mt.left; one_left = λ y z x hy hz. mt.one_right x y z }) in
        omega (arith, le, ge, length-map rs class_of, length-map m class_of)

    module _ (c : Matrix) (ic : IsClass c) (cs : List Pair) (am : AreMatched (product c s) m rs cs) (le : length m ≤ length rs) where
      pair_of_source : (r : Operation) → IsMember r rs → MappedFrom source_of r cs
      pair_of_source r hr = mapped_from source_of r cs (subst (λ os. IsMember r os) (sym am.sources) hr)

      -- each member of the found group stands in one of the pairs
      pub met : (f : Operation) → IsMember f m → (k : Pair) × (IsMember k cs × (k.member ≡ f))
      met f hf =
          let x = covered Goes rs m (IsDistinct-from_mapped class_of rs ar.distinct) le into f hf in
          let k = pair_of_source x.0 x.1.0 in
          let e = am.each k.item k.of_list in
          (k.item, (k.of_list, same_member n m g pr k.item.member f e.member hf (cancel_right (product c s) k.item.member.matrix f.matrix (turn_nonzero c ic) (e.matrix ∙ (ap (λ o. product (product c s) o.matrix) (sym k.is) ∙ sym x.1.1.matrix))) (e.sign ∙ (ap (λ o. o.sign) (sym k.is) ∙ sym x.1.1.sign))))
        where
          Goes : Operation → Operation → Type 0
          Goes r f = Turns (product c s) (class_of r) (class_of f)

          into : Into Goes rs m
          into = record {
            right = λ r hr. (let k = pair_of_source r hr in let e = am.each k.item k.of_list in (k.item.member, (e.member, record { matrix = e.matrix ∙ ap (λ o. product (product c s) o.matrix) (sym k.is); sign = e.sign ∙ ap (λ o. o.sign) (sym k.is) })));
            one_left = λ r w f hr hw a b. told_apart class_of rs ar.distinct r w hr hw (same_class (class_of r) (class_of w) (cancel_left (product c s) r.matrix w.matrix (turn_nonzero c ic) (sym a.matrix ∙ b.matrix)) (sym a.sign ∙ b.sign));
          }

      -- what is tested at a point
      abbrev pub Fits : Point → Pair → Type 0
      Fits p k = SameModuloOne (image_shift (product c s) p k.member.matrix k.source.translation) (point k.member.translation (pos n))

      -- where the translation parts of all pairs agree, the map carries
      pub fits_carries : (p : Point) → IsPoint p → ((k : Pair) → IsMember k cs → Fits p k) → Carries (product c s) p h (pos n) m
      fits_carries p ip fits =
          let q = product c s in
          let gm = group_of n m g in
          let pn = some_cells n m g in
          let sc = scale_of (pos n) p pn ip in
          one_each_carries q p h (pos n) m (turn_nonzero c ic) pn ip gm (primitive_of n m pr) (λ o ho. lands o ho) (λ f hf. (let k = met f hf in (k.0.source, (ar.of_list k.0.source (source_in k.0 k.1.0), (ap (λ o. product o.matrix q) (sym k.1.1) ∙ (am.each k.0 k.1.0).matrix, ap (λ o. o.sign) (sym k.1.1) ∙ (am.each k.0 k.1.0).sign)))))
        where
          source_in : (k : Pair) → IsMember k cs → IsMember k.source rs
          source_in k hk = subst (λ os. IsMember k.source os) am.sources (mapped_member source_of k cs hk)

          lands : (o : Operation) → IsMember o h → Lands (product c s) p (pos n) m o
          lands o ho =
              let r = ar.each o ho in
              let k = pair_of_source r.0 r.1.0 in
              let e = am.each k.item k.of_list in
              let there : Lands (product c s) p (pos n) m k.item.source =
              record { found = k.item.member; member = e.member; is_image = record { matrix = e.matrix; translation = fits k.item k.of_list; sign = e.sign } } in
              lands_pure (pos n) p (scale_of (pos n) p (some_cells n m g) ip) (product c s) m h (group_of 12 h gh) (takes_pure c s h st.takes_pure) k.item.source o (ar.of_list k.item.source (source_in k.item k.of_list)) ho (sym (ap (λ z. z.matrix) r.1.1) ∙ ap (λ z. z.matrix) k.is) (sym (ap (λ z. z.sign) r.1.1) ∙ ap (λ z. z.sign) k.is) there

      -- and where it carries they agree
      pub carries_fits : (p : Point) → IsPoint p → Carries (product c s) p h (pos n) m → (k : Pair) → IsMember k cs → Fits p k
      carries_fits p ip ca k hk =
          let e = am.each k hk in
          let o = k.source in
          let ho : IsMember o h = ar.of_list o (subst (λ os. IsMember o os) am.sources (mapped_member source_of k cs hk)) in
          let x = ca.into o ho in
          (lands_at (product c s) p (pos n) m o k.member (turn_nonzero c ic) (some_cells n m g) ip (group_of n m g) (primitive_of n m pr) e.member e.matrix e.sign).0 (record { found = x.0; member = x.1.0; is_image = x.1.1 })

      -- two pairs of one member are one
      same_pair : (x w : Pair) → IsMember x cs → IsMember w cs → x.member ≡ w.member → x ≡ w
      same_pair x w hx hw e =
          let q = product c s in
          let ex = am.each x hx in
          let ew = am.each w hw in
          let sx : IsMember x.source rs = subst (λ os. IsMember x.source os) am.sources (mapped_member source_of x cs hx) in
          let sw : IsMember w.source rs = subst (λ os. IsMember w.source os) am.sources (mapped_member source_of w cs hw) in
          let source : x.source ≡ w.source =
          told_apart class_of rs ar.distinct x.source w.source sx sw (same_class (class_of x.source) (class_of w.source) (cancel_left q x.source.matrix w.source.matrix (turn_nonzero c ic) (sym ex.matrix ∙ (ap (λ o. product o.matrix q) e ∙ ew.matrix))) (sym ex.sign ∙ (ap (λ o. o.sign) e ∙ ew.sign))) in
          (λ k. record { member = e k; source = source k })

      -- the pairs of the balance: for each matrix that of sign +1, where there is one
      pub chosen_pairs : (ds : List Pair) → IsPart (IsFirstOfMatrix m) (IsLaterOfMatrix m) cs ds → IsPairs (product c s) h m ds
      chosen_pairs ds pt = record {
        each = λ x hx. (let k = of x hx in let e = am.each x k.0 in record {
          member = e.member;
          source = ar.of_list x.source (subst (λ os. IsMember x.source os) am.sources (mapped_member source_of x cs k.0));
          matrix = e.matrix;
          sign = e.sign;
          same_if_any = λ o ho em es. unless x.member.sign (λ r. k.1 r (record { operation = o; of_list = ho; matrix = em; sign = es }));
        });
        matrices = record {
          distinct = IsDistinct-mapped matrix_of ds (part_distinct First Later cs ds pt (IsDistinct-from_mapped source_of cs (subst IsDistinct (sym am.sources) (IsDistinct-from_mapped class_of rs ar.distinct)))) (λ x w hx hw e. one x w (of x hx) (of w hw) e (either x.member.sign) (either w.member.sign));
          matrices = λ v hv. (let x = mapped_from matrix_of v ds hv in (x.item.member, ((am.each x.item (of x.item x.of_list).0).member, sym x.is)));
          all = λ f hf. (let k = met f hf in subst (λ o. IsMember o.matrix (map matrix_of ds)) k.1.1 (there k.0 k.1.0 (part_either First Later cs ds pt k.0 k.1.0)));
        };
      }
        where
          First : Pair → Type 0
          First = IsFirstOfMatrix m

          Later : Pair → Type 0
          Later = IsLaterOfMatrix m

          of : (x : Pair) → IsMember x ds → IsMember x cs × IsFirstOfMatrix m x
          of = part_of First Later cs ds pt

          unless : (t : Sign) → (t ≡ Reversed → ⊥) → t ≡ Same
          unless Same h = refl
          unless Reversed h = absurd (h refl)

          either : (t : Sign) → (t ≡ Same) ⊎ (t ≡ Reversed)
          either Same = inl refl
          either Reversed = inr refl

          one : (x w : Pair) → IsMember x cs × IsFirstOfMatrix m x → IsMember w cs × IsFirstOfMatrix m w → x.member.matrix ≡ w.member.matrix → (x.member.sign ≡ Same) ⊎ (x.member.sign ≡ Reversed) → (w.member.sign ≡ Same) ⊎ (w.member.sign ≡ Reversed) → x ≡ w
          one x w hx hw e (inl a) (inl b) =
              same_pair x w hx.0 hw.0 (same_member n m g pr x.member w.member (am.each x hx.0).member (am.each w hw.0).member e (a ∙ sym b))
          one x w hx hw e (inr a) (inr b) =
              same_pair x w hx.0 hw.0 (same_member n m g pr x.member w.member (am.each x hx.0).member (am.each w hw.0).member e (a ∙ sym b))
          one x w hx hw e (inl a) (inr b) =
              absurd (hw.1 b (record { operation = x.member; of_list = (am.each x hx.0).member; matrix = e; sign = a }))
          one x w hx hw e (inr a) (inl b) =
              absurd (hx.1 a (record { operation = w.member; of_list = (am.each w hw.0).member; matrix = sym e; sign = b }))

          there : (k : Pair) → IsMember k cs → IsMember k ds ⊎ IsLaterOfMatrix m k → IsMember k.member.matrix (map matrix_of ds)
          there k hk (inl j) = mapped_member matrix_of k ds j
          there k hk (inr l) =
              let o = met l.unprimed.operation l.unprimed.of_list in
              subst (λ v. IsMember v (map matrix_of ds)) (ap (λ f. f.matrix) o.1.1 ∙ l.unprimed.matrix) (mapped_member matrix_of o.0 ds (first o.0 (ap (λ f. f.sign) o.1.1 ∙ l.unprimed.sign) (part_either First Later cs ds pt o.0 o.1.0)))
            where
              first : (o : Pair) → o.member.sign ≡ Same → IsMember o ds ⊎ IsLaterOfMatrix m o → IsMember o ds
              first o e (inl j) = j
              first o e (inr l) = absurd (cc (sym e ∙ l.reversed))

      module _ (ds : List Pair) (pt : IsPart (IsFirstOfMatrix m) (IsLaterOfMatrix m) cs ds) (r : Triple) (ri : IsInCell (point r (pos n *ℤ pos 12))) (rw : IsWhole (pos n *ℤ pos 12) (difference (gap_sum (product c s) (pos n) ds) r)) where
        pairs : IsPairs (product c s) h m ds
        pairs = chosen_pairs ds pt

        pub some : pos 0 <ℤ pos (length ds)
        some = some_pair (pos n) m ds (group_of n m g) pairs.matrices

        red : IsReduced (balance (product c s) (pos n) ds) (point r (pos n *ℤ pos 12))
        red = reduced_balance (product c s) (pos n) ds r (some_cells n m g) ri (whole_is (pos n *ℤ pos 12) _ _ (ap (λ v. difference v r) (gap_sum-units (product c s) (pos n) ds)) rw)

        abbrev place : Triple → Point
        place z = origin_at (point r (pos n *ℤ pos 12)) (pos (length ds)) z

        is_place : (z : Triple) → IsPoint (place z)
        is_place z = record { positive = mul_pos _ _ some (mul_pos _ _ (some_cells n m g) (lit_pos 11)) }

        whole_carries : (z : Triple) → AllWhole (product c s) (pos n) r (pos (length ds)) cs z → Carries (product c s) (place z) h (pos n) m
        whole_carries z w = fits_carries (place z) (is_place z) (λ k hk. (fits_at (product c s) (pos n) r (pos (length ds)) z k (some_cells n m g) some).1 (w k hk))

        carries_whole : (z : Triple) → Carries (product c s) (place z) h (pos n) m → AllWhole (product c s) (pos n) r (pos (length ds)) cs z
        carries_whole z ca k hk = (fits_at (product c s) (pos n) r (pos (length ds)) z k (some_cells n m g) some).0 (carries_fits (place z) (is_place z) ca k hk)

        -- the first place with a whole excess is the least balanced origin
        pub found_origin : (z : Triple) → IsPlace (pos (length ds)) z → AllWhole (product c s) (pos n) r (pos (length ds)) cs z → ((y : Triple) → IsPlace (pos (length ds)) y → IsBefore (coordinates y) (coordinates z) → AllWhole (product c s) (pos n) r (pos (length ds)) cs y → ⊥) → IsLeastOrigin s h (pos n) m c (origin_at (point r (pos n *ℤ pos 12)) (pos (length ds)) z)
        found_origin z iz w earlier =
            least_origin_is s h (pos n) m ds c (point r (pos n *ℤ pos 12)) z (some_cells n m g) some pairs red iz (whole_carries z w) (λ y iy b ca. earlier y iy b (carries_whole y ca))

        -- where there is none, no point at all carries
        pub no_origin : ((z : Triple) → IsPlace (pos (length ds)) z → AllWhole (product c s) (pos n) r (pos (length ds)) cs z → ⊥) → (p : Point) → IsPoint p → Carries (product c s) p h (pos n) m → ⊥
        no_origin none p ip ca =
            none_at (product c s) h (pos n) m ds (point r (pos n *ℤ pos 12)) (turn_nonzero c ic) (some_cells n m g) some (group_of n m g) (primitive_of n m pr) pairs red (λ z iz k. none z iz (carries_whole z k)) p ip ca

-- ---- no image, no map

-- a map that carries gives each operation of the symbol a member with the matrix P C adj(P) and its sign
pub image_there : (c s k : Matrix) (p : Point) (h : List Operation) (n : ℤ) (m : List Operation) → (determinant (product c s) ≡ pos 0 → ⊥) → IsClass c → Carries (product c s) p h n m → (o : Operation) → IsMember o h → product k s ≡ product s o.matrix → (f : Operation) × (IsMember f m × ((f.matrix ≡ product (product c k) (adjugate c)) × (f.sign ≡ o.sign)))
image_there c s k p h n m nz ic ca o ho e =
    let f = ca.into o ho in
    (f.0, (f.1.0, (cancel_right (product c s) f.0.matrix (product (product c k) (adjugate c)) nz (f.1.1.matrix ∙ sym (conjugated c k s o.matrix ic.proper e)), f.1.1.sign)))

-- and a matrix C with C S = S W
pub inner_there : (c s : Matrix) (p : Point) (h : List Operation) (n : ℤ) (m : List Operation) → IsClass c → Carries (product c s) p h n m → (o : Operation) → IsMember o h → (f : Operation) × (IsMember f m × (product (product (adjugate c) (product f.matrix c)) s ≡ product s o.matrix))
inner_there c s p h n m ic ca o ho =
    let f = ca.into o ho in
    (f.0, (f.1.0, inner c f.0.matrix s o.matrix ic.proper f.1.1.matrix))
