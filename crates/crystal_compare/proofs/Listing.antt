-- The list of the maps in whole steps, with their translation parts as fractions, is the list of all maps.
use Rattle.std.proofs.Common.{◌≡◌, ℕ, List, map, ◌^◌, Result, Ok, Err, IfOk, sym, ap, subst, ◌∙◌, arith, ℤ, pos, ◌≤ℤ◌, ◌<ℤ◌}
use Rattle.std.specs.Prelude.{◌↔◌}
use Rattle.std.proofs.lemmas.Int.{ints}
use Rattle.std.specs.Ordering.{ordering_then, int_cmp}
use Rattle.std.specs.Cmp.Lexicographic.{slice_cmp}
use Rattle.ring.specs.Size.{AtMost}
use Rattle.numbers.specs.Fraction.{Fraction, lowest, quotient}
use Rattle.numbers.proofs.FractionLemmas.{quotient-positive}
use Rattle.lists.specs.Increasing.{IsIncreasing, IsMember}
use Rattle.lists.proofs.Orders.{then_assoc}
use Rattle.lists.proofs.Increasing.{increasing_distinct, IsIncreasing-mapped}
use Rattle.lists.proofs.Members.{mapped_member, mapped_from}
use Rattle.exact_num.specs.Small.{IsSmall}
use Rattle.exact_num.proofs.FracLemmas.{part-size}
use Rattle.matrix3.specs.declared.vector.Vec3.{Vec3}
use Rattle.matrix3.specs.Matrices.{entries}
use Rattle.crystal_spec.specs.declared.Sign.{Sign}
use Rattle.crystal_spec.specs.Matrices.{Matrix}
use Rattle.crystal_spec.specs.Crystals.{Structure}
use Rattle.crystal_spec.specs.Operations.{Operation, compare_of, sign_rank}
use Rattle.lattice_spec.specs.Niggli.{IsNiggli}
use Rattle.crystal.specs.Cells.{IsCellWithinLimits}
use Rattle.ring.proofs.IntOrder.{mul_pos}
use Rattle.prim_cell.proofs.Moving.{some_cells}
use Rattle.crystal_compare.specs.Maps.{AffineMap, Takes}
use Rattle.crystal_compare.specs.AnyMaps.{TakesAny, IsListedIn}
use Rattle.crystal_compare.specs.Lists.{map_order, ListsMaps}
use Rattle.crystal_compare.specs.Search.{steps, shifted, IsMap, IsSmallMap}
use Rattle.crystal_compare.proofs.Order.{compare_parts}
use Rattle.crystal_compare.proofs.Shifts.{fraction_order-lowest}
use Rattle.crystal_compare.proofs.Carried.{ArePrimitive, takes_of_map, map_of_takes, isometry_small}
use Rattle.crystal_compare.proofs.AnyCarried.{map_of_any}
use Rattle.crystal_compare.specs.Groups.{HaveGroupsAlike}
use Rattle.crystal_compare.proofs.SendingMaps.{sent_by_map}
use Rattle.crystal_compare.proofs.GroupsAlike.{as_many_as_first, as_many_as_second, groups_alike}
use Rattle.std.proofs.lemmas.List.{length-map}
use Rattle.crystal_spec.proofs.Ordered.{compare_total}

-- ---- the order
shifted_order : (n : ℕ) (a b : Operation) → pos 0 <ℤ pos n → map_order (shifted n a) (shifted n b) ≡ compare_of a b
unfolding map_order shifted
shifted_order n a b h =
    let rank = int_cmp (sign_rank a.sign) (sign_rank b.sign) in
    let x = fraction_order-lowest a.translation.x b.translation.x (pos n) h in
    let y = fraction_order-lowest a.translation.y b.translation.y (pos n) h in
    let z = fraction_order-lowest a.translation.z b.translation.z (pos n) h in
    ap (ordering_then (slice_cmp int_cmp (entries a.matrix) (entries b.matrix)))
    ((λ i. ordering_then (x i) (ordering_then (y i) (ordering_then (z i) rank)))
    ∙ ap (ordering_then (int_cmp a.translation.x b.translation.x)) (sym (then_assoc (int_cmp a.translation.y b.translation.y) (int_cmp a.translation.z b.translation.z) rank))
    ∙ sym (then_assoc (int_cmp a.translation.x b.translation.x) (ordering_then (int_cmp a.translation.y b.translation.y) (int_cmp a.translation.z b.translation.z)) rank))
    ∙ sym (compare_parts a b)

-- the steps of two cells are in the order of their fractions
pub increasing_in_cells : (c c' : Structure) (os : List Operation) → IsCellWithinLimits c → IsCellWithinLimits c' → IsIncreasing compare_of os → IsIncreasing map_order (map (shifted (steps c c')) os)
increasing_in_cells c c' os cell cell' k = IsIncreasing-mapped compare_of map_order (shifted (steps c c')) (λ a b. shifted_order (steps c c') a b (mul_pos (pos c.n) (pos c'.n) (some_cells c cell) (some_cells c' cell'))) os k

-- ---- members
module _ (c c' : Structure) (p : ArePrimitive c c') (niggli : IsNiggli c.metric) (niggli' : IsNiggli c'.metric) (os : List Operation) (found : (o : Operation) → IsMember o os ↔ IsSmallMap c c' o) where
  listed : (o : Operation) → IsMap c c' o → IsMember (shifted (steps c c') o) (map (shifted (steps c c')) os)
  listed o h = mapped_member (shifted (steps c c')) o os ((found o).1 (record { small = isometry_small c c' o.matrix p.cell p.cell' niggli niggli' h.isometry; is_map = h }))

  pub lists_maps : IsIncreasing compare_of os → ListsMaps c c' (map (shifted (steps c c')) os)
  lists_maps increasing = record { increasing = increasing_in_cells c c' os p.cell p.cell' increasing; exact = λ a. (forth a, back a) }
    where
      forth : (a : AffineMap) → IsMember a (map (shifted (steps c c')) os) → Takes c c' a
      forth a m = let k = mapped_from (shifted (steps c c')) a os m in subst (Takes c c') (sym k.is) (takes_of_map c c' p k.item ((found k.item).0 k.of_list).is_map)

      back : (a : AffineMap) → Takes c c' a → IsMember a (map (shifted (steps c c')) os)
      back a h = let k = map_of_takes c c' p a h in subst (λ (b : AffineMap). IsMember b (map (shifted (steps c c')) os)) (sym k.is) (listed k.operation k.is_map)

  pub misses_nothing : (b : Matrix) (f : Vec3 Fraction) (d : ℕ) (sign : Sign) → TakesAny c c' b f d sign → IsListedIn (map (shifted (steps c c')) os) b f d sign
  misses_nothing b f d sign h =
      let k = map_of_any c c' p b f d sign h in
      record { matrix = k.operation.matrix; matrix_is = k.matrix_is; of_list = subst (λ (a : AffineMap). IsMember a (map (shifted (steps c c')) os)) (sym k.is) (listed k.operation k.is_map) }

  -- where there is a map, it tells of both groups
  pub maps_alike : IsIncreasing compare_of os → (a : AffineMap) → IsMember a (map (shifted (steps c c')) os) → HaveGroupsAlike c c' (map (shifted (steps c c')) os)
  maps_alike increasing a m =
      let k = mapped_from (shifted (steps c c')) a os m in
      let o = k.item in
      let is_map = ((found o).0 k.of_list).is_map in
      let exact : (h : Operation) → IsMember h os ↔ IsMap c c' h = λ h. ((λ l. ((found h).0 l).is_map), (λ i. (found h).1 (record { small = isometry_small c c' h.matrix p.cell p.cell' niggli niggli' i.isometry; is_map = i }))) in
      let once = increasing_distinct compare_of compare_total os increasing in
      let sends = sent_by_map c c' o is_map in
      record {
        as_many_as_first = λ gs all. length-map os (shifted (steps c c')) ∙ as_many_as_first c c' p.cell p.cell' o.matrix o.translation o.sign sends os exact once gs all;
        as_many_as_second = λ gs all. length-map os (shifted (steps c c')) ∙ as_many_as_second c c' p.cell p.cell' o.matrix o.translation o.sign sends os exact once gs all;
        alike = λ gs gs' all all'. groups_alike c c' p.cell p.cell' p.primitive p.primitive' o is_map gs gs' all all';
      }

-- ---- fractions of few steps are ones of the program
lowest_small : (t n : ℤ) → AtMost (10 ^ 24) t → AtMost (10 ^ 12) n → IsSmall (lowest t n)
unfolding lowest
lowest_small t n h k = record { upper = part-size t _ h; lower = part-size n _ k }

pub fraction_small : (t n a b : ℤ) → a ≡ t → b ≡ n → pos 0 ≤ℤ t → t <ℤ n → n ≤ℤ pos (10 ^ 12) → (b ≡ pos 0 → ⊥) × IsSmall (quotient a b)
fraction_small t n a b e f low high most =
    let above : pos 0 <ℤ n = omega (arith, ints, low, high) in
    let t_small : AtMost (10 ^ 24) t = record { size = omega (arith, ints, low, high, most) } in
    let n_small : AtMost (10 ^ 12) n = record { size = omega (arith, ints, above, most) } in
    ((λ z. omega (arith, ints, f, z, above)), subst IsSmall (sym ((λ i. quotient (e i) (f i)) ∙ quotient-positive t n above)) (lowest_small t n t_small n_small))

pub fraction_is : (t n a b : ℤ) → a ≡ t → b ≡ n → pos 0 ≤ℤ t → t <ℤ n → quotient a b ≡ lowest t n
fraction_is t n a b e f low high = (λ i. quotient (e i) (f i)) ∙ quotient-positive t n (omega (arith, ints, low, high))

-- what follows of each value holds of the value of an `Ok`
pub if_ok_more : {X E : Type 0} {P Q : X → Type 0} (r : Result X E) → ((x : X) → P x → Q x) → IfOk r P → IfOk r Q
if_ok_more (Ok x) more h = more x h
if_ok_more (Err e) more h = tt
