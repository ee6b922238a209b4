-- One product for each matrix of a product.
--   product_fits_of, next_of    what an operation of gens after one of the list is
--   passed, pushed, too_many    the product is added, where its matrix is new
--   grown_start, grown_next     the operations of gens so far
--   closed_next, closed_all     the operations of the list so far
--   not_too_many                then there are not too many matrices
use Rattle.std.proofs.Common.{◌≡◌, ◌⊎◌, inl, inr, ℕ, suc, ◌<◌, ◌≤◌, ◌+◌, ◌*◌, ◌^◌, List, [], ◌∷◌, ◌++◌, length, get_or, take, refl, sym, ◌∙◌, ap, subst, subst₂, arith, add-one, take_all}
use Rattle.std.proofs.Math.Nat.{pow-suc, pow-le-pow_right}
use Rattle.ring.specs.Ring.{int_ops}
use Rattle.ring.specs.Size.{AtMost}
use Rattle.lists.specs.Increasing.{IsMember, IsDistinct}
use Rattle.lists.proofs.Counting.{length_le}
use Rattle.lists.proofs.Members.{mapped_from, mapped_member, member_front, member_last, pushed_member}
use Rattle.lists.proofs.Distinct.{IsDistinct-pushed}
use Rattle.matrix3.specs.Matrices.{EachEntry}
use Rattle.matrix3.specs.Fits.{ProductFits}
use Rattle.matrix3.proofs.FitsBySize.{product_size, product_fits}
use Rattle.crystal_spec.specs.Matrices.{Matrix, product}
use Rattle.crystal_spec.specs.Operations.{Operation}
use Rattle.op_group.specs.Composition.{identity_operation, IsComposed}
use Rattle.hall_symbol.specs.Compositions.{then}
use Rattle.hall_text.specs.Products.{product_of, AreAmong, IsProduct, AreProducts, matrices_of, TooMany}
use Rattle.hall_symbol.specs.Views.{AreSmall}
use Rattle.hall_text.specs.Splits.{AreRotations, Starts, HasMatrix, ArePartial, IsNext, IsAdded, Meets, HasGrown, StandForMatrices}
use Rattle.hall_symbol.proofs.Compositions.{then_composed, composed_then, then_assoc, identity_then}
use Rattle.hall_text.proofs.ProductLemmas.{product_of_within, product_then, identity_product, generator_product}
use Rattle.hall_symbol.proofs.RotationMatrices.{identity_small}
use Rattle.hall_text.proofs.Splitting.{one-product}
use Rattle.hall_text.proofs.Listed.{starts_refl, starts_push, starts_member, taken_next}
use Rattle.std.proofs.lemmas.List.{map_push, length_push, length-map}

-- ---- sizes

pub raised : {m n : ℕ} (w : Matrix) → m ≤ n → EachEntry (AtMost m) w → EachEntry (AtMost n) w
raised {m} {n} w h k = record { a11 = up k.a11; a12 = up k.a12; a13 = up k.a13; a21 = up k.a21; a22 = up k.a22; a23 = up k.a23; a31 = up k.a31; a32 = up k.a32; a33 = up k.a33 }
  where
    up : {z : _} → AtMost m z → AtMost n z
    up a = record { size = omega (arith, h, a.size) }

pub powers_up : (i j : ℕ) → i ≤ j → 3 ^ i ≤ 3 ^ j
powers_up i j h = pow-le-pow_right (omega arith) h

pub product_fits_of : (gens os : List Operation) (x r : Operation) → AreSmall gens → ArePartial gens os → IsMember x gens → IsMember r os → ProductFits int_ops (AtMost (10 ^ 36)) x.matrix r.matrix
product_fits_of gens os x r small p m k =
    product_fits x.matrix r.matrix (small.each x m) (raised r.matrix (powers_up (length os) 48 p.few) (p.sized r k)) tt

three_times : (n : ℕ) → 1 * 3 ^ n + 1 * 3 ^ n + 1 * 3 ^ n ≡ 3 ^ suc n
three_times n = omega (arith, pow-suc 3 n)

pub next_of : (gens os : List Operation) (x r o : Operation) → AreRotations gens → ArePartial gens os → IsMember x gens → IsMember r os → IsComposed 12 r x o → IsNext gens os o
next_of gens os x r o g p m k h = record {
  product = subst (IsProduct gens) (sym (composed_then r x o h)) (product_then gens r x (p.products.each r k) (generator_product gens x m (g.within x m)));
  sized = subst₂ (λ (n : ℕ) (w : Matrix). EachEntry (AtMost n) w) (three_times (length os)) (sym h.matrix) (product_size x.matrix r.matrix (g.small.each x m) (p.sized r k));
}

-- ---- one product

pub passed : (gens os : List Operation) (o s : Operation) → ArePartial gens os → IsMember s os → o.matrix ≡ s.matrix → IsAdded gens os os o
passed gens os o s p m e = record { partial = p; starts = starts_refl os; found = record { op = s; member = m; matrix = e } }

no_matrix : (os : List Operation) (w : Matrix) → ((s : Operation) → IsMember s os → w ≡ s.matrix → ⊥) → IsMember w (matrices_of os) → ⊥
no_matrix os w none m = let r = mapped_from (λ (o : Operation). o.matrix) w os m in none r.item r.of_list r.is

products_push : (gens os : List Operation) (o : Operation) → AreProducts gens os → IsProduct gens o → AreProducts gens (os ++ (o ∷ []))
products_push gens os o p k = record { each = λ q m. by q (pushed_member os o q m) }
  where
    by : (q : Operation) → (q ≡ o) ⊎ IsMember q os → IsProduct gens q
    by q (inr m) = p.each q m
    by q (inl e) = subst (IsProduct gens) (sym e) k

distinct_more : (os : List Operation) (o : Operation) → IsDistinct (matrices_of os) → ((s : Operation) → IsMember s os → o.matrix ≡ s.matrix → ⊥) → IsDistinct (matrices_of (os ++ (o ∷ [])))
distinct_more os o d none = subst IsDistinct (sym (map_push (λ (q : Operation). q.matrix) os o)) (IsDistinct-pushed (matrices_of os) o.matrix d (no_matrix os o.matrix none))

pub pushed : (gens os : List Operation) (o : Operation) → length os < 48 → ArePartial gens os → IsNext gens os o → ((s : Operation) → IsMember s os → o.matrix ≡ s.matrix → ⊥) → IsAdded gens os (os ++ (o ∷ [])) o
pushed gens os o l p n none =
    let longer = length_push os o in
    record {
      partial = record {
        products = products_push gens os o p.products n.product;
        distinct = distinct_more os o p.distinct none;
        few = omega (arith, l, longer);
        one = member_front os o identity_operation p.one;
        sized = λ q m. subst (λ (k : ℕ). EachEntry (AtMost (3 ^ k)) q.matrix) (sym (longer ∙ add-one (length os))) (by q (pushed_member os o q m));
      };
      starts = starts_push os os o (starts_refl os);
      found = record { op = o; member = member_last os o; matrix = refl };
    }
  where
    by : (q : Operation) → (q ≡ o) ⊎ IsMember q os → EachEntry (AtMost (3 ^ suc (length os))) q.matrix
    by q (inr m) = raised q.matrix (powers_up (length os) (suc (length os)) (omega arith)) (p.sized q m)
    by q (inl e) = subst (λ (k : Operation). EachEntry (AtMost (3 ^ suc (length os))) k.matrix) (sym e) n.sized

pub too_many : (gens os : List Operation) (o : Operation) → length os ≡ 48 → ArePartial gens os → IsNext gens os o → ((s : Operation) → IsMember s os → o.matrix ≡ s.matrix → ⊥) → TooMany gens
too_many gens os o l p n none = record {
  products = os ++ (o ∷ []);
  are = products_push gens os o p.products n.product;
  distinct = distinct_more os o p.distinct none;
  count = length_push os o ∙ omega (arith, l);
}

-- ---- the operations of gens

pub has_more : (os new : List Operation) (w : Matrix) → Starts os new → HasMatrix os w → HasMatrix new w
has_more os new w s h = record { op = h.op; member = starts_member os new s h.op h.member; matrix = h.matrix }

-- one more of gens
pub meets_next : (seen old new : List Operation) (r x : Operation) → Starts old new → Meets old r seen → HasMatrix new (then r x).matrix → (y : Operation) → (y ≡ x) ⊎ IsMember y seen → HasMatrix new (then r y).matrix
meets_next seen old new r x s m h y (inr k) = has_more old new (then r y).matrix s (m y k)
meets_next seen old new r x s m h y (inl e) = subst (λ (z : Operation). HasMatrix new (then r z).matrix) (sym e) h

-- ---- the operations of the list

pub partial_start : (gens : List Operation) → ArePartial gens (identity_operation ∷ [])
partial_start gens = record {
  products = record { each = λ o m. only o m };
  distinct = ((λ k. k), tt);
  few = omega arith;
  one = inl refl;
  sized = λ o m. sized o m;
}
  where
    only : (o : Operation) → IsMember o (identity_operation ∷ []) → IsProduct gens o
    only o (inl e) = subst (IsProduct gens) (sym e) (identity_product gens)
    only o (inr k) = absurd k

    sized : (o : Operation) → IsMember o (identity_operation ∷ []) → EachEntry (AtMost (3 ^ 1)) o.matrix
    sized o (inl e) = subst (λ (p : Operation). EachEntry (AtMost (3 ^ 1)) p.matrix) (sym e) (raised identity_operation.matrix (omega arith) identity_small)
    sized o (inr k) = absurd k

pub closed_next : (gens old new : List Operation) (i : ℕ) (r : Operation) → i < length old → r ≡ get_or old i r → HasGrown gens r old new → ((o : Operation) → IsMember o (take i old) → Meets old o gens) → (o : Operation) → IsMember o (take (i + 1) new) → Meets new o gens
closed_next gens old new i r l e g c o m = by (taken_next old new i r o g.starts l e m)
  where
    by : (o ≡ r) ⊎ IsMember o (take i old) → Meets new o gens
    by (inr k) = λ x h. has_more old new (then o x).matrix g.starts (c o k x h)
    by (inl q) = subst (λ (p : Operation). Meets new p gens) (sym q) g.meets

pub stand_for : (gens os : List Operation) (i : ℕ) → length os ≤ i → ArePartial gens os → ((o : Operation) → IsMember o (take i os) → Meets os o gens) → StandForMatrices gens os
stand_for gens os i l p c = record {
  partial = p;
  closed = λ r m. c r (subst (λ (w : List Operation). IsMember r w) (sym (take_all i os l)) m);
}

-- ---- not too many

module _ (gens os : List Operation) (c : StandForMatrices gens os) where
  reached_next : (o x : Operation) → IsMember x gens → HasMatrix os o.matrix → HasMatrix os (then o x).matrix
  reached_next o x m h =
      subst (HasMatrix os) (sym ((then_composed o x).matrix ∙ ap (product x.matrix) h.matrix ∙ sym (then_composed h.op x).matrix)) (c.closed h.op h.member x m)

  reached : (fs : List Operation) → AreAmong gens fs → (o : Operation) → HasMatrix os o.matrix → HasMatrix os (then o (product_of fs)).matrix
  reached [] k o h = subst (HasMatrix os) (sym (one o)) h
    where
      one : (o : Operation) → (then o identity_operation).matrix ≡ o.matrix
      one o = (then_composed o identity_operation).matrix ∙ one-product o.matrix
  reached (x ∷ fs) k o h = subst (λ (p : Operation). HasMatrix os p.matrix) (sym (then_assoc o x (product_of fs))) (reached fs k.1 (then o x) (reached_next o x k.0 h))

  pub product_reached : (o : Operation) → IsProduct gens o → HasMatrix os o.matrix
  product_reached o k =
      subst (λ (p : Operation). HasMatrix os p.matrix) (identity_then (product_of k.factors) (product_of_within k.factors) ∙ sym k.is)
      (reached k.factors k.among identity_operation (record { op = identity_operation; member = c.partial.one; matrix = refl }))

  pub not_too_many : TooMany gens → ⊥
  not_too_many t =
      let le : length (matrices_of t.products) ≤ length (matrices_of os) = length_le (matrices_of t.products) (matrices_of os) t.distinct there in
      absurd (omega (arith, le, length-map t.products (λ (o : Operation). o.matrix), length-map os (λ (o : Operation). o.matrix), t.count, c.partial.few))
    where
      there : (w : Matrix) → IsMember w (matrices_of t.products) → IsMember w (matrices_of os)
      there w m =
          let r = mapped_from (λ (o : Operation). o.matrix) w t.products m in
          let h = product_reached r.item (t.are.each r.item r.of_list) in
          subst (λ (v : Matrix). IsMember v (matrices_of os)) (sym (r.is ∙ h.matrix)) (mapped_member (λ (o : Operation). o.matrix) h.op os h.member)
