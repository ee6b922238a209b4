-- The table of all (I, t, s) of a group, as it grows.
--   more_put, more_both              a table that has grown
--   sums_kept, carried_kept          what it had it still has
--   sums_next, carried_next          one more step, one more of gens
--   made_put                         one more product
--   found_closed                     a table of which all operations have their sums and are carried
--   step_next                        one more difference
use Rattle.std.proofs.Common.{◌≡◌, ◌⊎◌, inl, inr, ℕ, ◌<◌, ◌≤◌, ◌+◌, List, [], ◌∷◌, ◌++◌, length, get_or, take, refl, sym, ◌∙◌, ap, subst, arith, take_all}
use Rattle.std.specs.Prelude.{pos}
use Rattle.ring.specs.Ring.{quoted}
use Rattle.lists.specs.Increasing.{IsMember}
use Rattle.lists.proofs.Members.{member_last, pushed_member}
use Rattle.matrix3.specs.Matrices.{coordinates, vector_of_variables}
use Rattle.matrix3.specs.Matrices as formulas
use Rattle.crystal_spec.specs.declared.Sign.{Sign}
use Rattle.crystal_spec.specs.declared.Sign.TheVariants.{Same}
use Rattle.crystal_spec.specs.Matrices.{Triple, difference, sum_of, multiple}
use Rattle.crystal_spec.proofs.Identities.{by_triples}
use Rattle.crystal_spec.specs.Operations.{Operation, IsWithinCell}
use Rattle.positions.specs.Positions.{origin}
use Rattle.op_group.specs.Composition.{IsComposed}
use Rattle.hall_symbol.specs.Compositions.{both, reduced, then}
use Rattle.hall_text.specs.Products.{IsProduct, AreProducts}
use Rattle.hall_text.specs.Splits.{pure, AreRotations, Starts, StandForMatrices, Step, IsSplit}
use Rattle.hall_text.specs.PureTables.{Has, PureTable, IsPureTable, IsEmptyTable, IsPut, AreMade, IsMore, sum_with, carried_by, HasSums, HasCarried, IsClosed, IsStep, HaveSteps, HasDifferences}
use Rattle.hall_symbol.proofs.Compositions.{reduced_same, reduces_12, composed_then}
use Rattle.hall_text.proofs.ProductLemmas.{product_then, generator_product}
use Rattle.hall_text.proofs.Splitting.{difference_product}
use Rattle.hall_text.proofs.Listed.{starts_refl, starts_push, starts_both, starts_member, starts_longer, taken_next}

-- ---- growth

pub more_refl : (t : PureTable) → IsMore t t
more_refl t = record { keeps = λ v s h. h; starts = starts_refl t.found }

pub more_put : (t u : PureTable) (o : Operation) → IsPut t u o → IsMore t u
more_put t u o p = record { keeps = p.keeps; starts = p.starts }

pub more_both : (t u v : PureTable) → IsMore t u → IsMore u v → IsMore t v
more_both t u v a b = record { keeps = λ w s h. b.keeps w s (a.keeps w s h); starts = starts_both t.found u.found v.found a.starts b.starts }

pub sums_kept : (t u : PureTable) (o : Operation) (ds : List Operation) → IsMore t u → HasSums t o ds → HasSums u o ds
sums_kept t u o ds m h d k = m.keeps (sum_with o d).translation (sum_with o d).sign (h d k)

pub carried_kept : (t u : PureTable) (o : Operation) (xs : List Operation) → IsMore t u → HasCarried t o xs → HasCarried u o xs
carried_kept t u o xs m h x k = m.keeps (carried_by o x).translation (carried_by o x).sign (h x k)

-- one more of the steps
pub sums_next : (t u : PureTable) (o d p : Operation) (seen : List Operation) → p ≡ sum_with o d → IsPut t u p → HasSums t o seen → (e : Operation) → (e ≡ d) ⊎ IsMember e seen → Has u.flags (sum_with o e).translation (sum_with o e).sign
sums_next t u o d p seen q put h e (inr k) = put.keeps (sum_with o e).translation (sum_with o e).sign (h e k)
sums_next t u o d p seen q put h e (inl f) = subst (λ (r : Operation). Has u.flags r.translation r.sign) (q ∙ ap (sum_with o) (sym f)) put.flagged

-- one more of gens
pub carried_next : (t u : PureTable) (o x p : Operation) (seen : List Operation) → p ≡ carried_by o x → IsPut t u p → HasCarried t o seen → (y : Operation) → (y ≡ x) ⊎ IsMember y seen → Has u.flags (carried_by o y).translation (carried_by o y).sign
carried_next t u o x p seen q put h y (inr k) = put.keeps (carried_by o y).translation (carried_by o y).sign (h y k)
carried_next t u o x p seen q put h y (inl f) = subst (λ (r : Operation). Has u.flags r.translation r.sign) (q ∙ ap (carried_by o) (sym f)) put.flagged

-- ---- products

pub made_put : (gens : List Operation) (t u : PureTable) (o : Operation) → IsPut t u o → IsProduct gens o → AreMade gens t → AreMade gens u
made_put gens t u o p k m = record { each = λ v s w h. by v s w (p.only v s w h) }
  where
    by : (v : Triple) (s : Sign) → IsWithinCell 12 v → Has t.flags v s ⊎ (pure v s ≡ o) → IsProduct gens (pure v s)
    by v s w (inl h) = m.each v s w h
    by v s w (inr e) = subst (IsProduct gens) (sym e) k

pub made_empty : (gens : List Operation) (t : PureTable) → IsEmptyTable t → AreMade gens t
made_empty gens t e = record { each = λ v s w h. absurd (e.none v s h) }

-- ---- all operations of a table

pub found_closed : (steps gens : List Operation) (t : PureTable) (i : ℕ) → IsPureTable t → length t.found ≤ i → Has t.flags origin Same → ((o : Operation) → IsMember o (take i t.found) → HasSums t o steps) → ((o : Operation) → IsMember o (take i t.found) → HasCarried t o gens) → IsClosed steps gens t
found_closed steps gens t i p l z a b = record {
  zero = z;
  sums = λ v s w h. a (pure v s) (all (pure v s) (p.listed v s w h));
  carried = λ v s w h. b (pure v s) (all (pure v s) (p.listed v s w h));
}
  where
    all : (o : Operation) → IsMember o t.found → IsMember o (take i t.found)
    all o m = subst (λ (w : List Operation). IsMember o w) (sym (take_all i t.found l)) m

-- an operation of a table
pub listed_pure : (gens : List Operation) (t : PureTable) (o : Operation) → IsPureTable t → AreMade gens t → IsMember o t.found → IsProduct gens o
listed_pure gens t o p m k =
    let a = p.flagged o k in
    subst (IsProduct gens) (sym a.is_pure) (m.each o.translation o.sign a.within a.flagged)

-- ---- differences

pub step_kept : (os ds es : List Operation) (o : Operation) → Starts ds es → IsStep os ds o → IsStep os es o
step_kept os ds es o s h = record { rep = h.rep; member = h.member; matrix = h.matrix; step = starts_member ds es s _ h.step }

-- one more difference
pub differences_next : (os gens seen old new : List Operation) (r x o s d : Operation) → AreRotations gens → StandForMatrices gens os → IsMember r os → IsMember x gens → IsComposed 12 r x o → IsMember s os → o.matrix ≡ s.matrix → d ≡ pure (reduced (difference o.translation s.translation)) (both o.sign s.sign) →
    HasDifferences os gens r seen old new → (ys : List Operation) → ((y : Operation) → IsMember y ys → (y ≡ x) ⊎ IsMember y seen) → HasDifferences os gens r ys old (new ++ (d ∷ []))
differences_next os gens seen old new r x o s d g c m k h n e q f ys cases = record {
  starts = starts_push old new d f.starts;
  made = λ a. record { each = λ p j. made a p (pushed_member new d p j) };
  each = λ y j. by y (cases y j);
}
  where
    made : AreProducts gens old → (p : Operation) → (p ≡ d) ⊎ IsMember p new → IsProduct gens p
    made a p (inr j) = (f.made a).each p j
    made a p (inl t) = subst (IsProduct gens) (sym (t ∙ q)) (difference_product gens g.inverses o s (subst (IsProduct gens) (sym (composed_then r x o h)) (product_then gens r x (c.partial.products.each r m) (generator_product gens x k (g.within x k)))) (c.partial.products.each s n) e)

    by : (y : Operation) → (y ≡ x) ⊎ IsMember y seen → IsStep os (new ++ (d ∷ [])) (then r y)
    by y (inr j) = step_kept os new (new ++ (d ∷ [])) (then r y) (starts_push new new d (starts_refl new)) (f.each y j)
    by y (inl t) =
        let same : o ≡ then r y = composed_then r x o h ∙ ap (then r) (sym t) in
        subst (IsStep os (new ++ (d ∷ []))) same (record { rep = s; member = n; matrix = e; step = subst (λ (p : Operation). IsMember p (new ++ (d ∷ []))) q (member_last new d) })

-- the operation of the matrix is there
pub some_matrix : (os gens : List Operation) (r x o : Operation) → StandForMatrices gens os → IsMember r os → IsMember x gens → IsComposed 12 r x o → ((s : Operation) → IsMember s os → o.matrix ≡ s.matrix → ⊥) → ⊥
some_matrix os gens r x o c m k h none =
    let a = c.closed r m x k in
    none a.op a.member (ap (λ (p : Operation). p.matrix) (composed_then r x o h) ∙ a.matrix)

pub differences_start : (os gens : List Operation) (r : Operation) (old : List Operation) → HasDifferences os gens r [] old old
differences_start os gens r old = record { starts = starts_refl old; made = λ a. a; each = λ x m. absurd m }

-- one more of the operations
pub steps_next : (os gens seen old new : List Operation) (r : Operation) → HaveSteps os old seen gens → HasDifferences os gens r gens old new → (qs : List Operation) → ((q : Operation) → IsMember q qs → (q ≡ r) ⊎ IsMember q seen) → HaveSteps os new qs gens
steps_next os gens seen old new r h d qs cases = record {
  made = d.made h.made;
  each = λ q x m k. by q x k (cases q m);
}
  where
    by : (q x : Operation) → IsMember x gens → (q ≡ r) ⊎ IsMember q seen → IsStep os new (then q x)
    by q x k (inr m) = step_kept os old new (then q x) d.starts (h.each q x m k)
    by q x k (inl e) = subst (λ (p : Operation). IsStep os new (then p x)) (sym e) (d.each x k)

pub steps_start : (os gens : List Operation) → HaveSteps os [] [] gens
steps_start os gens = record { made = record { each = λ o m. absurd m }; each = λ r x m k. absurd m }

-- ---- the group

-- t and the reduced difference, and t and the difference, reduce to one
pub sum_reduced : (t d : Triple) → reduced (sum_of t (reduced d)) ≡ reduced (sum_of t d)
sum_reduced t d =
    let r = reduces_12 d in
    sym (reduced_same (sum_of t d) (sum_of t (reduced d)) r.cells (ap (sum_of t) r.same ∙ sum_associates t (reduced d) (multiple (pos 12) r.cells)))
  where
    sum_associates : (u v w : Triple) → sum_of u (sum_of v w) ≡ sum_of (sum_of u v) w
    sum_associates u v w = by_triples (coordinates u ++ coordinates v ++ coordinates w) (formulas.sum_of quoted (vector_of_variables 0) (formulas.sum_of quoted (vector_of_variables 3) (vector_of_variables 6))) (formulas.sum_of quoted (formulas.sum_of quoted (vector_of_variables 0) (vector_of_variables 3)) (vector_of_variables 6)) refl

pub table_splits : (gens os steps : List Operation) (t : PureTable) → StandForMatrices gens os → HaveSteps os steps os gens → IsClosed steps gens t → AreMade gens t → IsSplit gens os (λ v s. Has t.flags v s)
table_splits gens os steps t c h k m = record {
  rs_made = c.partial.products;
  pure_made = m.each;
  one = c.partial.one;
  zero = k.zero;
  step = step;
  turns = λ x j v s w f. k.carried v s w f x j;
}
  where
    step : (r x : Operation) → IsMember r os → IsMember x gens → Step os (λ v s. Has t.flags v s) (then r x)
    step r x j l =
        let a = h.each r x j l in
        record {
          rep = a.rep;
          member = a.member;
          matrix = a.matrix;
          adds = λ v s w f. subst (λ (u : Triple). Has t.flags u (both s (both (then r x).sign a.rep.sign))) (sum_reduced v (difference (then r x).translation a.rep.translation)) (k.sums v s w f (pure (reduced (difference (then r x).translation a.rep.translation)) (both (then r x).sign a.rep.sign)) a.step);
        }

-- one more operation of the table
pub sums_all : (steps : List Operation) (t u v : PureTable) (i : ℕ) (p : Operation) → IsMore t u → IsMore u v → i < length t.found → p ≡ get_or t.found i p → HasSums u p steps → ((o : Operation) → IsMember o (take i t.found) → HasSums t o steps) → (o : Operation) → IsMember o (take (i + 1) v.found) → HasSums v o steps
sums_all steps t u v i p a b l e h before o m = by (taken_next t.found v.found i p o (more_both t u v a b).starts l e m)
  where
    by : (o ≡ p) ⊎ IsMember o (take i t.found) → HasSums v o steps
    by (inr k) = sums_kept t v o steps (more_both t u v a b) (before o k)
    by (inl q) = subst (λ (w : Operation). HasSums v w steps) (sym q) (sums_kept u v p steps b h)

pub carried_all : (gens : List Operation) (t v : PureTable) (i : ℕ) (p : Operation) → IsMore t v → i < length t.found → p ≡ get_or t.found i p → HasCarried v p gens → ((o : Operation) → IsMember o (take i t.found) → HasCarried t o gens) → (o : Operation) → IsMember o (take (i + 1) v.found) → HasCarried v o gens
carried_all gens t v i p a l e h before o m = by (taken_next t.found v.found i p o a.starts l e m)
  where
    by : (o ≡ p) ⊎ IsMember o (take i t.found) → HasCarried v o gens
    by (inr k) = carried_kept t v o gens a (before o k)
    by (inl q) = subst (λ (w : Operation). HasCarried v w gens) (sym q) h

pub longer_next : (t v : PureTable) (i : ℕ) → IsMore t v → i < length t.found → i + 1 ≤ length v.found
longer_next t v i a l = let n = starts_longer t.found v.found a.starts in omega arith
