-- Lists of the operations that a table has after others.
--   after_is, after_from       they are those of the table, each with r
--   pushed_after, listed_after  the operations of one matrix, one by one
--   listing_start, listing_next                the operations of all matrices
--   listing_group                              they are exactly the products
use Rattle.std.proofs.Common.{◌≡◌, ◌⊎◌, inl, inr, ℕ, ◌<◌, ◌+◌, List, [], ◌∷◌, ◌++◌, length, take, get_or, map, refl, sym, ◌∙◌, ap, subst, append_assoc, add-one}
use Rattle.std.specs.Prelude.{◌↔◌, pos, negsuc}
use Rattle.std.proofs.Math.Seq.{take-suc}
use Rattle.std.proofs.lemmas.List.{map-append}
use Rattle.ring.specs.Ring.{quoted, con}
use Rattle.lists.specs.Increasing.{IsMember}
use Rattle.lists.proofs.Members.{mapped_from, mapped_member, member_left, member_right, member_either}
use Rattle.matrix3.specs.Matrices.{coordinates, vector_of_variables}
use Rattle.matrix3.specs.Matrices as formulas
use Rattle.crystal_spec.specs.declared.Sign.{Sign}
use Rattle.crystal_spec.specs.declared.Sign.TheVariants.{Same, Reversed}
use Rattle.crystal_spec.specs.Matrices.{Triple, sum_of, difference, multiple}
use Rattle.crystal_spec.specs.Operations.{Operation, IsWithinCell}
use Rattle.crystal_spec.proofs.Identities.{by_triples}
use Rattle.op_group.specs.Lists.{AllWithinCell}
use Rattle.hall_symbol.specs.Compositions.{both, reduced}
use Rattle.hall_symbol.proofs.Compositions.{reduces_12, reduced_within, reduced_same, reduced_is}
use Rattle.hall_text.specs.Products.{IsProduct, AreProducts, IsGroupOf}
use Rattle.hall_text.specs.Splits.{pure, IsSplit, StandForMatrices}
use Rattle.hall_text.specs.PureTables.{PureTable, IsPureTable, Has, AreWithin, HaveSteps, IsClosed, AreMade}
use Rattle.hall_text.specs.Listings.{after, IsAfter, HasListed, IsListing}
use Rattle.hall_text.proofs.ProductLemmas.{product_within}
use Rattle.hall_text.proofs.Splitting.{operation_same, product_splits, splits_product}
use Rattle.hall_text.proofs.ClosureLemmas.{sum_reduced, table_splits}

-- ---- one matrix

-- r + p = q + 12 c gives q - r = p - 12 c
sum_less : (r p : Triple) → IsWithinCell 12 p → reduced (difference (reduced (sum_of r p)) r) ≡ p
sum_less r p w =
    let k = reduces_12 (sum_of r p) in
    let q = reduced (sum_of r p) in
    reduced_same (difference q r) p (multiple (negsuc 0) k.cells) (there r q k.cells ∙ ap (λ (v : Triple). difference (difference v (multiple (pos 12) k.cells)) r) (sym k.same) ∙ back r p k.cells) ∙ reduced_is p w
  where
    there : (r q c : Triple) → difference q r ≡ difference (difference (sum_of q (multiple (pos 12) c)) (multiple (pos 12) c)) r
    there r q c = by_triples (coordinates r ++ coordinates q ++ coordinates c) (formulas.difference quoted (vector_of_variables 3) (vector_of_variables 0)) (formulas.difference quoted (formulas.difference quoted (formulas.sum_of quoted (vector_of_variables 3) (formulas.multiple quoted (con (pos 12)) (vector_of_variables 6))) (formulas.multiple quoted (con (pos 12)) (vector_of_variables 6))) (vector_of_variables 0)) refl

    back : (r p c : Triple) → difference (difference (sum_of r p) (multiple (pos 12) c)) r ≡ sum_of p (multiple (pos 12) (multiple (negsuc 0) c))
    back r p c = by_triples (coordinates r ++ coordinates p ++ coordinates c) (formulas.difference quoted (formulas.difference quoted (formulas.sum_of quoted (vector_of_variables 0) (vector_of_variables 3)) (formulas.multiple quoted (con (pos 12)) (vector_of_variables 6))) (vector_of_variables 0)) (formulas.sum_of quoted (vector_of_variables 3) (formulas.multiple quoted (con (pos 12)) (formulas.multiple quoted (con (negsuc 0)) (vector_of_variables 6)))) refl

less_sum : (r o : Triple) → IsWithinCell 12 o → reduced (sum_of r (reduced (difference o r))) ≡ o
less_sum r o w = sum_reduced r (difference o r) ∙ ap reduced (whole r o) ∙ reduced_is o w
  where
    whole : (r o : Triple) → sum_of r (difference o r) ≡ o
    whole r o = by_triples (coordinates r ++ coordinates o) (formulas.sum_of quoted (vector_of_variables 0) (formulas.difference quoted (vector_of_variables 3) (vector_of_variables 0))) (vector_of_variables 3) refl

sign_less : (r p : Sign) → both (both r p) r ≡ p
sign_less Same Same = refl
sign_less Same Reversed = refl
sign_less Reversed Same = refl
sign_less Reversed Reversed = refl

sign_sum : (r o : Sign) → both r (both o r) ≡ o
sign_sum Same Same = refl
sign_sum Same Reversed = refl
sign_sum Reversed Same = refl
sign_sum Reversed Reversed = refl

-- one of the table
pub after_is : (t : PureTable) (r p : Operation) → IsPureTable t → IsMember p t.found → IsAfter t r (after r p)
after_is t r p h m =
    let f = h.flagged p m in
    record {
      within = reduced_within (sum_of r.translation p.translation);
      matrix = refl;
      has = subst (λ (v : Triple). Has t.flags v (both (both r.sign p.sign) r.sign)) (sym (sum_less r.translation p.translation f.within)) (subst (λ (s : Sign). Has t.flags p.translation s) (sym (sign_less r.sign p.sign)) f.flagged);
    }

after_from : (t : PureTable) (r o : Operation) → IsPureTable t → IsAfter t r o → (p : Operation) × (IsMember p t.found × (o ≡ after r p))
after_from t r o h a =
    let v = reduced (difference o.translation r.translation) in
    let s = both o.sign r.sign in
    (pure v s, (h.listed v s (reduced_within (difference o.translation r.translation)) a.has, operation_same a.matrix (sym (less_sum r.translation o.translation a.within)) (sym (sign_sum r.sign o.sign))))

-- one more of them
pub pushed_after : (r : Operation) (found old ops : List Operation) (i : ℕ) (p x : Operation) → i < length found → p ≡ get_or found i p → x ≡ after r p → ops ≡ old ++ map (after r) (take i found) → ops ++ (x ∷ []) ≡ old ++ map (after r) (take (i + 1) found)
pushed_after r found old ops i p x h e f g =
    let taken : take (i + 1) found ≡ take i found ++ (p ∷ []) = ap (λ (j : ℕ). take j found) (add-one i) ∙ take-suc found i p h ∙ ap (λ (q : Operation). take i found ++ (q ∷ [])) (sym e) in
    ap (λ (os : List Operation). os ++ (x ∷ [])) g
    ∙ append_assoc old (map (after r) (take i found)) (x ∷ [])
    ∙ ap (λ (q : Operation). old ++ (map (after r) (take i found) ++ (q ∷ []))) f
    ∙ ap (λ (os : List Operation). old ++ os) (sym (ap (map (after r)) taken ∙ map-append (after r) (take i found) (p ∷ [])))

-- all of them
pub listed_after : (t : PureTable) (r : Operation) (old new : List Operation) → IsPureTable t → new ≡ old ++ map (after r) t.found → HasListed t r old new
listed_after t r old new h e = record { exact = λ o. ((λ m. there o (member_either o old (map (after r) t.found) (subst (λ (os : List Operation). IsMember o os) e m))), back o) }
  where
    there : (o : Operation) → IsMember o old ⊎ IsMember o (map (after r) t.found) → IsMember o old ⊎ IsAfter t r o
    there o (inl m) = inl m
    there o (inr m) = let k = mapped_from (after r) o t.found m in inr (subst (IsAfter t r) (sym k.is) (after_is t r k.item h k.of_list))

    back : (o : Operation) → IsMember o old ⊎ IsAfter t r o → IsMember o new
    back o (inl m) = subst (λ (os : List Operation). IsMember o os) (sym e) (member_left o old (map (after r) t.found) m)
    back o (inr a) =
        let k = after_from t r o h a in
        subst (λ (os : List Operation). IsMember o os) (sym e) (member_right o old (map (after r) t.found) (subst (λ (q : Operation). IsMember q (map (after r) t.found)) (sym k.1.1) (mapped_member (after r) k.0 t.found k.1.0)))

-- ---- all matrices

pub listing_start : (t : PureTable) → IsListing t [] []
listing_start t = record { exact = λ o. ((λ m. absurd m), (λ p. absurd p.1.0)) }

-- one more matrix
pub listing_next : (t : PureTable) (seen qs old new : List Operation) (r : Operation) → IsListing t seen old → HasListed t r old new → ((q : Operation) → IsMember q qs → (q ≡ r) ⊎ IsMember q seen) → ((q : Operation) → IsMember q seen → IsMember q qs) → IsMember r qs → IsListing t qs new
listing_next t seen qs old new r g h cases more here = record { exact = λ o. ((λ m. there o ((h.exact o).0 m)), back o) }
  where
    there : (o : Operation) → IsMember o old ⊎ IsAfter t r o → (q : Operation) × (IsMember q qs × IsAfter t q o)
    there o (inl m) = let k = (g.exact o).0 m in (k.0, (more k.0 k.1.0, k.1.1))
    there o (inr a) = (r, (here, a))

    by : (o q : Operation) → IsAfter t q o → (q ≡ r) ⊎ IsMember q seen → IsMember o new
    by o q a (inr m) = (h.exact o).1 (inl ((g.exact o).1 (q, (m, a))))
    by o q a (inl e) = (h.exact o).1 (inr (subst (λ (s : Operation). IsAfter t s o) e a))

    back : (o : Operation) → (q : Operation) × (IsMember q qs × IsAfter t q o) → IsMember o new
    back o k = by o k.0 k.1.1 (cases k.0 k.1.0)

-- ---- the group

pub products_within : (gens os : List Operation) → AreProducts gens os → AreWithin os
products_within gens os p = record { each = λ o m. product_within gens o (p.each o m) }

pub listing_within : (t : PureTable) (rs os : List Operation) → IsListing t rs os → AllWithinCell 12 os
listing_within t rs os g o m = ((g.exact o).0 m).1.1.within

pub listing_group : (gens rs os : List Operation) (t : PureTable) → IsSplit gens rs (λ v s. Has t.flags v s) → IsListing t rs os → (o : Operation) → IsMember o os ↔ IsProduct gens o
listing_group gens rs os t c g o = ((λ m. there ((g.exact o).0 m)), here)
  where
    there : (r : Operation) × (IsMember r rs × IsAfter t r o) → IsProduct gens o
    there k = splits_product gens rs (λ v s. Has t.flags v s) c o k.1.1.within (record { rep = k.0; member = k.1.0; matrix = k.1.1.matrix; pure_part = k.1.1.has })

    here : IsProduct gens o → IsMember o os
    here p =
        let s = product_splits gens rs (λ v s. Has t.flags v s) c o p in
        let w = product_within gens o p in
        (g.exact o).1 (s.rep, (s.member, record { within = w; matrix = s.matrix; has = s.pure_part }))

-- all that the parts come to
pub group_listed : (gens rs steps os listed : List Operation) (t : PureTable) → StandForMatrices gens rs → HaveSteps rs steps rs gens → IsClosed steps gens t → AreMade gens t → IsListing t rs os → ((o : Operation) → IsMember o listed ↔ IsMember o os) → IsGroupOf gens listed
group_listed gens rs steps os listed t c h k m g e = record { exact = λ o. (let p = listing_group gens rs os t (table_splits gens rs steps t c h k m) g o in let q = e o in ((λ j. p.0 (q.0 j)), (λ j. q.1 (p.1 j)))) }
