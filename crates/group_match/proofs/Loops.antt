-- What the loops over operations keep: one more representative, source, pair.
use Rattle.std.proofs.Common.{◌≡◌, refl, sym, ap, ap₂, subst, ◌∙◌, ◌⊎◌, inl, inr, ℕ, ◌+◌, ◌<◌, List, [], ◌∷◌, ◌++◌, take, map, get_or, length}
use Rattle.lists.specs.Increasing.{IsMember, IsDistinct}
use Rattle.lists.proofs.Members.{pushed_member, member_front, member_last, each_pushed, mapped_from}
use Rattle.lists.proofs.Walks.{take_read}
use Rattle.lists.proofs.Distinct.{IsDistinct-pushed}
use Rattle.crystal_spec.specs.Matrices.{Matrix}
use Rattle.crystal_spec.specs.Operations.{Operation}
use Rattle.op_group.specs.Views.{operation_of}
use Rattle.op_group.specs.declared.operation.Op.{Op}
use Rattle.match_spec.specs.Searching.{Class, class_of, AreRepresentatives, IsPart}
use Rattle.group_match.specs.declared.inner.Source.{Source}
use Rattle.group_match.specs.declared.pair.Matched.{Matched}
use Rattle.group_match.specs.Sources.{op_of, IsInner, AreSources}
use Rattle.group_match.specs.Matching.{source_op, IsCarried, AreCarried}
use Rattle.std.proofs.lemmas.List.{map_push}

-- ---- representatives

with_class : (rs : List Operation) (c : Class) → IsMember c (map class_of rs) → (r : Operation) × (IsMember r rs × (class_of r ≡ c))
with_class rs c m = (let r = mapped_from class_of c rs m in (r.item, (r.of_list, sym r.is)))

rep_same : (xs rs : List Operation) (x : Operation) → AreRepresentatives xs rs → IsMember (class_of x) (map class_of rs) → AreRepresentatives (xs ++ x ∷ []) rs
rep_same xs rs x a m = record {
  of_list = λ r h. member_front xs x r (a.of_list r h);
  each = each_pushed (λ o. (r : Operation) × (IsMember r rs × (class_of r ≡ class_of o))) xs x a.each (with_class rs (class_of x) m);
  distinct = a.distinct;
}

rep_more : (xs rs : List Operation) (x : Operation) → AreRepresentatives xs rs → (IsMember (class_of x) (map class_of rs) → ⊥) → AreRepresentatives (xs ++ x ∷ []) (rs ++ x ∷ [])
rep_more xs rs x a n = record {
  of_list = each_pushed (λ r. IsMember r (xs ++ x ∷ [])) rs x (λ r h. member_front xs x r (a.of_list r h)) (member_last xs x);
  each = each_pushed (λ o. (r : Operation) × (IsMember r (rs ++ x ∷ []) × (class_of r ≡ class_of o))) xs x (λ o h. (let r = a.each o h in (r.0, (member_front rs x r.0 r.1.0, r.1.1)))) (x, (member_last rs x, refl));
  distinct = subst IsDistinct (sym (map_push class_of rs x)) (IsDistinct-pushed (map class_of rs) (class_of x) a.distinct n);
}

module _ (ops : List Op) (i : ℕ) (x : Op) (below : i < length ops) (is : x ≡ get_or ops i x) where
  more : map operation_of (take (i + 1) ops) ≡ map operation_of (take i ops) ++ operation_of x ∷ []
  more = ap (map operation_of) (take_read ops i x below is) ∙ map_push operation_of (take i ops) x

  pub representative_same : (rs : List Op) → AreRepresentatives (map operation_of (take i ops)) (map operation_of rs) → IsMember (class_of (operation_of x)) (map class_of (map operation_of rs)) → AreRepresentatives (map operation_of (take (i + 1) ops)) (map operation_of rs)
  representative_same rs a m = subst (λ xs. AreRepresentatives xs (map operation_of rs)) (sym more) (rep_same _ _ (operation_of x) a m)

  pub representative_more : (rs : List Op) → AreRepresentatives (map operation_of (take i ops)) (map operation_of rs) → (IsMember (class_of (operation_of x)) (map class_of (map operation_of rs)) → ⊥) → AreRepresentatives (map operation_of (take (i + 1) ops)) (map operation_of (rs ++ x ∷ []))
  representative_more rs a n = subst (AreRepresentatives (map operation_of (take (i + 1) ops))) (sym (map_push operation_of rs x)) (subst (λ xs. AreRepresentatives xs (map operation_of rs ++ operation_of x ∷ [])) (sym more) (rep_more _ _ (operation_of x) a n))

-- a search from the end: what is among the first n + 1 and is not the last of them is among the first n
pub not_last : (ops : List Op) (n : ℕ) (x : Op) (c : Class) → n < length ops → x ≡ get_or ops n x → (class_of (operation_of x) ≡ c → ⊥) → IsMember c (map class_of (map operation_of (take (n + 1) ops))) → IsMember c (map class_of (map operation_of (take n ops)))
not_last ops n x c below is other m =
    by (pushed_member (map class_of (map operation_of (take n ops))) (class_of (operation_of x)) c (subst (IsMember c) list m))
  where
    list : map class_of (map operation_of (take (n + 1) ops)) ≡ map class_of (map operation_of (take n ops)) ++ class_of (operation_of x) ∷ []
    list = ap (λ xs. map class_of (map operation_of xs)) (take_read ops n x below is) ∙ (ap (map class_of) (map_push operation_of (take n ops) x) ∙ map_push class_of (map operation_of (take n ops)) (operation_of x))

    by : (c ≡ class_of (operation_of x)) ⊎ IsMember c (map class_of (map operation_of (take n ops))) → IsMember c (map class_of (map operation_of (take n ops)))
    by (inl e) = absurd (other (sym e))
    by (inr k) = k

-- ---- sources

pub sources_more : (s : Matrix) (ops : List Op) (i : ℕ) (x : Source) (xs : List Source) → i < length ops → x.op ≡ get_or ops i x.op → IsInner s x → AreSources s (take i ops) xs → AreSources s (take (i + 1) ops) (xs ++ x ∷ [])
sources_more s ops i x xs below is inner a = record {
  ops_are = map_push op_of xs x ∙ (ap (λ w. w ++ x.op ∷ []) a.ops_are ∙ sym (take_read ops i x.op below is));
  inner = each_pushed (IsInner s) xs x a.inner inner;
}

-- ---- pairs

pub carried_more : (p : Matrix) (m : List Operation) (ss : List Source) (i : ℕ) (s : Source) (xs : List Matched) (x : Matched) → i < length ss → s ≡ get_or ss i s → IsCarried p m s x → AreCarried p m (take i ss) xs → AreCarried p m (take (i + 1) ss) (xs ++ x ∷ [])
carried_more p m ss i s xs x below is k a = record {
  sources = map_push source_op xs x ∙ (ap₂ (λ w o. w ++ o ∷ []) a.sources k.source ∙ (sym (map_push op_of (take i ss) s) ∙ ap (map op_of) (sym (take_read ss i s below is))));
  each = each_pushed (λ y. (r : Source) × (IsMember r (take (i + 1) ss) × IsCarried p m r y)) xs x (λ y h. (let r = a.each y h in (r.0, (subst (IsMember r.0) (sym (take_read ss i s below is)) (member_front (take i ss) s r.0 r.1.0), r.1.1)))) (s, (subst (IsMember s) (sym (take_read ss i s below is)) (member_last (take i ss) s), k));
}

-- ---- parts

pub part_more : {X : Type 0} (P N : X → Type 0) (xs ys : List X) (x : X) → IsPart P N xs ys → P x → IsPart P N (xs ++ x ∷ []) (ys ++ x ∷ [])
part_more P N [] ys x h p = inl (p, ([], (ap (λ w. w ++ x ∷ []) h, refl)))
part_more P N (w ∷ xs) ys x (inl h) p = inl (h.0, (h.1.0 ++ x ∷ [], (ap (λ v. v ++ x ∷ []) h.1.1.0, part_more P N xs h.1.0 x h.1.1.1 p)))
part_more P N (w ∷ xs) ys x (inr h) p = inr (h.0, part_more P N xs ys x h.1 p)

pub part_skip : {X : Type 0} (P N : X → Type 0) (xs ys : List X) (x : X) → IsPart P N xs ys → N x → IsPart P N (xs ++ x ∷ []) ys
part_skip P N [] ys x h n = inr (n, h)
part_skip P N (w ∷ xs) ys x (inl h) n = inl (h.0, (h.1.0, (h.1.1.0, part_skip P N xs h.1.0 x h.1.1.1 n)))
part_skip P N (w ∷ xs) ys x (inr h) n = inr (h.0, part_skip P N xs ys x h.1 n)
