-- The order of the family group, and that of the maximal space subgroup.
--
-- Two operations of a list with one pair (W, w) differ in the time sign alone. So each pair has one operation that is the
-- first with it, +1 before -1, and there are as many pairs as first operations.
use Rattle.std.proofs.Common.{◌≡◌, ℕ, ◌+◌, ◌<◌, ◌≤◌, List, [], ◌∷◌, map, drop, length, get_or, cond, count_by, refl, sym, ap, subst, ◌∙◌, ◌⊎◌, inl, inr, arith}
use Rattle.std.specs.Prelude.{◌↔◌}
use Rattle.std.specs.declared.cmp.Ordering.{Ordering}
use Rattle.std.specs.declared.cmp.Ordering.TheVariants.{Less, Equal, Greater}
use Rattle.std.proofs.lemmas.Cmp.{tied_itself}
use Rattle.std.proofs.lemmas.List.{drop-map, drop_all}
use Rattle.std.proofs.lemmas.List.Recursion.{is_count_by}
use Rattle.lists.specs.Increasing.{IsMember, IsDistinct}
use Rattle.lists.proofs.Walks.{drop_read}
use Rattle.lists.proofs.Distinct.{IsDistinct-drop}
use Rattle.crystal_spec.specs.declared.Sign.{Sign}
use Rattle.crystal_spec.specs.declared.Sign.TheVariants.{Same, Reversed}
use Rattle.crystal_spec.specs.Operations.{Operation, compare_of}
use Rattle.crystal_spec.proofs.Ordered.{compare_total, compare_exact}
use Rattle.op_group.specs.declared.operation.Op.{Op}
use Rattle.op_group.specs.Views.{operation_of}
use Rattle.mag_type.specs.Families.{SpaceOperation, IsInFamily, IsUnprimed, IsNumberOf}
use Rattle.mag_type.specs.Counting.{is_same, unprimed, IsFirstOfPair}
use Rattle.mag_type.proofs.Numbers.{IsAmong, IsTold, number_same, number_none, number_yes, number_no, number_told}

-- ---- the maximal space subgroup

-- how many of the operations have the sign +1
unprimed_in : List Op → ℕ
unprimed_in [] = 0
unprimed_in (o ∷ ops) = cond (is_same o.sign) (1 + unprimed_in ops) (unprimed_in ops)

unprimed_counted : (ops : List Op) → unprimed_in ops ≡ count_by (λ (o : Op). is_same o.sign) ops
unfolding unprimed_in
unprimed_counted ops = is_count_by unprimed_in (λ (o : Op). is_same o.sign) refl (λ o rest. refl) ops

one_before : (k : ℕ) → k + 1 ≡ 1 + k
one_before k = omega arith

unprimed_number_in : (ops : List Op) → IsDistinct (map operation_of ops) → IsNumberOf (IsAmong (λ (o : Operation). o.sign ≡ Same) (map operation_of ops)) (unprimed_in ops)
unfolding unprimed_in
unprimed_number_in [] d = number_none (λ (o : Operation). o.sign ≡ Same)
unprimed_number_in (o ∷ ops) d = by o.sign refl (unprimed_number_in ops d.1)
  where
    by : (s : Sign) → o.sign ≡ s → IsNumberOf (IsAmong (λ (p : Operation). p.sign ≡ Same) (map operation_of ops)) (unprimed_in ops) →
        IsNumberOf (IsAmong (λ (p : Operation). p.sign ≡ Same) (operation_of o ∷ map operation_of ops)) (cond (is_same o.sign) (1 + unprimed_in ops) (unprimed_in ops))
    by Same e n = subst (λ (s : Sign). IsNumberOf (IsAmong (λ (p : Operation). p.sign ≡ Same) (operation_of o ∷ map operation_of ops)) (cond (is_same s) (1 + unprimed_in ops) (unprimed_in ops))) (sym e)
        (subst (IsNumberOf (IsAmong (λ (p : Operation). p.sign ≡ Same) (operation_of o ∷ map operation_of ops))) (one_before (unprimed_in ops))
        (number_yes (λ (p : Operation). p.sign ≡ Same) (operation_of o) (map operation_of ops) (unprimed_in ops) d.0 e n))
    by Reversed e n = subst (λ (s : Sign). IsNumberOf (IsAmong (λ (p : Operation). p.sign ≡ Same) (operation_of o ∷ map operation_of ops)) (cond (is_same s) (1 + unprimed_in ops) (unprimed_in ops))) (sym e)
        (number_no (λ (p : Operation). p.sign ≡ Same) (operation_of o) (map operation_of ops) (unprimed_in ops) (λ f. cc (e, f)) n)

-- the operations of sign +1 are as many as the program counts
pub unprimed_number : (ops : List Op) (os : List Operation) → map operation_of ops ≡ os → IsDistinct os → IsNumberOf (IsUnprimed os) (count_by (λ (o : Op). is_same o.sign) ops)
unprimed_number ops os e d =
    number_same (IsAmong (λ (o : Operation). o.sign ≡ Same) os) (IsUnprimed os) (count_by (λ (o : Op). is_same o.sign) ops)
    (λ o. ((λ a. record { of_list = a.of_list; same = a.it_holds }), (λ u. record { of_list = u.of_list; it_holds = u.same })))
    (subst (λ (xs : List Operation). IsNumberOf (IsAmong (λ (o : Operation). o.sign ≡ Same) xs) (count_by (λ (o : Op). is_same o.sign) ops)) e
    (subst (IsNumberOf (IsAmong (λ (o : Operation). o.sign ≡ Same) (map operation_of ops))) (unprimed_counted ops)
    (unprimed_number_in ops (subst IsDistinct (sym e) d))))

-- ---- the family group

-- the pair of an operation
abbrev pub pair_of : Operation → SpaceOperation
pair_of o = record { matrix = o.matrix; translation = o.translation }

same_or_not : (o p : Operation) → (o ≡ p) ⊎ (o ≡ p → ⊥)
same_or_not o p = by (compare_of o p) refl
  where
    by : (w : Ordering) → compare_of o p ≡ w → (o ≡ p) ⊎ (o ≡ p → ⊥)
    by Equal e = inl (compare_exact o p e)
    by Less e = inr (λ f. cc (sym e ∙ ap (compare_of o) (sym f) ∙ tied_itself compare_total o))
    by Greater e = inr (λ f. cc (sym e ∙ ap (compare_of o) (sym f) ∙ tied_itself compare_total o))

member_or_not : (o : Operation) (os : List Operation) → IsMember o os ⊎ (IsMember o os → ⊥)
member_or_not o [] = inr (λ m. m)
member_or_not o (p ∷ os) = by (same_or_not o p) (member_or_not o os)
  where
    neither : (o ≡ p → ⊥) → (IsMember o os → ⊥) → (o ≡ p) ⊎ IsMember o os → ⊥
    neither other none (inl e) = other e
    neither other none (inr m) = none m

    by : (o ≡ p) ⊎ (o ≡ p → ⊥) → IsMember o os ⊎ (IsMember o os → ⊥) → ((o ≡ p) ⊎ IsMember o os) ⊎ ((o ≡ p) ⊎ IsMember o os → ⊥)
    by (inl e) r = inl (inl e)
    by (inr other) (inl m) = inl (inr m)
    by (inr other) (inr none) = inr (neither other none)

-- two first operations with one pair are one
first_once : (os : List Operation) (o p : Operation) → IsAmong (IsFirstOfPair os) os o → IsAmong (IsFirstOfPair os) os p → pair_of o ≡ pair_of p → o ≡ p
first_once os o p h k e = by o.sign p.sign refl refl
  where
    whole : (s : Sign) → o.sign ≡ s → p.sign ≡ s → o ≡ p
    whole s a b =
        let m = ap (λ (q : SpaceOperation). q.matrix) e in
        let t = ap (λ (q : SpaceOperation). q.translation) e in
        let z = a ∙ sym b in
        λ i. record { matrix = m i; translation = t i; sign = z i }

    -- o of sign +1 is what p is without time reversal
    not_first : (a b : Operation) → pair_of a ≡ pair_of b → a.sign ≡ Same → IsMember a os → IsMember (unprimed b) os
    not_first a b f s m =
        let w = ap (λ (q : SpaceOperation). q.matrix) f in
        let t = ap (λ (q : SpaceOperation). q.translation) f in
        let is : a ≡ unprimed b = λ i. record { matrix = w i; translation = t i; sign = s i } in
        subst (λ (x : Operation). IsMember x os) is m

    by : (s t : Sign) → o.sign ≡ s → p.sign ≡ t → o ≡ p
    by Same Same a b = whole Same a b
    by Reversed Reversed a b = whole Reversed a b
    by Same Reversed a b = absurd (k.it_holds b (not_first o p e a h.of_list))
    by Reversed Same a b = absurd (h.it_holds a (not_first p o (sym e) b k.of_list))

-- a pair of the family group is that of a first operation, and the other way round
family_told : (os : List Operation) (p : SpaceOperation) → IsTold pair_of (IsAmong (IsFirstOfPair os) os) p ↔ IsInFamily os p
family_told os p = (forth, (λ f. back f.sign f.of_list))
  where
    with_sign : Sign → Operation
    with_sign s = record { matrix = p.matrix; translation = p.translation; sign = s }

    forth : IsTold pair_of (IsAmong (IsFirstOfPair os) os) p → IsInFamily os p
    forth t =
        let is = t.is in
        record { sign = t.by.sign; of_list = subst (λ (q : SpaceOperation). IsMember (record { matrix = q.matrix; translation = q.translation; sign = t.by.sign }) os) (sym is) t.holds.of_list }

    first_is : IsMember (record { matrix = p.matrix; translation = p.translation; sign = Same }) os → IsTold pair_of (IsAmong (IsFirstOfPair os) os) p
    first_is m = record {
      by = record { matrix = p.matrix; translation = p.translation; sign = Same };
      holds = record { of_list = m; it_holds = λ e. absurd (cc e) };
      is = refl;
    }

    back : (s : Sign) → IsMember (record { matrix = p.matrix; translation = p.translation; sign = s }) os → IsTold pair_of (IsAmong (IsFirstOfPair os) os) p
    back Same m = first_is m
    back Reversed m = by (member_or_not (record { matrix = p.matrix; translation = p.translation; sign = Same }) os)
      where
        by : IsMember (record { matrix = p.matrix; translation = p.translation; sign = Same }) os ⊎ (IsMember (record { matrix = p.matrix; translation = p.translation; sign = Same }) os → ⊥) → IsTold pair_of (IsAmong (IsFirstOfPair os) os) p
        by (inl k) = first_is k
        by (inr none) = record {
          by = record { matrix = p.matrix; translation = p.translation; sign = Reversed };
          holds = record { of_list = m; it_holds = λ e. none };
          is = refl;
        }

-- there are as many pairs as first operations
pub family_number : (os : List Operation) (k : ℕ) → IsNumberOf (IsAmong (IsFirstOfPair os) os) k → IsNumberOf (IsInFamily os) k
family_number os k n =
    number_same (IsTold pair_of (IsAmong (IsFirstOfPair os) os)) (IsInFamily os) k (family_told os)
    (number_told pair_of (IsAmong (IsFirstOfPair os) os) k (first_once os) n)

-- ---- one pass over the operations

-- with the first operations that are still to come, those counted are all of the list
abbrev pub AreCounted : List Operation → List Op → ℕ → ℕ → Type 0
AreCounted os ops i count = (k : ℕ) → IsNumberOf (IsAmong (IsFirstOfPair os) (map operation_of (drop i ops))) k → IsNumberOf (IsAmong (IsFirstOfPair os) os) (count + k)

pub counted_none : (os : List Operation) (ops : List Op) → map operation_of ops ≡ os → AreCounted os ops 0 0
counted_none os ops e k n =
    let same : k ≡ 0 + k = omega arith in
    subst (IsNumberOf (IsAmong (IsFirstOfPair os) os)) same (subst (λ (xs : List Operation). IsNumberOf (IsAmong (IsFirstOfPair os) xs) k) e n)

module _ (os : List Operation) (ops : List Op) (i count : ℕ) (o : Op) (e : map operation_of ops ≡ os) (d : IsDistinct os) (h : i < length ops) (is : o ≡ get_or ops i o) (counted : AreCounted os ops i count) where
  left : map operation_of (drop i ops) ≡ operation_of o ∷ map operation_of (drop (i + 1) ops)
  left = ap (λ (xs : List Op). map operation_of xs) (drop_read ops i o h is)

  new : IsMember (operation_of o) (map operation_of (drop (i + 1) ops)) → ⊥
  new = (subst IsDistinct left (subst IsDistinct (drop-map operation_of i ops) (IsDistinct-drop i (map operation_of ops) (subst IsDistinct (sym e) d)))).0

  -- a first operation is counted
  pub counted_more : IsFirstOfPair os (operation_of o) → AreCounted os ops (i + 1) (count + 1)
  counted_more first k n =
      let same : count + (k + 1) ≡ (count + 1) + k = omega arith in
      subst (IsNumberOf (IsAmong (IsFirstOfPair os) os)) same
      (counted (k + 1) (subst (λ (xs : List Operation). IsNumberOf (IsAmong (IsFirstOfPair os) xs) (k + 1)) (sym left)
      (number_yes (IsFirstOfPair os) (operation_of o) (map operation_of (drop (i + 1) ops)) k new first n)))

  -- another one is not
  pub counted_same : (IsFirstOfPair os (operation_of o) → ⊥) → AreCounted os ops (i + 1) count
  counted_same other k n =
      counted k (subst (λ (xs : List Operation). IsNumberOf (IsAmong (IsFirstOfPair os) xs) k) (sym left)
      (number_no (IsFirstOfPair os) (operation_of o) (map operation_of (drop (i + 1) ops)) k other n))

-- where none is still to come, there are as many pairs as were counted
pub counted_all : (os : List Operation) (ops : List Op) (i count : ℕ) → length ops ≤ i → AreCounted os ops i count → IsNumberOf (IsInFamily os) count
counted_all os ops i count h counted =
    let none = subst (λ (xs : List Op). IsNumberOf (IsAmong (IsFirstOfPair os) (map operation_of xs)) 0) (sym (drop_all i ops h)) (number_none (IsFirstOfPair os)) in
    let same : count + 0 ≡ count = omega arith in
    family_number os count (subst (IsNumberOf (IsAmong (IsFirstOfPair os) os)) same (counted 0 none))
