-- A map keeps the kinds of operations, so two groups with other numbers of a kind have no map.
use Rattle.std.proofs.Common.{◌≡◌, refl, sym, ap, ap₂, ◌∙◌, inl, inr, ℕ, ◌+◌, ◌<◌, ◌*◌, ◌^◌, ℤ, pos, ◌+ℤ◌, ◌*ℤ◌, Bool, true, false, List, [], ◌∷◌, ◌++◌, take, map, get_or, length, lit≤}
use Rattle.std.specs.Ordering.{int_eq}
use Rattle.ring.specs.Size.{AtMost}
use Rattle.ring.proofs.Sizes.{at_most_mul, at_most_add}
use Rattle.lists.specs.Increasing.{IsMember}
use Rattle.lists.proofs.Matching.{total}
use Rattle.lists.proofs.Walks.{take_read}
use Rattle.matrix3.specs.Matrices.{EachEntry}
use Rattle.matrix3.proofs.FitsBySize.{determinant_size, grown}
use Rattle.crystal_spec.specs.declared.Sign.{Sign}
use Rattle.crystal_spec.specs.Matrices.{Matrix, product, determinant}
use Rattle.crystal_spec.specs.Operations.{Operation, sign_factor}
use Rattle.op_group.specs.Views.{operation_of}
use Rattle.op_group.specs.declared.operation.Op.{Op}
use Rattle.match_spec.specs.FirstMap.{IsStepMatrix, IsNone}
use Rattle.match_spec.specs.Searching.{Class, class_of}
use Rattle.match_spec.proofs.Counts.{weight, counts_agree}
use Rattle.match_spec.proofs.Invariants.{same_det, same_trace}
use Rattle.match_spec.proofs.Wholes.{not_zero}
use Rattle.match_spec.proofs.ListedGroups.{step_facts}
use Rattle.match_spec.proofs.Search.{classes_of, found_classes, turn_nonzero}
use Rattle.group_match.specs.declared.inner.Source.{Source}
use Rattle.group_match.specs.Sources.{op_of, IsInner}
use Rattle.group_match.specs.Tasks.{IsTask, AreSourcesOf}
use Rattle.group_match.specs.Kinds.{kind_of, kind_of_source, kind_of_member, number_of_kind, HasOtherNumber}
use Rattle.group_match.proofs.Sized.{natural_size}
use Rattle.std.proofs.lemmas.List.{map_push}

-- ---- kinds

-- by trace and determinant
abbrev of_parts : ℤ → ℤ → Sign → ℤ
of_parts d t s = (pos 9 *ℤ t +ℤ pos 3 *ℤ d) +ℤ sign_factor s

abbrev one_if : Bool → ℕ
one_if b = elim b [ true ↦ 1 | false ↦ 0 ]

abbrev is_kind : ℤ → ℤ → ℤ → Sign → ℕ
is_kind k d t s = one_if (int_eq (of_parts d t s) k)

abbrev kind_of_class : Class → ℤ
kind_of_class c = kind_of c.matrix c.sign

as_total : (k : ℤ) (cs : List Class) → number_of_kind k (map kind_of_class cs) ≡ total ◌+◌ 0 (weight (is_kind k)) cs
as_total k [] = refl
as_total k (c ∷ cs) = ap (λ (n : ℕ). one_if (int_eq (kind_of_class c) k) + n) (as_total k cs)

members_kinds : (ms : List Op) → map kind_of_member ms ≡ map kind_of_class (map class_of (map operation_of ms))
members_kinds [] = refl
members_kinds (o ∷ ms) = ap (λ w. kind_of_member o ∷ w) (members_kinds ms)

-- C S = S W: one kind
inner_kind : (s : Matrix) (x : Source) → (determinant s ≡ pos 0 → ⊥) → IsInner s x → kind_of_source x ≡ kind_of x.op.w x.op.sign
inner_kind s x nz i =
    ap₂ (λ (t : ℤ) (d : ℤ). of_parts d t x.op.sign) (same_trace s x.inner x.op.w nz i.turned) (same_det s x.inner x.op.w nz i.turned)

sources_kinds : (s : Matrix) (ss : List Source) → (determinant s ≡ pos 0 → ⊥) → ((x : Source) → IsMember x ss → IsInner s x) → map kind_of_source ss ≡ map kind_of_class (map class_of (map (λ x. operation_of (op_of x)) ss))
sources_kinds s [] nz each = refl
sources_kinds s (x ∷ ss) nz each = ap₂ (λ (k : ℤ) (w : List ℤ). k ∷ w) (inner_kind s x nz (each x (inl refl))) (sources_kinds s ss nz (λ y h. each y (inr h)))

-- where a kind is not as often in both groups, nothing carries
pub other_number : (h : List Operation) (n : ℕ) (ms : List Op) (s : Matrix) (ss : List Source) → IsTask h n (map operation_of ms) → IsStepMatrix h s → AreSourcesOf h s ss → HasOtherNumber (map kind_of_source ss) (map kind_of_member ms) → IsNone s h (pos n) (map operation_of ms)
other_number h n ms s ss t sm so lack = record {
  none = λ c ic p ip ca. lack.differ (
      let m = map operation_of ms in
      let rs = map (λ x. operation_of (op_of x)) ss in
      let k = lack.kind in
      let st = step_facts h s t.symbol_group sm in
      let nz = turn_nonzero n m t.found_group t.primitive h t.symbol_group s st rs so.representatives t.once c ic in
      let same = counts_agree (product c s) p h (pos n) m (map class_of rs) (map class_of m) nz (classes_of h rs so.representatives) (found_classes n m t.found_group t.primitive t.once) ca (is_kind k) in
      ap (number_of_kind k) (sources_kinds s ss (not_zero (determinant s) st.above) so.inner) ∙ (as_total k (map class_of rs) ∙ (same ∙ (sym (as_total k (map class_of m)) ∙ sym (ap (number_of_kind k) (members_kinds ms))))));
}

-- ---- the kinds of a list, and one more

pub one_kind_more : {X : Type 0} (f : X → ℤ) (xs : List X) (i : ℕ) (x : X) (ks js : List ℤ) (k : ℤ) → i < length xs → x ≡ get_or xs i x → js ≡ ks ++ k ∷ [] → k ≡ f x → ks ≡ map f (take i xs) → js ≡ map f (take (i + 1) xs)
one_kind_more f xs i x ks js k below is e h g =
    e ∙ (ap₂ (λ (w : List ℤ) (z : ℤ). w ++ z ∷ []) g h ∙ (sym (map_push f (take i xs) x) ∙ ap (map f) (sym (take_read xs i x below is))))

-- ---- sizes of kinds

abbrev pub times : ℤ → ℤ → ℤ
times x y = x *ℤ y

abbrev pub plus : ℤ → ℤ → ℤ
plus x y = x +ℤ y

-- 9 times the trace
pub trace_size : (w : Matrix) → EachEntry (AtMost 2700000000) w → AtMost (9 * (2700000000 + 2700000000 + 2700000000)) (pos 9 *ℤ ((w.a11 +ℤ w.a22) +ℤ w.a33))
trace_size w h = at_most_mul (natural_size 9 9 (lit≤ tt)) (at_most_add (at_most_add h.a11 h.a22) h.a33)

-- 3 times the determinant
pub turn_size : (w : Matrix) → EachEntry (AtMost 2700000000) w → AtMost (3 * 10 ^ 30) (pos 3 *ℤ determinant w)
turn_size w h =
    let size : AtMost (10 ^ 30) (determinant w) = grown (lit≤ tt) (determinant_size w h) in
    at_most_mul (natural_size 3 3 (lit≤ tt)) size
