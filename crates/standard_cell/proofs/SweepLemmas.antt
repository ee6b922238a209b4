-- Going through triples in order: nothing, one triple, and one region after another.
use Rattle.std.proofs.Common.{◌≡◌, ℕ, ◌+◌, ℤ, pos, ◌<ℤ◌, ◌≤ℤ◌, ◌⊎◌, inl, inr, List, [], ◌∷◌, ◌++◌, map, refl, sym, ap, subst, ◌∙◌, append_assoc, arith, append-nil}
use Rattle.std.proofs.lemmas.Int.{ints}
use Rattle.std.specs.declared.cmp.Ordering.{Ordering}
use Rattle.std.specs.declared.cmp.Ordering.TheVariants.{Less, Equal, Greater}
use Rattle.std.specs.Ordering.{int_cmp, ordering_then}
use Rattle.std.specs.Cmp.Lexicographic.{slice_cmp}
use Rattle.std.proofs.lemmas.Cmp.{int_ranked, int_cmp_total, tied_itself}
use Rattle.lists.specs.Increasing.{IsBelowAll, IsIncreasing, IsMember}
use Rattle.lists.proofs.Members.{member_left, member_right, member_either}
use Rattle.matrix3.specs.Matrices.{coordinates}
use Rattle.crystal_spec.specs.Matrices.{Triple}
use Rattle.crystal_spec.specs.Crystals.{Atom}
use Rattle.crystal_spec.proofs.Entrywise.{triple_same}
use Rattle.crystal.specs.declared.atom.Atom.{Atom as CodeAtom}
use Rattle.crystal.specs.Views.{atom_of}
use Rattle.positions.specs.Positions.{triple}
use Rattle.match_spec.specs.FirstMap.{IsBefore}
use Rattle.standard_cell.specs.StandardCells.{compare_places}
use Rattle.standard_cell.specs.Sweeps.{IsSweep, IsAdded, IsUnder, IsOnLine, IsOnPlane, IsInSpace}
use Rattle.std.proofs.lemmas.List.{map_push}

-- ---- the order of lists of integers

int_less : (a b : ℤ) → a <ℤ b → int_cmp a b ≡ Less
int_less a b h = by (int_cmp a b) refl
  where
    by : (o : Ordering) → o ≡ int_cmp a b → int_cmp a b ≡ Less
    by Less e = sym e
    by Equal e = let k : a ≡ b = int_ranked a b Equal e in absurd (omega (arith, ints))
    by Greater e = let k : b <ℤ a = int_ranked a b Greater e in absurd (omega (arith, ints))

pub before_less : (xs ys : List ℤ) → IsBefore xs ys → slice_cmp int_cmp xs ys ≡ Less
before_less [] ys h = absurd h
before_less (x ∷ xs) [] h = absurd h
before_less (x ∷ xs) (y ∷ ys) (inl h) = ap (λ o. ordering_then o (slice_cmp int_cmp xs ys)) (int_less x y h)
before_less (x ∷ xs) (y ∷ ys) (inr h) =
    ap (λ o. ordering_then o (slice_cmp int_cmp xs ys)) (ap (int_cmp x) (sym h.0) ∙ tied_itself int_cmp_total x) ∙ before_less xs ys h.1

-- ---- increasing lists

below_each : (x : Atom) (ys : List Atom) → ((d : Atom) → IsMember d ys → compare_places x d ≡ Less) → IsBelowAll compare_places x ys
below_each x [] h = tt
below_each x (y ∷ ys) h = (h y (inl refl), below_each x ys (λ d m. h d (inr m)))

below_both : (x : Atom) (xs ys : List Atom) → IsBelowAll compare_places x xs → ((d : Atom) → IsMember d ys → compare_places x d ≡ Less) → IsBelowAll compare_places x (xs ++ ys)
below_both x [] ys h k = below_each x ys k
below_both x (z ∷ xs) ys h k = (h.0, below_both x xs ys h.1 k)

increasing_both : (xs ys : List Atom) → IsIncreasing compare_places xs → IsIncreasing compare_places ys → ((b d : Atom) → IsMember b xs → IsMember d ys → compare_places b d ≡ Less) → IsIncreasing compare_places (xs ++ ys)
increasing_both [] ys h k far = k
increasing_both (x ∷ xs) ys h k far = (below_both x xs ys h.0 (λ d m. far x d (inl refl) m), increasing_both xs ys h.1 k (λ b d i j. far b d (inr i) j))

-- ---- sweeps

pub none_swept : (P : Triple → Atom → Type 0) (R : Triple → Type 0) → ((t : Triple) → R t → ⊥) → IsSweep P R []
none_swept P R none = record { increasing = tt; into = λ b m. absurd m; onto = λ b t r p. absurd (none t r) }

-- one atom at one triple
pub one_swept : (P : Triple → Atom → Type 0) (t : Triple) (b : Atom) → P t b → ((d : Atom) → P t d → d ≡ b) → IsSweep P (λ s. s ≡ t) (b ∷ [])
one_swept P t b p only = record { increasing = (tt, tt); into = into; onto = λ d s e h. inl (only d (subst (λ (x : Triple). P x d) e h)) }
  where
    into : (d : Atom) → IsMember d (b ∷ []) → (s : Triple) × ((s ≡ t) × P s d)
    into d (inl e) = (t, (refl, subst (λ (x : Atom). P t x) (sym e) p))
    into d (inr m) = absurd m

-- no atom there
pub missed_swept : (P : Triple → Atom → Type 0) (t : Triple) → ((d : Atom) → P t d → ⊥) → IsSweep P (λ s. s ≡ t) []
missed_swept P t none = record { increasing = tt; into = λ b m. absurd m; onto = λ d s e h. absurd (none d (subst (λ (x : Triple). P x d) e h)) }

-- one region and then another
pub both_swept : (P : Triple → Atom → Type 0) (R S U : Triple → Type 0) (xs ys : List Atom) → ((t s : Triple) (b d : Atom) → R t → S s → P t b → P s d → compare_places b d ≡ Less) → ((t : Triple) → R t → U t) → ((t : Triple) → S t → U t) → ((t : Triple) → U t → R t ⊎ S t) →
    IsSweep P R xs → IsSweep P S ys → IsSweep P U (xs ++ ys)
both_swept P R S U xs ys order left right either h k = record {
  increasing = increasing_both xs ys h.increasing k.increasing (λ b d i j. let m = h.into b i in let n = k.into d j in order m.0 n.0 b d m.1.0 n.1.0 m.1.1 n.1.1);
  into = λ b m. into b (member_either b xs ys m);
  onto = λ b t u p. onto b t p (either t u);
}
  where
    into : (b : Atom) → IsMember b xs ⊎ IsMember b ys → (t : Triple) × (U t × P t b)
    into b (inl m) = let r = h.into b m in (r.0, (left r.0 r.1.0, r.1.1))
    into b (inr m) = let r = k.into b m in (r.0, (right r.0 r.1.0, r.1.1))

    onto : (b : Atom) (t : Triple) → P t b → R t ⊎ S t → IsMember b (xs ++ ys)
    onto b t p (inl r) = member_left b xs ys (h.onto b t r p)
    onto b t p (inr s) = member_right b xs ys (k.onto b t s p)

-- ---- added atoms

pub none_added : (P : Triple → Atom → Type 0) (R : Triple → Type 0) (before : List CodeAtom) → ((t : Triple) → R t → ⊥) → IsAdded before before P R
none_added P R before none = record { block = []; is = sym (append-nil (map atom_of before)); sweep = none_swept P R none }

pub missed_added : (P : Triple → Atom → Type 0) (t : Triple) (before : List CodeAtom) → ((d : Atom) → P t d → ⊥) → IsAdded before before P (λ s. s ≡ t)
missed_added P t before none = record { block = []; is = sym (append-nil (map atom_of before)); sweep = missed_swept P t none }

pub one_added : (P : Triple → Atom → Type 0) (t : Triple) (before after : List CodeAtom) (b : CodeAtom) → after ≡ before ++ b ∷ [] → P t (atom_of b) → ((d : Atom) → P t d → d ≡ atom_of b) → IsAdded before after P (λ s. s ≡ t)
one_added P t before after b is p only = record { block = atom_of b ∷ []; is = ap (map atom_of) is ∙ map_push atom_of before b; sweep = one_swept P t (atom_of b) p only }

pub both_added : (P : Triple → Atom → Type 0) (R S U : Triple → Type 0) (before between after : List CodeAtom) → ((t s : Triple) (b d : Atom) → R t → S s → P t b → P s d → compare_places b d ≡ Less) → ((t : Triple) → R t → U t) → ((t : Triple) → S t → U t) → ((t : Triple) → U t → R t ⊎ S t) →
    IsAdded before between P R → IsAdded between after P S → IsAdded before after P U
both_added P R S U before between after order left right either h k = record {
  block = h.block ++ k.block;
  is = k.is ∙ ap (λ (l : List Atom). l ++ k.block) h.is ∙ append_assoc (map atom_of before) h.block k.block;
  sweep = both_swept P R S U h.block k.block order left right either h.sweep k.sweep;
}

-- ---- lines, planes and the space

under_none : (z : ℤ) → IsUnder 0 z → ⊥
under_none z h = let l = h.low in let k = h.high in omega (arith, ints)

under_more : (k : ℕ) (z : ℤ) → IsUnder k z → IsUnder (k + 1) z
under_more k z h = let l = h.low in let r = h.high in record { low = l; high = omega (arith, ints) }

under_last : (k : ℕ) (z : ℤ) → z ≡ pos k → IsUnder (k + 1) z
under_last k z e = record { low = omega (arith, ints); high = omega (arith, ints) }

under_either : (k : ℕ) (z : ℤ) → IsUnder (k + 1) z → IsUnder k z ⊎ (z ≡ pos k)
under_either k z h = by (split z (pos k))
  where
    split : (a b : ℤ) → (a <ℤ b) ⊎ (b ≤ℤ a)
    split a b = by_order (int_cmp a b) refl
      where
        by_order : (o : Ordering) → o ≡ int_cmp a b → (a <ℤ b) ⊎ (b ≤ℤ a)
        by_order Less e = let r : a <ℤ b = int_ranked a b Less e in inl r
        by_order Equal e = let r : a ≡ b = int_ranked a b Equal e in inr (omega (arith, ints))
        by_order Greater e = let r : b <ℤ a = int_ranked a b Greater e in inr (omega (arith, ints))

    by : (z <ℤ pos k) ⊎ (pos k ≤ℤ z) → IsUnder k z ⊎ (z ≡ pos k)
    by (inl l) = inl (record { low = h.low; high = l })
    by (inr l) = let r = h.high in inr (omega (arith, ints))

-- two triples in order have atoms in order
abbrev pub IsOrdered : (Triple → Atom → Type 0) → Type 0
IsOrdered P = (t s : Triple) (b d : Atom) → IsBefore (coordinates t) (coordinates s) → P t b → P s d → compare_places b d ≡ Less

pub line_none : (P : Triple → Atom → Type 0) (a b : ℕ) (before : List CodeAtom) → IsAdded before before P (IsOnLine a b 0)
line_none P a b before = none_added P (IsOnLine a b 0) before (λ t h. under_none t.z h.z)

pub line_more : (P : Triple → Atom → Type 0) → IsOrdered P → (a b k : ℕ) (before between after : List CodeAtom) → IsAdded before between P (IsOnLine a b k) → IsAdded between after P (λ s. s ≡ triple (pos a) (pos b) (pos k)) → IsAdded before after P (IsOnLine a b (k + 1))
line_more P ordered a b k before between after h g = both_added P (IsOnLine a b k) (λ s. s ≡ triple (pos a) (pos b) (pos k)) (IsOnLine a b (k + 1)) before between after order (λ t r. record { x = r.x; y = r.y; z = under_more k t.z r.z }) right either h g
  where
    order : (t s : Triple) (x y : Atom) → IsOnLine a b k t → s ≡ triple (pos a) (pos b) (pos k) → P t x → P s y → compare_places x y ≡ Less
    order t s x y r e p q = ordered t s x y (inr (r.x ∙ sym (ap (λ (v : Triple). v.x) e), inr (r.y ∙ sym (ap (λ (v : Triple). v.y) e), inl (subst (λ (w : ℤ). t.z <ℤ w) (sym (ap (λ (v : Triple). v.z) e)) r.z.high)))) p q

    right : (t : Triple) → t ≡ triple (pos a) (pos b) (pos k) → IsOnLine a b (k + 1) t
    right t e = record { x = ap (λ (v : Triple). v.x) e; y = ap (λ (v : Triple). v.y) e; z = under_last k t.z (ap (λ (v : Triple). v.z) e) }

    either : (t : Triple) → IsOnLine a b (k + 1) t → IsOnLine a b k t ⊎ (t ≡ triple (pos a) (pos b) (pos k))
    either t r = by (under_either k t.z r.z)
      where
        by : IsUnder k t.z ⊎ (t.z ≡ pos k) → IsOnLine a b k t ⊎ (t ≡ triple (pos a) (pos b) (pos k))
        by (inl u) = inl (record { x = r.x; y = r.y; z = u })
        by (inr e) = inr (triple_same r.x r.y e)

pub plane_none : (P : Triple → Atom → Type 0) (h a : ℕ) (before : List CodeAtom) → IsAdded before before P (IsOnPlane h a 0)
plane_none P h a before = none_added P (IsOnPlane h a 0) before (λ t r. under_none t.y r.y)

pub plane_more : (P : Triple → Atom → Type 0) → IsOrdered P → (h a k : ℕ) (before between after : List CodeAtom) → IsAdded before between P (IsOnPlane h a k) → IsAdded between after P (IsOnLine a k h) → IsAdded before after P (IsOnPlane h a (k + 1))
plane_more P ordered h a k before between after f g = both_added P (IsOnPlane h a k) (IsOnLine a k h) (IsOnPlane h a (k + 1)) before between after order (λ t r. record { x = r.x; y = under_more k t.y r.y; z = r.z }) (λ t r. record { x = r.x; y = under_last k t.y r.y; z = r.z }) either f g
  where
    order : (t s : Triple) (x y : Atom) → IsOnPlane h a k t → IsOnLine a k h s → P t x → P s y → compare_places x y ≡ Less
    order t s x y r e p q = ordered t s x y (inr (r.x ∙ sym e.x, inl (subst (λ (w : ℤ). t.y <ℤ w) (sym e.y) r.y.high))) p q

    either : (t : Triple) → IsOnPlane h a (k + 1) t → IsOnPlane h a k t ⊎ IsOnLine a k h t
    either t r = by (under_either k t.y r.y)
      where
        by : IsUnder k t.y ⊎ (t.y ≡ pos k) → IsOnPlane h a k t ⊎ IsOnLine a k h t
        by (inl u) = inl (record { x = r.x; y = u; z = r.z })
        by (inr e) = inr (record { x = r.x; y = e; z = r.z })

pub space_none : (P : Triple → Atom → Type 0) (h : ℕ) (before : List CodeAtom) → IsAdded before before P (IsInSpace h 0)
space_none P h before = none_added P (IsInSpace h 0) before (λ t r. under_none t.x r.x)

pub space_more : (P : Triple → Atom → Type 0) → IsOrdered P → (h k : ℕ) (before between after : List CodeAtom) → IsAdded before between P (IsInSpace h k) → IsAdded between after P (IsOnPlane h k h) → IsAdded before after P (IsInSpace h (k + 1))
space_more P ordered h k before between after f g = both_added P (IsInSpace h k) (IsOnPlane h k h) (IsInSpace h (k + 1)) before between after order (λ t r. record { x = under_more k t.x r.x; y = r.y; z = r.z }) (λ t r. record { x = under_last k t.x r.x; y = r.y; z = r.z }) either f g
  where
    order : (t s : Triple) (x y : Atom) → IsInSpace h k t → IsOnPlane h k h s → P t x → P s y → compare_places x y ≡ Less
    order t s x y r e p q = ordered t s x y (inl (subst (λ (w : ℤ). t.x <ℤ w) (sym e.x) r.x.high)) p q

    either : (t : Triple) → IsInSpace h (k + 1) t → IsInSpace h k t ⊎ IsOnPlane h k h t
    either t r = by (under_either k t.x r.x)
      where
        by : IsUnder k t.x ⊎ (t.x ≡ pos k) → IsInSpace h k t ⊎ IsOnPlane h k h t
        by (inl u) = inl (record { x = u; y = r.y; z = r.z })
        by (inr e) = inr (record { x = e; y = r.y; z = r.z })
