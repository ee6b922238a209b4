-- One more atom for the reader.
use Rattle.std.proofs.Common.{◌≡◌, ℕ, ◌<◌, ◌≤◌, Bool, true, false, [], ◌∷◌, ◌++◌, map, refl, sym, ap, subst, ◌∙◌, arith, length, Option, Some, None}
use Rattle.cell_text.specs.declared.atom_line.AtomLine.{AtomLine as CodeAtom}
use Rattle.cell_text.specs.declared.fault.CellFault.{CellFault}
use Rattle.cell_text.specs.declared.fault.CellFault.TheVariants.{PositionRange, MomentRange, SamePlace}
use Rattle.cell_text.specs.declared.reader.Reader.TheInside.{Inside}
use Rattle.std.proofs.Common.{List}
use Rattle.std.specs.Prelude.{not, ◌+◌, ◌⊎◌, ◌||◌, ◌==◌, if◌then◌else◌}
use Rattle.std.specs.List.{list_all}
use Rattle.std.proofs.Common.{inl, inr}
use Rattle.std.proofs.lemmas.Bool.{and_parts, or_cases, eqb-true}
use Rattle.std.proofs.lemmas.List.{map-append}
use Rattle.std.proofs.lemmas.List.Folds.{list_all-append}
use Rattle.crystal_spec.specs.declared.MomentKind.{MomentKind}
use Rattle.plain_text.specs.NumberWords.{common_denominator}
use Rattle.plain_text.specs.FirstFaults.{when, or_else}
use Rattle.numbers.specs.Gcd.{lcm}
use Rattle.cell_text.specs.Entries.{AtomLine, State, kind_of, values, atom_line_of, moments, positions, is_same_place}
use Rattle.cell_text.specs.Rules.{same_place, same_place_from, place_fault, are_numbers_of}
use Rattle.cell_text.specs.Views.{atom_view, AreApart, IsOfScalar, AreOfKind}
use Rattle.plain_text.specs.Views.{Grown}
use Rattle.cell_text.specs.Readers.{state_of, kind_or_default, IsReader}
use Rattle.cell_text.proofs.Atoms.{is_billion_by, positions_more, moments_more, positions_fit, positions_past, moments_are, moments_past, faults-position, faults-moment, faults-place}

-- the reader's state, and an atom that fits with the positions so far
pub range_held : (r : Inside) (s : State) (a : AtomLine) (k : ℕ) → state_of r ≡ s → (is_billion_by k (moments (map atom_view r.atoms.items ++ a ∷ [])) ≡ is_billion_by k (moments (s.held.atoms ++ a ∷ [])))
range_held r s a k v = ap (λ (t : State). is_billion_by k (moments (t.held.atoms ++ a ∷ []))) v

pub place-position : (r : Inside) (s : State) (a : CodeAtom) → IsReader r → state_of r ≡ s → 1000000 < lcm (lcm (lcm r.n a.position.a.den) a.position.b.den) a.position.c.den → place_fault s.held (atom_view a) ≡ Some PositionRange
place-position r s a h v over =
    subst (λ (t : State). place_fault t.held (atom_view a) ≡ Some PositionRange) v (faults-position (state_of r).held (atom_view a) (positions_past (map atom_view r.atoms.items) (atom_view a) r.n h.n_is over))

-- after the positions fit
pub record Fits (r : Inside) (a : CodeAtom) (n k : ℕ) : Type 0 where
  pub n_is : Grown r.n a.position.a.den a.position.b.den a.position.c.den n
  pub n_within : n ≤ 1000000
  pub k_is : Grown r.k a.moment.a.den a.moment.b.den a.moment.c.den k
  pub k_within : k ≤ 1000000

pub place-moment : (r : Inside) (s : State) (a : CodeAtom) (n : ℕ) → IsReader r → state_of r ≡ s → Grown r.n a.position.a.den a.position.b.den a.position.c.den n → n ≤ 1000000 → 1000000 < lcm (lcm (lcm r.k a.moment.a.den) a.moment.b.den) a.moment.c.den → place_fault s.held (atom_view a) ≡ Some MomentRange
place-moment r s a n h v g w over =
    subst (λ (t : State). place_fault t.held (atom_view a) ≡ Some MomentRange) v (faults-moment (state_of r).held (atom_view a) (positions_fit (map atom_view r.atoms.items) (atom_view a) r.n h.n_is (rw (← g.is) w)) (moments_past (map atom_view r.atoms.items) (atom_view a) r.k h.k_is over))

pub place-wide : (r : Inside) (s : State) (a : CodeAtom) (n k : ℕ) → IsReader r → state_of r ≡ s → Fits r a n k → is_billion_by k (moments (s.held.atoms ++ atom_view a ∷ [])) ≡ false → place_fault s.held (atom_view a) ≡ Some MomentRange
place-wide r s a n k h v f wide =
    subst (λ (t : State). place_fault t.held (atom_view a) ≡ Some MomentRange) v (faults-moment (state_of r).held (atom_view a)
    (positions_fit (map atom_view r.atoms.items) (atom_view a) r.n h.n_is (rw (← f.n_is.is) f.n_within))
    (moments_are (map atom_view r.atoms.items) (atom_view a) r.k k false h.k_is f.k_is.is f.k_within (sym (range_held r s (atom_view a) k v ∙ wide))))

pub place-rest : (r : Inside) (s : State) (a : CodeAtom) (n k : ℕ) (fault : Option CellFault) → IsReader r → state_of r ≡ s → Fits r a n k → is_billion_by k (moments (s.held.atoms ++ atom_view a ∷ [])) ≡ true → same_place (map atom_view r.atoms.items) (atom_view a) ≡ fault → place_fault s.held (atom_view a) ≡ fault
place-rest r s a n k fault h v f fit same =
    subst (λ (t : State). place_fault t.held (atom_view a) ≡ fault) v (faults-place (state_of r).held (atom_view a) fault
    (positions_fit (map atom_view r.atoms.items) (atom_view a) r.n h.n_is (rw (← f.n_is.is) f.n_within))
    (moments_are (map atom_view r.atoms.items) (atom_view a) r.k k true h.k_is f.k_is.is f.k_within (sym (range_held r s (atom_view a) k v ∙ fit))) same)

pub placed_n : (xs ys : List CodeAtom) (a : CodeAtom) (old n : ℕ) → old ≡ common_denominator (positions (map atom_view xs)) → Grown old a.position.a.den a.position.b.den a.position.c.den n → ys ≡ xs ++ a ∷ [] → n ≡ common_denominator (positions (map atom_view ys))
placed_n xs ys a old n e g same =
    let there : common_denominator (positions (map atom_view ys)) ≡ common_denominator (positions (map atom_view xs ++ atom_view a ∷ [])) = ap (λ (zs : List AtomLine). common_denominator (positions zs)) (ap (map atom_view) same ∙ map-append atom_view xs (a ∷ [])) in
    g.is ∙ sym (there ∙ positions_more (map atom_view xs) (atom_view a) ∙ rw (← e) refl)

pub placed_k : (xs ys : List CodeAtom) (a : CodeAtom) (old k : ℕ) → old ≡ common_denominator (moments (map atom_view xs)) → Grown old a.moment.a.den a.moment.b.den a.moment.c.den k → ys ≡ xs ++ a ∷ [] → k ≡ common_denominator (moments (map atom_view ys))
placed_k xs ys a old k e g same =
    let there : common_denominator (moments (map atom_view ys)) ≡ common_denominator (moments (map atom_view xs ++ atom_view a ∷ [])) = ap (λ (zs : List AtomLine). common_denominator (moments zs)) (ap (map atom_view) same ∙ map-append atom_view xs (a ∷ [])) in
    g.is ∙ sym (there ∙ moments_more (map atom_view xs) (atom_view a) ∙ rw (← e) refl)

pub placed_moments : (r : Inside) (s : State) (ys : List CodeAtom) (a : CodeAtom) (k : ℕ) → state_of r ≡ s → is_billion_by k (moments (s.held.atoms ++ atom_view a ∷ [])) ≡ true → ys ≡ r.atoms.items ++ a ∷ [] → is_billion_by k (moments (map atom_view ys)) ≡ true
placed_moments r s ys a k v h same =
    ap (λ (zs : List AtomLine). is_billion_by k (moments zs)) (ap (map atom_view) same ∙ map-append atom_view r.atoms.items (a ∷ [])) ∙ range_held r s (atom_view a) k v ∙ h

-- ---- no two at one position

split : (t : Bool) (fault : CellFault) (rest : Option CellFault) → or_else (when t fault) rest ≡ None → (t ≡ false) × (rest ≡ None)
split true fault rest e = absurd cc
split false fault rest e = (refl, e)

none_same : (i j : ℕ) (held : List AtomLine) (b : AtomLine) → same_place_from i j held b ≡ None → list_all (λ a. not (is_same_place a b)) held ≡ true
none_same i j [] b e = refl
none_same i j (a ∷ held) b e =
    let p = split (is_same_place a b) (SamePlace i j) (same_place_from (i + 1) j held b) e in
    rw p.0 (none_same (i + 1) j held b p.1)

all_more : (test : AtomLine → Bool) (xs : List AtomLine) (b : AtomLine) → list_all test xs ≡ true → test b ≡ true → list_all test (xs ++ b ∷ []) ≡ true
all_more test xs b h e = rw (list_all-append test xs (b ∷ []), h, e) refl

pub apart_more : (xs : List AtomLine) (b : AtomLine) → AreApart xs → list_all (λ a. not (is_same_place a b)) xs ≡ true → AreApart (xs ++ b ∷ [])
apart_more [] b h e = (refl, tt)
apart_more (a ∷ xs) b h e =
    let p = and_parts (not (is_same_place a b)) _ e in
    (all_more (λ c. not (is_same_place a c)) xs b h.0 p.0, apart_more xs b h.1 p.1)

pub placed_apart : (xs ys : List CodeAtom) (a : CodeAtom) → AreApart (map atom_view xs) → same_place (map atom_view xs) (atom_view a) ≡ None → ys ≡ xs ++ a ∷ [] → AreApart (map atom_view ys)
unfolding same_place
placed_apart xs ys a h e same =
    subst AreApart (sym (ap (map atom_view) same ∙ map-append atom_view xs (a ∷ []))) (apart_more (map atom_view xs) (atom_view a) h (none_same 1 _ (map atom_view xs) (atom_view a) e))

-- ---- moments of one kind

pub kind_more : (kind : MomentKind) (xs : List AtomLine) (b : AtomLine) → AreOfKind kind xs → (kind.vector ≡ false → IsOfScalar b) → AreOfKind kind (xs ++ b ∷ [])
kind_more kind [] b h e = (e, tt)
kind_more kind (a ∷ xs) b h e = (h.0, kind_more kind xs b h.1 e)

pub placed_kind : (r : Inside) (s : State) (ys : List CodeAtom) (a : CodeAtom) → state_of r ≡ s → AreOfKind (kind_or_default r.kind) (map atom_view r.atoms.items) → ((kind_of s.held).vector ≡ false → IsOfScalar (atom_view a)) → ys ≡ r.atoms.items ++ a ∷ [] → AreOfKind (kind_or_default r.kind) (map atom_view ys)
placed_kind r s ys a v h e same =
    let here : (kind_or_default r.kind).vector ≡ false → IsOfScalar (atom_view a) = subst (λ (t : State). (kind_of t.held).vector ≡ false → IsOfScalar (atom_view a)) (sym v) e in
    subst (AreOfKind (kind_or_default r.kind)) (sym (ap (map atom_view) same ∙ map-append atom_view r.atoms.items (a ∷ []))) (kind_more (kind_or_default r.kind) (map atom_view r.atoms.items) (atom_view a) h here)

-- where there is no atom, all are
pub none_of_kind : (kind : MomentKind) (xs : List CodeAtom) → length xs ≤ 0 → AreOfKind kind (map atom_view xs)
none_of_kind kind [] h = tt
none_of_kind kind (x ∷ xs) h = absurd (omega arith)

-- numbers of an atom of scalars
few_numbers : (kind : MomentKind) (count : ℕ) → are_numbers_of kind count ≡ true → kind.vector ≡ false → count ≤ 4
few_numbers kind count e scalar = by (or_cases (count == 3) (count == 4) (subst (λ (v : Bool). (count == 3 || count == (if v then 6 else 4)) ≡ true) scalar e))
  where
    by : (count == 3) ≡ true ⊎ (count == 4) ≡ true → count ≤ 4
    by (inl a) = omega (arith, eqb-true count 3 a)
    by (inr b) = omega (arith, eqb-true count 4 b)

pub scalar_numbers : (kind : MomentKind) (name : List ℕ) (ws : List (List ℕ)) → are_numbers_of kind (length ws) ≡ true → kind.vector ≡ false → IsOfScalar (atom_line_of name (values ws))
scalar_numbers kind name ws e scalar = by ws (few_numbers kind (length ws) e scalar)
  where
    by : (us : List (List ℕ)) → length us ≤ 4 → IsOfScalar (atom_line_of name (values us))
    by [] h = (refl, refl)
    by (t ∷ []) h = (refl, refl)
    by (t ∷ u ∷ []) h = (refl, refl)
    by (t ∷ u ∷ v ∷ []) h = (refl, refl)
    by (t ∷ u ∷ v ∷ x ∷ []) h = (refl, refl)
    by (t ∷ u ∷ v ∷ x ∷ y ∷ us) h = absurd (omega arith)
