-- Moments and positions of lists of atoms.
use Rattle.std.proofs.Common.{◌≡◌, ℕ, zero, suc, ◌+◌, ◌<◌, ◌≤◌, Bool, true, false, List, [], ◌∷◌, ◌++◌, length, get_or, drop, map, refl, sym, ap, ◌∙◌, arith, add-one}
use Rattle.std.specs.Prelude.{◌&&◌, nat_le}
use Rattle.std.specs.List.{list_all}
use Rattle.std.proofs.lemmas.List.{drop_all}
use Rattle.std.proofs.lemmas.List.Folds.{list_all-append}
use Rattle.std.proofs.lemmas.List.Concat.{flat_map-append}
use Rattle.numbers.specs.Fraction.{Fraction}
use Rattle.plain_text.specs.NumberWords.{denominator_of, scaled, common_denominator}
use Rattle.numbers.specs.Gcd.{lcm}
use Rattle.std.proofs.lemmas.Bool.{le-leb, lt-leb}
use Rattle.std.proofs.Common.{Option, Some, None}
use Rattle.cell_text.specs.declared.atom_line.AtomLine.{AtomLine as CodeAtom}
use Rattle.cell_text.specs.declared.fault.CellFault.{CellFault}
use Rattle.cell_text.specs.declared.fault.CellFault.TheVariants.{PositionRange, MomentRange}
use Rattle.cell_text.specs.Views.{atom_view}
use Rattle.cell_text.specs.Entries.{AtomLine, Contents, moments, positions, is_billion, are_positions_in_range, are_moments_in_range}
use Rattle.cell_text.specs.Rules.{same_place, place_fault}
use Rattle.plain_text.proofs.DigitLemmas.{fold-append}

abbrev pub is_billion_by : ℕ → List Fraction → Bool
is_billion_by k ms = list_all (λ m. is_billion (scaled k m)) ms

moments-append : (xs ys : List AtomLine) → moments (xs ++ ys) ≡ moments xs ++ moments ys
unfolding moments
moments-append xs ys = flat_map-append (λ (a : AtomLine). a.ma ∷ a.mb ∷ a.mc ∷ []) xs ys

positions-append : (xs ys : List AtomLine) → positions (xs ++ ys) ≡ positions xs ++ positions ys
unfolding positions
positions-append xs ys = flat_map-append (λ (a : AtomLine). a.x ∷ a.y ∷ a.z ∷ []) xs ys

pub range-append : (k : ℕ) (xs ys : List AtomLine) → is_billion_by k (moments (xs ++ ys)) ≡ (is_billion_by k (moments xs) && is_billion_by k (moments ys))
range-append k xs ys = rw (moments-append xs ys) (list_all-append _ (moments xs) (moments ys))

pub range-cons : (k : ℕ) (x : AtomLine) (ys : List AtomLine) → is_billion_by k (moments (x ∷ ys)) ≡ (is_billion_by k (moments (x ∷ [])) && is_billion_by k (moments ys))
range-cons k x ys = range-append k (x ∷ []) ys

-- one more atom
pub positions_more : (xs : List AtomLine) (a : AtomLine) → common_denominator (positions (xs ++ a ∷ [])) ≡ lcm (lcm (lcm (common_denominator (positions xs)) (denominator_of a.x)) (denominator_of a.y)) (denominator_of a.z)
unfolding positions
positions_more xs a = ap common_denominator (positions-append xs (a ∷ [])) ∙ fold-append (λ (d : ℕ) (f : Fraction). lcm d (denominator_of f)) 1 (positions xs) (positions (a ∷ []))

pub moments_more : (xs : List AtomLine) (a : AtomLine) → common_denominator (moments (xs ++ a ∷ [])) ≡ lcm (lcm (lcm (common_denominator (moments xs)) (denominator_of a.ma)) (denominator_of a.mb)) (denominator_of a.mc)
unfolding moments
moments_more xs a = ap common_denominator (moments-append xs (a ∷ [])) ∙ fold-append (λ (d : ℕ) (f : Fraction). lcm d (denominator_of f)) 1 (moments xs) (moments (a ∷ []))

-- ---- atoms of the code

pub range_at : (k : ℕ) (xs : List CodeAtom) (i : ℕ) (x : CodeAtom) → i < length xs → get_or xs i x ≡ x → is_billion_by k (moments (map atom_view (drop i xs))) ≡ (is_billion_by k (moments (atom_view x ∷ [])) && is_billion_by k (moments (map atom_view (drop (i + 1) xs))))
range_at k [] i x h e = absurd (omega arith)
range_at k (y ∷ ys) zero x h e = range-cons k (atom_view y) (map atom_view ys) ∙ ap (λ (z : CodeAtom). is_billion_by k (moments (atom_view z ∷ [])) && is_billion_by k (moments (map atom_view ys))) e
range_at k (y ∷ ys) (suc i) x h e = range_at k ys i x (omega arith) e ∙ rw (add-one (suc i), add-one i) refl

pub range_stop : (k : ℕ) (xs : List CodeAtom) (i : ℕ) (x : CodeAtom) (total : Bool) → i < length xs → get_or xs i x ≡ x → is_billion_by k (moments (map atom_view (drop i xs))) ≡ total → is_billion_by k (moments (atom_view x ∷ [])) ≡ false → false ≡ total
range_stop k xs i x total h e so_far here = (rw here refl ∙ sym (range_at k xs i x h e)) ∙ so_far

pub range_go : (k : ℕ) (xs : List CodeAtom) (i : ℕ) (x : CodeAtom) (total : Bool) → i < length xs → get_or xs i x ≡ x → is_billion_by k (moments (map atom_view (drop i xs))) ≡ total → is_billion_by k (moments (atom_view x ∷ [])) ≡ true → is_billion_by k (moments (map atom_view (drop (i + 1) xs))) ≡ total
range_go k xs i x total h e so_far here = (rw here refl ∙ sym (range_at k xs i x h e)) ∙ so_far

pub range_end : (k : ℕ) (xs : List CodeAtom) (i : ℕ) (total : Bool) → length xs ≤ i → is_billion_by k (moments (map atom_view (drop i xs))) ≡ total → true ≡ total
unfolding moments
range_end k xs i total h e = rw (drop_all i xs h) at e

-- no answer of a test is both
pub not_both : {X : Type 0} (b : Bool) → b ≡ true → b ≡ false → X
not_both b p q = absurd (cc (p, q))

-- ---- the tests of the rules

pub positions_fit : (xs : List AtomLine) (a : AtomLine) (n : ℕ) → n ≡ common_denominator (positions xs) → lcm (lcm (lcm n (denominator_of a.x)) (denominator_of a.y)) (denominator_of a.z) ≤ 1000000 → are_positions_in_range (xs ++ a ∷ []) ≡ true
unfolding are_positions_in_range
positions_fit xs a n e h = rw (positions_more xs a, ← e) (le-leb _ 1000000 h)

pub positions_past : (xs : List AtomLine) (a : AtomLine) (n : ℕ) → n ≡ common_denominator (positions xs) → 1000000 < lcm (lcm (lcm n (denominator_of a.x)) (denominator_of a.y)) (denominator_of a.z) → are_positions_in_range (xs ++ a ∷ []) ≡ false
unfolding are_positions_in_range
positions_past xs a n e h = rw (positions_more xs a, ← e) (lt-leb _ 1000000 h)

pub moments_are : (xs : List AtomLine) (a : AtomLine) (k k' : ℕ) (b : Bool) → k ≡ common_denominator (moments xs) → k' ≡ lcm (lcm (lcm k (denominator_of a.ma)) (denominator_of a.mb)) (denominator_of a.mc) → k' ≤ 1000000 → b ≡ is_billion_by k' (moments (xs ++ a ∷ [])) → are_moments_in_range (xs ++ a ∷ []) ≡ b
unfolding are_moments_in_range
moments_are xs a k k' b e f h g =
    let all : common_denominator (moments (xs ++ a ∷ [])) ≡ k' = moments_more xs a ∙ rw (← e) (sym f) in
    rw (all, le-leb k' 1000000 h) (sym g)

pub moments_past : (xs : List AtomLine) (a : AtomLine) (k : ℕ) → k ≡ common_denominator (moments xs) → 1000000 < lcm (lcm (lcm k (denominator_of a.ma)) (denominator_of a.mb)) (denominator_of a.mc) → are_moments_in_range (xs ++ a ∷ []) ≡ false
unfolding are_moments_in_range
moments_past xs a k e h =
    let past : nat_le (common_denominator (moments (xs ++ a ∷ []))) 1000000 ≡ false = rw (moments_more xs a, ← e) (lt-leb _ 1000000 h) in
    rw past refl

pub faults-position : (held : Contents) (a : AtomLine) → are_positions_in_range (held.atoms ++ a ∷ []) ≡ false → place_fault held a ≡ Some PositionRange
unfolding place_fault
faults-position held a e = rw e refl

pub faults-moment : (held : Contents) (a : AtomLine) → are_positions_in_range (held.atoms ++ a ∷ []) ≡ true → are_moments_in_range (held.atoms ++ a ∷ []) ≡ false → place_fault held a ≡ Some MomentRange
unfolding place_fault
faults-moment held a e f = rw (e, f) refl

pub faults-place : (held : Contents) (a : AtomLine) (fault : Option CellFault) → are_positions_in_range (held.atoms ++ a ∷ []) ≡ true → are_moments_in_range (held.atoms ++ a ∷ []) ≡ true → same_place held.atoms a ≡ fault → place_fault held a ≡ fault
unfolding place_fault
faults-place held a None e f g = rw (e, f, g) refl
faults-place held a (Some fault) e f g = rw (e, f, g) refl
