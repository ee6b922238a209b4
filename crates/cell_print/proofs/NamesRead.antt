-- The names of a printed cell, read back: species are numbered by first use, and names differ.
use Rattle.std.proofs.Common.{◌≡◌, ℕ, zero, suc, ◌<◌, ◌≤◌, true, false, List, [], ◌∷◌, ◌++◌, length, take, get_or, inl, inr, refl, sym, ap, subst, ◌∙◌, arith}
use Rattle.std.specs.List.{list_any}
use Rattle.std.specs.Cmp.Lexicographic.{same_text}
use Rattle.std.proofs.lemmas.Bool.{eq-eqb, or_left, or_right, or_from, false_from_ne_true}
use Rattle.std.proofs.Math.Seq.{take-suc, take-length}
use Rattle.lists.specs.Increasing.{IsMember, IsDistinct}
use Rattle.lists.proofs.Members.{member_index}
use Rattle.crystal_spec.specs.Crystals.{Atom}
use Rattle.crystal.specs.Numbering.{AreByFirstUse}
use Rattle.cell_text.specs.Lines.{same_word}
use Rattle.cell_text.specs.CellFile.{with_name, number_of}
use Rattle.cell_text.proofs.NameLemmas.{with-old, with-new}

same_self : (w : List ℕ) → same_word w w ≡ true
same_self [] = refl
same_self (b ∷ w) = rw (eq-eqb b b refl, same_self w) refl

-- a later name is not the first
not_first : (x : List ℕ) (xs : List (List ℕ)) (i : ℕ) → (IsMember x xs → ⊥) → i < length xs → same_word (get_or xs i []) x ≡ false
not_first x xs i new h =
    false_from_ne_true (same_word (get_or xs i []) x) (λ e. new (subst (λ (w : List ℕ). IsMember w xs) (same_text (get_or xs i []) x (sym e)) (member_index xs i [] h)))

used_before : (names : List (List ℕ)) (used i : ℕ) → i < used → i < length names → list_any (same_word (get_or names i [])) (take used names) ≡ true
used_before [] used i h below = absurd (omega arith)
used_before (x ∷ xs) zero i h below = absurd (omega arith)
used_before (x ∷ xs) (suc used) zero h below = or_left (same_word x x) (list_any (same_word x) (take used xs)) (same_self x)
used_before (x ∷ xs) (suc used) (suc i) h below = or_right (same_word (get_or xs i []) x) _ (used_before xs used i (omega arith) (omega arith))

not_before : (names : List (List ℕ)) (used i : ℕ) → IsDistinct names → used ≤ i → i < length names → list_any (same_word (get_or names i [])) (take used names) ≡ false
not_before [] used i d h below = absurd (omega arith)
not_before (x ∷ xs) zero i d h below = refl
not_before (x ∷ xs) (suc used) zero d h below = absurd (omega arith)
not_before (x ∷ xs) (suc used) (suc i) d h below =
    or_from (same_word (get_or xs i []) x) (list_any (same_word (get_or xs i [])) (take used xs)) (not_first x xs i d.0 (omega arith)) (not_before xs used i d.1 (omega arith) (omega arith))

-- A name's number is its place.
pub number-of_name : (names : List (List ℕ)) (i : ℕ) → IsDistinct names → i < length names → number_of names (get_or names i []) ≡ i
number-of_name [] i d h = absurd (omega arith)
number-of_name (x ∷ xs) zero d h = rw (same_self x) refl
number-of_name (x ∷ xs) (suc i) d h =
    let deeper = number-of_name xs i d.1 (omega arith) in
    rw (not_first x xs i d.0 (omega arith)) (omega (arith, deeper))

-- the names of so many atoms, behind these
abbrev pub names_behind : List (List ℕ) → List (List ℕ) → List Atom → List (List ℕ)
names_behind names so_far [] = so_far
names_behind names so_far (s ∷ atoms) = names_behind names (with_name so_far (get_or names s.species [])) atoms

-- the species have numbers below the total
abbrev pub AreBelow : ℕ → List Atom → Type 0
AreBelow total [] = Unit {0}
AreBelow total (s ∷ atoms) = (s.species < total) × AreBelow total atoms

-- The names in the order of their first use are the names.
pub names-by_first_use : (names : List (List ℕ)) (used : ℕ) (atoms : List Atom) → IsDistinct names → AreBelow (length names) atoms → AreByFirstUse used (length names) atoms → names_behind names (take used names) atoms ≡ names
names-by_first_use names used [] d below h = ap (λ (n : ℕ). take n names) h ∙ take-length names
names-by_first_use names used (s ∷ atoms) d below (inl h) =
    let same : with_name (take used names) (get_or names s.species []) ≡ take used names = with-old (take used names) (get_or names s.species []) (used_before names used s.species h.0 below.0) in
    ap (λ (so_far : List (List ℕ)). names_behind names so_far atoms) same ∙ names-by_first_use names used atoms d below.1 h.1
names-by_first_use names used (s ∷ atoms) d below (inr h) =
    let next : with_name (take used names) (get_or names s.species []) ≡ take (suc used) names =
    with-new (take used names) (get_or names s.species []) (not_before names used s.species d (omega (arith, h.0)) below.0)
    ∙ ap (λ (i : ℕ). take used names ++ get_or names i [] ∷ []) h.0
    ∙ sym (take-suc names used [] (omega (arith, h.0, below.0))) in
    ap (λ (so_far : List (List ℕ)). names_behind names so_far atoms) next ∙ names-by_first_use names (suc used) atoms d below.1 h.1
