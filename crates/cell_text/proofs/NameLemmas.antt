-- Names in the order of their first use, and their numbers.
use Rattle.std.proofs.Common.{◌≡◌, ℕ, suc, ◌+◌, ◌<◌, ◌≤◌, Bool, true, false, List, [], ◌∷◌, ◌++◌, length, map, refl, sym, ap, subst, ◌∙◌, arith, length-append}
use Rattle.std.proofs.Common.{inl, inr}
use Rattle.std.specs.Prelude.{◌||◌}
use Rattle.std.specs.List.{fold, list_any, position_or_len}
use Rattle.std.proofs.lemmas.Bool.{eq-eqb}
use Rattle.std.proofs.lemmas.List.Folds.{list_any-append}
use Rattle.std.proofs.Math.Bool.{or-true}
use Rattle.lists.specs.Increasing.{IsMember}
use Rattle.crystal_spec.specs.Crystals.{Structure}
use Rattle.crystal.specs.Numbering.{AreByFirstUse}
use Rattle.plain_text.specs.Text.{lines}
use Rattle.cell_text.specs.Lines.{same_word}
use Rattle.cell_text.specs.Entries.{AtomLine, Contents, contents}
use Rattle.cell_text.specs.CellFile.{with_name, names_of, number_of, atom_of, cell_with, Spells}
use Rattle.plain_text.proofs.DigitLemmas.{fold-append}

same_self : (w : List ℕ) → same_word w w ≡ true
same_self [] = refl
same_self (b ∷ w) = rw (eq-eqb b b refl, same_self w) refl

-- ---- the first place of what passes a test

position_kept : (test : List ℕ → Bool) (xs ys : List (List ℕ)) → list_any test xs ≡ true → position_or_len test (xs ++ ys) ≡ position_or_len test xs
position_kept test [] ys e = absurd cc
position_kept test (x ∷ xs) ys e = by (test x) refl (λ k. position_kept test xs ys k) e
  where
    by : (b : Bool) → test x ≡ b → (list_any test xs ≡ true → position_or_len test (xs ++ ys) ≡ position_or_len test xs) → list_any test (x ∷ xs) ≡ true → position_or_len test ((x ∷ xs) ++ ys) ≡ position_or_len test (x ∷ xs)
    by true h rest k = rw h refl
    by false h rest k = rw h (ap (λ (m : ℕ). 1 + m) (rest (rw h at k)))

position_none : (test : List ℕ → Bool) (xs : List (List ℕ)) → list_any test xs ≡ false → position_or_len test xs ≡ length xs
position_none test [] e = refl
position_none test (x ∷ xs) e = by (test x) refl (λ k. position_none test xs k) e
  where
    by : (b : Bool) → test x ≡ b → (list_any test xs ≡ false → position_or_len test xs ≡ length xs) → list_any test (x ∷ xs) ≡ false → position_or_len test (x ∷ xs) ≡ length (x ∷ xs)
    by true h rest k = absurd (cc (rw h at k))
    by false h rest k =
        let deeper = rest (rw h at k) in
        rw h (omega (arith, deeper))

position_below : (test : List ℕ → Bool) (xs : List (List ℕ)) → list_any test xs ≡ true → position_or_len test xs < length xs
position_below test [] e = absurd cc
position_below test (x ∷ xs) e = by (test x) refl (λ k. position_below test xs k) e
  where
    by : (b : Bool) → test x ≡ b → (list_any test xs ≡ true → position_or_len test xs < length xs) → list_any test (x ∷ xs) ≡ true → position_or_len test (x ∷ xs) < length (x ∷ xs)
    by true h rest k = rw h (omega arith)
    by false h rest k =
        let deeper = rest (rw h at k) in
        rw h (omega (arith, deeper))

position_new : (test : List ℕ → Bool) (xs : List (List ℕ)) (y : List ℕ) → list_any test xs ≡ false → test y ≡ true → position_or_len test (xs ++ y ∷ []) ≡ length xs
position_new test [] y e h = rw h refl
position_new test (x ∷ xs) y e h = by (test x) refl (λ k. position_new test xs y k h) e
  where
    by : (b : Bool) → test x ≡ b → (list_any test xs ≡ false → position_or_len test (xs ++ y ∷ []) ≡ length xs) → list_any test (x ∷ xs) ≡ false → position_or_len test ((x ∷ xs) ++ y ∷ []) ≡ length (x ∷ xs)
    by true k rest f = absurd (cc (rw k at f))
    by false k rest f =
        let deeper = rest (rw k at f) in
        rw k (omega (arith, deeper))

-- ---- one name more

-- with and without the name among them
pub with-old : (names : List (List ℕ)) (w : List ℕ) → list_any (same_word w) names ≡ true → with_name names w ≡ names
with-old names w e = rw e refl

pub with-new : (names : List (List ℕ)) (w : List ℕ) → list_any (same_word w) names ≡ false → with_name names w ≡ names ++ w ∷ []
with-new names w e = rw e refl

any_new : (names : List (List ℕ)) (w : List ℕ) → list_any (same_word w) (names ++ w ∷ []) ≡ true
any_new names w = list_any-append (same_word w) names (w ∷ []) ∙ rw (same_self w) (or-true (list_any (same_word w) names))

any_with : (names : List (List ℕ)) (w : List ℕ) → list_any (same_word w) (with_name names w) ≡ true
any_with names w = by (list_any (same_word w) names) refl
  where
    by : (b : Bool) → list_any (same_word w) names ≡ b → list_any (same_word w) (with_name names w) ≡ true
    by true e = ap (list_any (same_word w)) (with-old names w e) ∙ e
    by false e = ap (list_any (same_word w)) (with-new names w e) ∙ any_new names w

number_with : (names : List (List ℕ)) (w : List ℕ) → number_of (with_name names w) w ≡ number_of names w
number_with names w = by (list_any (same_word w) names) refl
  where
    by : (b : Bool) → list_any (same_word w) names ≡ b → number_of (with_name names w) w ≡ number_of names w
    by true e = ap (λ (ns : List (List ℕ)). number_of ns w) (with-old names w e)
    by false e =
        ap (λ (ns : List (List ℕ)). number_of ns w) (with-new names w e) ∙ position_new (same_word w) names w e (same_self w) ∙ sym (position_none (same_word w) names e)

-- the number of a name is below the number of names
pub number_below : (names : List (List ℕ)) (w : List ℕ) → number_of names w < length (with_name names w)
number_below names w =
    subst (λ (i : ℕ). i < length (with_name names w)) (number_with names w) (position_below (same_word w) (with_name names w) (any_with names w))

any_kept : (names : List (List ℕ)) (v w : List ℕ) → list_any (same_word w) names ≡ true → list_any (same_word w) (with_name names v) ≡ true
any_kept names v w h = by (list_any (same_word v) names) refl
  where
    by : (b : Bool) → list_any (same_word v) names ≡ b → list_any (same_word w) (with_name names v) ≡ true
    by true e = ap (list_any (same_word w)) (with-old names v e) ∙ h
    by false e = ap (list_any (same_word w)) (with-new names v e) ∙ list_any-append (same_word w) names (v ∷ []) ∙ rw h refl

number_kept : (names : List (List ℕ)) (v w : List ℕ) → list_any (same_word w) names ≡ true → number_of (with_name names v) w ≡ number_of names w
number_kept names v w h = by (list_any (same_word v) names) refl
  where
    by : (b : Bool) → list_any (same_word v) names ≡ b → number_of (with_name names v) w ≡ number_of names w
    by true e = ap (λ (ns : List (List ℕ)). number_of ns w) (with-old names v e)
    by false e = ap (λ (ns : List (List ℕ)). number_of ns w) (with-new names v e) ∙ position_kept (same_word w) names (v ∷ []) h

abbrev add : List (List ℕ) → AtomLine → List (List ℕ)
add names a = with_name names a.name

fold_kept : (names : List (List ℕ)) (later : List AtomLine) (w : List ℕ) → list_any (same_word w) names ≡ true → number_of (fold add names later) w ≡ number_of names w
fold_kept names [] w h = refl
fold_kept names (a ∷ later) w h = fold_kept (with_name names a.name) later w (any_kept names a.name w h) ∙ number_kept names a.name w h

-- ---- the names of atoms

pub names-more : (held : List AtomLine) (b : AtomLine) → names_of (held ++ b ∷ []) ≡ with_name (names_of held) b.name
unfolding names_of
names-more held b = fold-append add [] held (b ∷ [])

-- an atom's number stays as names follow
pub number-final : (held : List AtomLine) (b : AtomLine) (later : List AtomLine) → number_of (names_of (held ++ b ∷ later)) b.name ≡ number_of (names_of held) b.name
unfolding names_of
number-final held b later =
    ap (λ (ns : List (List ℕ)). number_of ns b.name) (fold-append add [] held (b ∷ later)) ∙ fold_kept (with_name (fold add [] held) b.name) later b.name (any_with (fold add [] held) b.name) ∙ number_with (fold add [] held) b.name

pub with_most : (names : List (List ℕ)) (w : List ℕ) → length (with_name names w) ≤ length names + 1
with_most names w = by (list_any (same_word w) names) refl
  where
    by : (b : Bool) → list_any (same_word w) names ≡ b → length (with_name names w) ≤ length names + 1
    by true e = omega (arith, ap length (with-old names w e))
    by false e = omega (arith, ap length (with-new names w e), length-append names (w ∷ []))

fold_most : (names : List (List ℕ)) (held : List AtomLine) → length (fold add names held) ≤ length names + length held
fold_most names [] = omega arith
fold_most names (a ∷ held) = omega (arith, fold_most (with_name names a.name) held, with_most names a.name)

-- there are no more names than atoms
pub names_at_most : (held : List AtomLine) → length (names_of held) ≤ length held
unfolding names_of
names_at_most held = let most : length (fold add [] held) ≤ 0 + length held = fold_most [] held in omega (arith, most)

-- ---- whether a name is new, by its number

pub old_name : (names : List (List ℕ)) (w : List ℕ) → number_of names w < length names → with_name names w ≡ names
old_name names w h = by (list_any (same_word w) names) refl
  where
    by : (b : Bool) → list_any (same_word w) names ≡ b → with_name names w ≡ names
    by true e = with-old names w e
    by false e = absurd (omega (arith, position_none (same_word w) names e, h))

new_any : (names : List (List ℕ)) (w : List ℕ) → (number_of names w < length names → ⊥) → list_any (same_word w) names ≡ false
new_any names w h = by (list_any (same_word w) names) refl
  where
    by : (b : Bool) → list_any (same_word w) names ≡ b → list_any (same_word w) names ≡ false
    by true e = absurd (h (position_below (same_word w) names e))
    by false e = e

pub new_name : (names : List (List ℕ)) (w : List ℕ) → (number_of names w < length names → ⊥) → with_name names w ≡ names ++ w ∷ []
new_name names w h = with-new names w (new_any names w h)

none_member : (names : List (List ℕ)) (w : List ℕ) → list_any (same_word w) names ≡ false → IsMember w names → ⊥
none_member [] w e m = m
none_member (x ∷ names) w e (inl same) = absurd (cc (subst (λ (y : List ℕ). same_word w y ≡ true) same (same_self w), any_first (same_word w x) _ e))
  where
    any_first : (p q : Bool) → (p || q) ≡ false → p ≡ false
    any_first true q e = absurd cc
    any_first false q e = refl
none_member (x ∷ names) w e (inr m) = none_member names w (any_rest (same_word w x) _ e) m
  where
    any_rest : (p q : Bool) → (p || q) ≡ false → q ≡ false
    any_rest true q e = absurd cc
    any_rest false q e = e

pub new_member : (names : List (List ℕ)) (w : List ℕ) → (number_of names w < length names → ⊥) → IsMember w names → ⊥
new_member names w h = none_member names w (new_any names w h)

-- ---- species are numbered by first use

-- behind these names, each atom has one of them or the next
later_numbered : (names : List (List ℕ)) (n k : ℕ) (later : List AtomLine) → AreByFirstUse (length names) (length (fold add names later)) (map (atom_of (fold add names later) n k) later)
later_numbered names n k [] = refl
later_numbered names n k (a ∷ later) = by (list_any (same_word a.name) names) refl (later_numbered (with_name names a.name) n k later)
  where
    all : List (List ℕ)
    all = fold add (with_name names a.name) later

    number : number_of all a.name ≡ number_of names a.name
    number = fold_kept (with_name names a.name) later a.name (any_with names a.name) ∙ number_with names a.name

    by : (b : Bool) → list_any (same_word a.name) names ≡ b → AreByFirstUse (length (with_name names a.name)) (length all) (map (atom_of all n k) later) → AreByFirstUse (length names) (length all) (map (atom_of all n k) (a ∷ later))
    by true e rest = inl (
      subst (λ (i : ℕ). i < length names) (sym number) (position_below (same_word a.name) names e),
      subst (λ (ns : List (List ℕ)). AreByFirstUse (length ns) (length all) (map (atom_of all n k) later)) (with-old names a.name e) rest,
    )
    by false e rest =
        let more : length (with_name names a.name) ≡ suc (length names) = omega (arith, ap length (with-new names a.name e), length-append names (a.name ∷ [])) in
        inr (number ∙ position_none (same_word a.name) names e, subst (λ (m : ℕ). AreByFirstUse m (length all) (map (atom_of all n k) later)) more rest)

contents_numbered : (held : Contents) → AreByFirstUse 0 (length (cell_with held).names) (cell_with held).atoms
unfolding cell_with names_of
contents_numbered held = later_numbered [] (cell_with held).n (cell_with held).k held.atoms

-- species of a cell that is spelled are numbered by first use
pub spelled_numbered : (text : List ℕ) (c : Structure) → Spells text c → AreByFirstUse 0 (length c.names) c.atoms
spelled_numbered text c spelled = subst (λ (t : Structure). AreByFirstUse 0 (length t.names) t.atoms) (sym spelled.is) (contents_numbered (contents (lines text)))
