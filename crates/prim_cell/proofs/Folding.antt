-- Atoms put in one after another, each unless one is at its position, are those that are left where each position is kept
-- once.
use Rattle.std.proofs.Common.{◌≡◌, Bool, true, false, List, [], ◌∷◌, ◌++◌, refl, sym, ap, ◌∙◌, ◌⊎◌, inl, inr}
use Rattle.lists.specs.Increasing.{IsMember}
use Rattle.crystal_spec.specs.Matrices.{Triple}
use Rattle.crystal_spec.specs.Crystals.{Atom}
use Rattle.crystal.specs.Occupants.{NoneAt}
use Rattle.crystal.proofs.CellLemmas.{none_member}
use Rattle.basis_spec.specs.Bases.{is_same_position, without_position, first_at_each_position}
use Rattle.basis_spec.proofs.FirstAtoms.{same_position_decides, member_of_firsts, stands_for}

-- what is left out of one atom
rest_of : Triple → Atom → List Atom
rest_of p x = elim (is_same_position p x.position) [ true ↦ [] | false ↦ x ∷ [] ]

without_more : (p : Triple) (ys : List Atom) (x : Atom) → without_position p (ys ++ x ∷ []) ≡ without_position p ys ++ rest_of p x
unfolding rest_of
without_more p [] x = refl
without_more p (y ∷ ys) x = by (is_same_position p y.position) (without_more p ys x)
  where
    by : (w : Bool) → without_position p (ys ++ x ∷ []) ≡ without_position p ys ++ rest_of p x → ◌≡◌ {A = List Atom} (elim w [ true ↦ without_position p (ys ++ x ∷ []) | false ↦ y ∷ without_position p (ys ++ x ∷ []) ]) ((elim w [ true ↦ without_position p ys | false ↦ y ∷ without_position p ys ]) ++ rest_of p x)
    by true h = h
    by false h = ap (λ l. y ∷ l) h

rest_same : (p : Triple) (x : Atom) → p ≡ x.position → rest_of p x ≡ []
unfolding rest_of
rest_same p x e = by (is_same_position p x.position) ((same_position_decides p x.position).1 e)
  where
    by : (w : Bool) → w ≡ true → ◌≡◌ {A = List Atom} (elim w [ true ↦ [] | false ↦ x ∷ [] ]) []
    by true h = refl
    by false h = absurd (cc h)

rest_other : (p : Triple) (x : Atom) → (p ≡ x.position → ⊥) → rest_of p x ≡ x ∷ []
unfolding rest_of
rest_other p x other = by (is_same_position p x.position) (λ h. other ((same_position_decides p x.position).0 h))
  where
    by : (w : Bool) → (w ≡ true → ⊥) → ◌≡◌ {A = List Atom} (elim w [ true ↦ [] | false ↦ x ∷ [] ]) (x ∷ [])
    by true h = absurd (h refl)
    by false h = refl

append_none : (ys : List Atom) → ys ++ [] ≡ ys
append_none [] = refl
append_none (y ∷ ys) = ap (λ l. y ∷ l) (append_none ys)

-- one more atom at a new position
first_new : (xs : List Atom) (x : Atom) → NoneAt x.position xs → first_at_each_position (xs ++ x ∷ []) ≡ first_at_each_position xs ++ x ∷ []
first_new [] x h = refl
first_new (y ∷ ys) x h =
    ap (λ l. y ∷ without_position y.position l) (first_new ys x h.1) ∙ ap (λ l. y ∷ l) (without_more y.position (first_at_each_position ys) x ∙ ap (λ l. without_position y.position (first_at_each_position ys) ++ l) (rest_other y.position x h.0))

record IsThere (p : Triple) (xs : List Atom) : Type 0 where
  atom : Atom
  of_list : IsMember atom xs
  here : atom.position ≡ p

-- whether one of the atoms is at this position
is_there : (p : Triple) (xs : List Atom) → NoneAt p xs ⊎ IsThere p xs
is_there p [] = inl tt
is_there p (x ∷ xs) = by (is_same_position p x.position) (λ h. (same_position_decides p x.position).0 h) (λ e. (same_position_decides p x.position).1 e) (is_there p xs)
  where
    by : (w : Bool) → (w ≡ true → p ≡ x.position) → (p ≡ x.position → w ≡ true) → NoneAt p xs ⊎ IsThere p xs → NoneAt p (x ∷ xs) ⊎ IsThere p (x ∷ xs)
    by true f g h = inr (record { atom = x; of_list = inl refl; here = sym (f refl) })
    by false f g (inl none) = inl ((λ e. cc (g (sym e))), none)
    by false f g (inr k) = inr (record { atom = k.atom; of_list = inr k.of_list; here = k.here })

-- one more atom at the position of the first
first_again : (y : Atom) (ys : List Atom) (x : Atom) → y.position ≡ x.position → ((z : Atom) → IsMember z ys → z.position ≡ x.position → first_at_each_position (ys ++ x ∷ []) ≡ first_at_each_position ys) → without_position y.position (first_at_each_position (ys ++ x ∷ [])) ≡ without_position y.position (first_at_each_position ys)
first_again y ys x e seen = by (is_there x.position ys)
  where
    by : NoneAt x.position ys ⊎ IsThere x.position ys → without_position y.position (first_at_each_position (ys ++ x ∷ [])) ≡ without_position y.position (first_at_each_position ys)
    by (inl none) = ap (without_position y.position) (first_new ys x none) ∙ without_more y.position (first_at_each_position ys) x ∙ ap (λ l. without_position y.position (first_at_each_position ys) ++ l) (rest_same y.position x e) ∙ append_none (without_position y.position (first_at_each_position ys))
    by (inr k) = ap (without_position y.position) (seen k.atom k.of_list k.here)

-- one more atom at a position that came before
first_seen : (xs : List Atom) (z x : Atom) → IsMember z xs → z.position ≡ x.position → first_at_each_position (xs ++ x ∷ []) ≡ first_at_each_position xs
first_seen [] z x m e = absurd m
first_seen (y ∷ ys) z x (inl f) e = ap (λ l. y ∷ l) (first_again y ys x (ap (λ (s : Atom). s.position) (sym f) ∙ e) (λ w m k. first_seen ys w x m k))
first_seen (y ∷ ys) z x (inr m) e = ap (λ l. y ∷ without_position y.position l) (first_seen ys z x m e)

none_of_list : (p : Triple) (xs : List Atom) → ((x : Atom) → IsMember x xs → x.position ≡ p → ⊥) → NoneAt p xs
none_of_list p [] h = tt
none_of_list p (x ∷ xs) h = (h x (inl refl), none_of_list p xs (λ y m. h y (inr m)))

-- an atom is put in where none of those that are left is at its position
pub put_new : (xs : List Atom) (x : Atom) → NoneAt x.position (first_at_each_position xs) → first_at_each_position xs ++ x ∷ [] ≡ first_at_each_position (xs ++ x ∷ [])
put_new xs x none = sym (first_new xs x (none_of_list x.position xs (λ z m e. let f = stands_for z xs m in none_member x.position (first_at_each_position xs) f.atom none f.of_list (f.same_position ∙ e))))

-- and otherwise left out
pub put_seen : (xs : List Atom) (x : Atom) → (NoneAt x.position (first_at_each_position xs) → ⊥) → first_at_each_position xs ≡ first_at_each_position (xs ++ x ∷ [])
put_seen xs x other = by (is_there x.position (first_at_each_position xs))
  where
    by : NoneAt x.position (first_at_each_position xs) ⊎ IsThere x.position (first_at_each_position xs) → first_at_each_position xs ≡ first_at_each_position (xs ++ x ∷ [])
    by (inl none) = absurd (other none)
    by (inr k) = sym (first_seen xs k.atom x (member_of_firsts k.atom xs k.of_list) k.here)
