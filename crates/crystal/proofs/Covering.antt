-- The index of the positions of atoms: what is put in is listed, and what is not found is not.
use Rattle.std.proofs.Common.{◌≡◌, refl, sym, ap, subst, ◌∙◌, ◌⊎◌, inl, inr, ℕ, ◌+◌, ◌<◌, ◌≤◌, Bool, true, false, List, [], ◌∷◌, ◌++◌, length, take, map, get_or}
use Rattle.std.specs.Prelude.{if◌then◌else◌, nat_eq, ◌||◌, Option, Some, None, is_some, IfNone}
use Rattle.std.specs.List.{list_any}
use Rattle.std.specs.Cmp.Lexicographic.{pointwise, same_text}
use Rattle.std.proofs.lemmas.Cmp.{nat_list_eq_equiv}
use Rattle.std.proofs.lemmas.List.{take_all}
use Rattle.lists.specs.Increasing.{IsMember}
use Rattle.lists.proofs.Members.{member_last, member_front}
use Rattle.lists.proofs.Walks.{member_taken}
use Rattle.indexmap.specs.IndexSet.{insert_key}
use Rattle.crystal_spec.specs.Crystals.{Atom}
use Rattle.crystal.specs.declared.atom.Atom as code
use Rattle.crystal.specs.Views.{atom_of}
use Rattle.positions.specs.Positions.{triple_of}
use Rattle.crystal.specs.Covering.{IsListed}
use Rattle.crystal.specs.Occupants.{NoneAt}
use Rattle.crystal.proofs.Positions.{same_list}

abbrev same_place : List ℕ → List ℕ → Bool
same_place p q = pointwise nat_eq p q

itself : (p : List ℕ) → same_place p p ≡ true
itself p = nat_list_eq_equiv.refl p

any_member : (p : List ℕ) (ks : List (List ℕ)) → list_any (same_place p) ks ≡ true → IsMember p ks
any_member p [] e = absurd (cc e)
any_member p (k ∷ ks) e = by (same_place p k) refl (λ h. any_member p ks (sym (ap (λ (c : Bool). c || list_any (same_place p) ks) h) ∙ e))
  where
    by : (b : Bool) → same_place p k ≡ b → (same_place p k ≡ false → IsMember p ks) → IsMember p (k ∷ ks)
    by true h rest = inl (same_text p k (sym h))
    by false h rest = inr (rest h)

member_any : (p : List ℕ) (ks : List (List ℕ)) → IsMember p ks → list_any (same_place p) ks ≡ true
member_any p [] m = absurd m
member_any p (k ∷ ks) (inl e) = subst (λ (q : List ℕ). (same_place p q || list_any (same_place p) ks) ≡ true) e (ap (λ (c : Bool). c || list_any (same_place p) ks) (itself p))
member_any p (k ∷ ks) (inr m) = by (same_place p k) refl (member_any p ks m)
  where
    by : (b : Bool) → same_place p k ≡ b → list_any (same_place p) ks ≡ true → list_any (same_place p) (k ∷ ks) ≡ true
    by true h rest = ap (λ (c : Bool). c || list_any (same_place p) ks) h
    by false h rest = ap (λ (c : Bool). c || list_any (same_place p) ks) h ∙ rest

-- a position that is not found is not listed
pub lacks_none : (r : Option ℕ) (p : List ℕ) (ks : List (List ℕ)) → is_some r ≡ list_any (same_place p) ks → IfNone r (IsMember p ks → ⊥)
lacks_none (Some i) p ks e = tt
lacks_none None p ks e = λ m. let found = member_any p ks m in absurd (cc (e, found))

-- a position that is put in is listed, and what was listed stays
pub inserted_member : (p : List ℕ) (ks : List (List ℕ)) → IsMember p (insert_key same_place ks p)
inserted_member p ks = by (list_any (same_place p) ks) refl
  where
    by : (b : Bool) → list_any (same_place p) ks ≡ b → IsMember p (insert_key same_place ks p)
    by true e = subst (IsMember p) (sym (ap (λ (c : Bool). if c then ks else ks ++ p ∷ []) e)) (any_member p ks e)
    by false e = subst (IsMember p) (sym (ap (λ (c : Bool). if c then ks else ks ++ p ∷ []) e)) (member_last ks p)

pub inserted_stays : (p q : List ℕ) (ks : List (List ℕ)) → IsMember q ks → IsMember q (insert_key same_place ks p)
inserted_stays p q ks m = by (list_any (same_place p) ks) refl
  where
    by : (b : Bool) → list_any (same_place p) ks ≡ b → IsMember q (insert_key same_place ks p)
    by true e = subst (IsMember q) (sym (ap (λ (c : Bool). if c then ks else ks ++ p ∷ []) e)) m
    by false e = subst (IsMember q) (sym (ap (λ (c : Bool). if c then ks else ks ++ p ∷ []) e)) (member_front ks p q m)

-- with the position of the next atom put in, one more atom is listed
pub next_listed : (xs : List code.Atom) (i : ℕ) (x : code.Atom) (ks js : List (List ℕ)) → i < length xs → get_or xs i x ≡ x → length x.place ≡ 3 → IsMember x.place js → ((p : List ℕ) → IsMember p ks → IsMember p js) →
    ((a : Atom) → IsMember a (map atom_of (take i xs)) → IsListed ks a) → (a : Atom) → IsMember a (map atom_of (take (i + 1) xs)) → IsListed js a
next_listed xs i x ks js h at three listed kept before a m = by (member_taken atom_of xs i x a h (sym at) m)
  where
    by : (a ≡ atom_of x) ⊎ IsMember a (map atom_of (take i xs)) → IsListed js a
    by (inr old) =
        let l = before a old in
        record { place = l.place; three = l.three; is = l.is; listed = kept l.place l.listed }
    by (inl new) = record { place = x.place; three = three; is = ap (λ (b : Atom). b.position) new; listed = listed }

-- at the end all are
pub all_listed : (xs : List code.Atom) (i : ℕ) (ks : List (List ℕ)) → length xs ≤ i →
    ((a : Atom) → IsMember a (map atom_of (take i xs)) → IsListed ks a) → (a : Atom) → IsMember a (map atom_of xs) → IsListed ks a
all_listed xs i ks h all a m = all a (subst (λ (ys : List code.Atom). IsMember a (map atom_of ys)) (sym (take_all i xs h)) m)

-- at a position that is not listed there is none of the atoms that are
pub none_listed : (ks : List (List ℕ)) (p : List ℕ) (atoms : List Atom) → length p ≡ 3 → ((a : Atom) → IsMember a atoms → IsListed ks a) → (IsMember p ks → ⊥) → NoneAt (triple_of p) atoms
none_listed ks p [] three all lacks = tt
none_listed ks p (s ∷ atoms) three all lacks = (here, none_listed ks p atoms three (λ a m. all a (inr m)) lacks)
  where
    here : s.position ≡ triple_of p → ⊥
    here e = let l = all s (inl refl) in lacks (subst (λ (q : List ℕ). IsMember q ks) (same_list l.place p l.three three (sym l.is ∙ e)) l.listed)
