-- A cell that is made atom after atom.
use Rattle.std.proofs.Common.{◌≡◌, ℕ, zero, suc, ◌<◌, ◌≤◌, List, [], ◌∷◌, length, map, take, sym, ap, ◌∙◌, arith}
use Rattle.std.specs.Prelude.{slice_get, Some, option_map}
use Rattle.std.proofs.lemmas.Option.{slice_get-map}
use Rattle.lists.proofs.Walks.{taken_length}
use Rattle.crystal_spec.specs.Crystals.{Atom}
use Rattle.crystal.specs.declared.limits.TheConstants.{MOST_ATOMS}
use Rattle.crystal.specs.Occupants.{NoneAt}
use Rattle.crystal.specs.Cells.{AreApart}
use Rattle.crystal.specs.declared.atom.Atom.{Atom as CodeAtom}
use Rattle.crystal.specs.Views.{atom_of}

-- an atom is at none of the positions of those before it
pub apart_before : (xs : List Atom) (i : ℕ) (x : Atom) → AreApart xs → slice_get xs i ≡ Some x → NoneAt x.position (take i xs)
apart_before [] i x h e = absurd (cc e)
apart_before (y ∷ xs) zero x h e = tt
apart_before (y ∷ xs) (suc i) x h e = (λ same. elsewhere xs i h.0 e (sym same), apart_before xs i x h.1 e)
  where
    elsewhere : (ys : List Atom) (j : ℕ) → NoneAt y.position ys → slice_get ys j ≡ Some x → x.position ≡ y.position → ⊥
    elsewhere [] j none e same = cc e
    elsewhere (z ∷ ys) zero none e same = let is : z ≡ x = cc e in none.0 (ap (λ (s : Atom). s.position) is ∙ same)
    elsewhere (z ∷ ys) (suc j) none e same = elsewhere ys j none.1 e same

-- fewer before an atom than there are
pub fewer_before : (xs : List Atom) (i : ℕ) → i < length xs → length xs ≤ MOST_ATOMS → length (take i xs) < MOST_ATOMS
fewer_before xs i h k = let l = taken_length i xs in omega (arith, l, h, k)

-- the atom at a place of the list, as a atom
pub mapped_at : (xs : List CodeAtom) (i : ℕ) (x : CodeAtom) → slice_get xs i ≡ Some x → slice_get (map atom_of xs) i ≡ Some (atom_of x)
mapped_at xs i x e = slice_get-map atom_of xs i ∙ ap (option_map atom_of) e
