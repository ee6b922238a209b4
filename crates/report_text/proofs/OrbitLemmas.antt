-- The text of orbits, piece by piece.
use Rattle.std.proofs.Common.{◌≡◌, ℕ, ◌+◌, List, [], ◌∷◌, ◌++◌, get_or, drop, Some, sym, ap, ◌∙◌, length, append_assoc}
use Rattle.std.specs.Prelude.{slice_get}
use Rattle.std.proofs.lemmas.Option.{get_or_from_slice_get}
use Rattle.lists.proofs.Walks.{drop_at}
use Rattle.crystal_spec.specs.Crystals.{Atom}
use Rattle.site_orbits.specs.Entries.{AtomOrbit}
use Rattle.report_text.specs.OrbitText.{atom_text, atom_lines, orbit_part, orbit_lines}

-- the pieces of the line of an atom
pub atom_from_pieces : (old n1 n2 n3 n4 n5 n6 a name b d : List ℕ) →
    n1 ≡ old ++ a → n2 ≡ n1 ++ 32 ∷ [] → n3 ≡ n2 ++ name → n4 ≡ n3 ++ b → n5 ≡ n4 ++ d → n6 ≡ n5 ++ 10 ∷ [] →
    n6 ≡ old ++ (a ++ (32 ∷ (name ++ (b ++ (d ++ 10 ∷ [])))))
atom_from_pieces old n1 n2 n3 n4 n5 n6 a name b d e1 e2 e3 e4 e5 e6 =
    e6 ∙ ap (λ z. z ++ 10 ∷ []) (e5 ∙ ap (λ z. z ++ d) (e4 ∙ ap (λ z. z ++ b) (e3 ∙ ap (λ z. z ++ name) (e2 ∙ ap (λ z. z ++ 32 ∷ []) e1))))
    ∙ simp append_assoc

-- the pieces of the lines of an orbit
pub orbit_from_pieces : (old n1 n2 n3 n4 n5 a b d lines : List ℕ) →
    n1 ≡ old ++ a → n2 ≡ n1 ++ b → n3 ≡ n2 ++ d → n4 ≡ n3 ++ 10 ∷ [] → n5 ≡ n4 ++ lines →
    n5 ≡ old ++ (a ++ (b ++ (d ++ (10 ∷ lines))))
orbit_from_pieces old n1 n2 n3 n4 n5 a b d lines e1 e2 e3 e4 e5 =
    e5 ∙ ap (λ z. z ++ lines) (e4 ∙ ap (λ z. z ++ 10 ∷ []) (e3 ∙ ap (λ z. z ++ d) (e2 ∙ ap (λ z. z ++ b) e1)))
    ∙ simp append_assoc

-- a piece more
pub step : {X : Type 0} (out line rest old pushed whole : List X) → whole ≡ line ++ rest → out ++ whole ≡ old → pushed ≡ out ++ line → pushed ++ rest ≡ old
step out line rest old pushed whole first so_far e = ap (λ z. z ++ rest) e ∙ append_assoc out line rest ∙ ap (λ z. out ++ z) (sym first) ∙ so_far

lines_at : (names : List (List ℕ)) (i : ℕ) (atoms : List Atom) (orbits : List AtomOrbit) (a : Atom) (o : AtomOrbit) (more : List Atom) (others : List AtomOrbit) → atoms ≡ a ∷ more → orbits ≡ o ∷ others →
    atom_lines names i atoms orbits ≡ atom_text i (get_or names a.species []) o.first (length o.site.operations) ++ atom_lines names (i + 1) more others
lines_at names i atoms orbits a o more others s e = ap (λ (xs : List Atom). atom_lines names i xs orbits) s ∙ ap (λ (ys : List AtomOrbit). atom_lines names i (a ∷ more) ys) e

-- the line of one atom more
pub atoms_more : (names : List (List ℕ)) (atoms : List Atom) (orbits : List AtomOrbit) (i : ℕ) (a : Atom) (o : AtomOrbit) (name : List ℕ) (first count : ℕ) (out old pushed : List ℕ) →
    slice_get atoms i ≡ Some a → slice_get orbits i ≡ Some o → slice_get names a.species ≡ Some name → first ≡ o.first → count ≡ length o.site.operations →
    out ++ atom_lines names i (drop i atoms) (drop i orbits) ≡ old → pushed ≡ out ++ atom_text i name first count →
    pushed ++ atom_lines names (i + 1) (drop (i + 1) atoms) (drop (i + 1) orbits) ≡ old
atoms_more names atoms orbits i a o name first count out old pushed at here named f k so_far e =
    let word : get_or names a.species [] ≡ name = get_or_from_slice_get names a.species name [] named in
    let line : atom_text i name first count ≡ atom_text i (get_or names a.species []) o.first (length o.site.operations) =
    ap (λ (m : List ℕ). atom_text i m first count) (sym word) ∙ ap (λ (m : ℕ). atom_text i (get_or names a.species []) m count) f ∙ ap (atom_text i (get_or names a.species []) o.first) k in
    step out (atom_text i (get_or names a.species []) o.first (length o.site.operations)) (atom_lines names (i + 1) (drop (i + 1) atoms) (drop (i + 1) orbits)) old pushed (atom_lines names i (drop i atoms) (drop i orbits))
    (lines_at names i (drop i atoms) (drop i orbits) a o (drop (i + 1) atoms) (drop (i + 1) orbits) (drop_at atoms i a at) (drop_at orbits i o here)) so_far (e ∙ ap (λ (z : List ℕ). out ++ z) line)

-- the lines of the orbit of one atom more
pub orbits_more : (orbits : List AtomOrbit) (i : ℕ) (o : AtomOrbit) (out old pushed : List ℕ) →
    slice_get orbits i ≡ Some o → out ++ orbit_lines i (drop i orbits) ≡ old → pushed ≡ out ++ orbit_part i o → pushed ++ orbit_lines (i + 1) (drop (i + 1) orbits) ≡ old
orbits_more orbits i o out old pushed here so_far e =
    step out (orbit_part i o) (orbit_lines (i + 1) (drop (i + 1) orbits)) old pushed (orbit_lines i (drop i orbits)) (ap (orbit_lines i) (drop_at orbits i o here)) so_far e

-- an orbit of the numbers 0 and 0
pub no_orbit : AtomOrbit
no_orbit = record { first = 0; size = 0; site = record { n = 0; operations = [] } }
