-- The lines of the atoms, one after another.
use Rattle.std.proofs.Common.{◌≡◌, sym, ap, ◌∙◌, ℕ, ◌+◌, List, [], ◌∷◌, ◌++◌, get_or, drop, Some, append_assoc}
use Rattle.std.specs.Prelude.{slice_get}
use Rattle.std.proofs.lemmas.Option.{get_or_from_slice_get}
use Rattle.lists.proofs.Walks.{drop_at}
use Rattle.crystal_spec.specs.declared.MomentKind.{MomentKind}
use Rattle.crystal_spec.specs.Crystals.{Atom}
use Rattle.site_orbits.specs.Entries.{AtomOrbit}
use Rattle.moment_space.specs.Projectors.{AllowedMoments}
use Rattle.moments_text.specs.MomentsText.{atom_text, atom_lines, allowed_by}

module _ (kind : MomentKind) (names : List (List ℕ)) where
  lines_at : (k : ℕ) (atoms : List Atom) (orbits : List AtomOrbit) (a : Atom) (o : AtomOrbit) (more : List Atom) (others : List AtomOrbit) → atoms ≡ a ∷ more → orbits ≡ o ∷ others →
      atom_lines kind names k atoms orbits ≡ atom_text k (get_or names a.species []) (allowed_by kind o.site.operations) ++ atom_lines kind names (k + 1) more others
  lines_at k atoms orbits a o more others s e = ap (λ (xs : List Atom). atom_lines kind names k xs orbits) s ∙ ap (λ (ys : List AtomOrbit). atom_lines kind names k (a ∷ more) ys) e

  -- the line of one atom more, which has the number k
  pub atoms_more : (atoms : List Atom) (orbits : List AtomOrbit) (i k : ℕ) (a : Atom) (o : AtomOrbit) (name : List ℕ) (allowed : AllowedMoments) (out old pushed : List ℕ) →
      slice_get atoms i ≡ Some a → slice_get orbits i ≡ Some o → slice_get names a.species ≡ Some name → allowed ≡ allowed_by kind o.site.operations →
      out ++ atom_lines kind names k (drop i atoms) (drop i orbits) ≡ old → pushed ≡ out ++ atom_text k name allowed →
      pushed ++ atom_lines kind names (k + 1) (drop (i + 1) atoms) (drop (i + 1) orbits) ≡ old
  atoms_more atoms orbits i k a o name allowed out old pushed at here named is so_far e =
      let rest = atom_lines kind names (k + 1) (drop (i + 1) atoms) (drop (i + 1) orbits) in
      let word : get_or names a.species [] ≡ name = get_or_from_slice_get names a.species name [] named in
      let line : atom_text k name allowed ≡ atom_text k (get_or names a.species []) (allowed_by kind o.site.operations) =
      ap (λ (m : List ℕ). atom_text k m allowed) (sym word) ∙ ap (atom_text k (get_or names a.species [])) is in
      ap (λ (z : List ℕ). z ++ rest) (e ∙ ap (λ (z : List ℕ). out ++ z) line)
      ∙ append_assoc out (atom_text k (get_or names a.species []) (allowed_by kind o.site.operations)) rest
      ∙ ap (λ (z : List ℕ). out ++ z) (sym (lines_at k (drop i atoms) (drop i orbits) a o (drop (i + 1) atoms) (drop (i + 1) orbits) (drop_at atoms i a at) (drop_at orbits i o here)))
      ∙ so_far

-- an orbit of the numbers 0 and 0
pub no_orbit : AtomOrbit
no_orbit = record { first = 0; size = 0; site = record { n = 0; operations = [] } }
