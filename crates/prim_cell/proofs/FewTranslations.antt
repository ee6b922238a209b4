-- A cell has no more pure translations than atoms.
use Rattle.std.proofs.Common.{suc, Bool, true, false, ℕ, ◌≤◌, eqb, List, [], ◌∷◌, length, arith}
use Rattle.std.proofs.lemmas.List.{length-map}
use Rattle.crystal_spec.specs.Crystals.{Atom, Structure}
use Rattle.crystal_spec.specs.Operations.{Operation}
use Rattle.crystal_spec.specs.Cells.{IsCell}
use Rattle.crystal.specs.declared.limits.TheConstants.{MOST_ATOMS}
use Rattle.basis_spec.specs.Translations.{ListsPureTranslations}
use Rattle.crystal_spec.specs.Species.{of_species}
use Rattle.basis_spec.proofs.PureTranslations.{few_translations}
use Rattle.basis_spec.proofs.TranslationLists.{translations_of, translations_once, translations_exact}

species_length : (s : ℕ) (atoms : List Atom) → length (of_species s atoms) ≤ length atoms
species_length s [] = omega arith
species_length s (a ∷ atoms) = by (eqb a.species s) (species_length s atoms)
  where
    by : (w : Bool) → length (of_species s atoms) ≤ length atoms → length {A = Atom} (elim w [ true ↦ a ∷ of_species s atoms | false ↦ of_species s atoms ]) ≤ suc (length atoms)
    by true h = omega (arith, h)
    by false h = omega (arith, h)

-- no more pure translations than atoms
pub few_pure : (c : Structure) → IsCell c → length c.atoms ≤ MOST_ATOMS → (os : List Operation) → ListsPureTranslations c os → length os ≤ MOST_ATOMS
few_pure c cell few os a =
    let p = few_translations c cell.some_cells cell.first cell.of_cell (translations_of os) (translations_once c os a) (λ t m. let k = (translations_exact c os a t).0 m in record { translation = k.0; keeps = k.1 }) in
    let q = species_length cell.first.species c.atoms in
    let r = length-map os (λ (o : Operation). o.translation) in
    omega (arith, p, q, r, few)
