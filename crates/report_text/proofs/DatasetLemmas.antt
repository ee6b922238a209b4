-- The words behind a space, values one after the other, and that the object of a dataset has no float.
use Rattle.std.proofs.Common.{◌≡◌, ◌∙◌, ap, sym, ℕ, ◌+◌, ◌-◌, ◌≤◌, List, [], ◌∷◌, ◌++◌, length, take, drop, refl, map, false, Some, arith}
use Rattle.std.specs.Prelude.{slice_get}
use Rattle.std.proofs.lemmas.List.{take_all, map-append}
use Rattle.lists.proofs.Walks.{drop_at}
use Rattle.crystal_spec.specs.Matrices.{Matrix}
use Rattle.crystal_spec.specs.Crystals.{Structure}
use Rattle.crystal_spec.specs.Operations.{Operation}
use Rattle.op_group.specs.Lists.{OperationList}
use Rattle.mag_type.specs.declared.classification.Kind.{Kind}
use Rattle.site_orbits.specs.Entries.{AtomOrbit}
use Rattle.serde_json.specs.Data.{Data}
use Rattle.serde_json.specs.View.{view, items_of}
use Rattle.serde_json.specs.declared.value.Value.{Value}
use Rattle.serde_json.specs.Written.{has_float, items_have_float}
use Rattle.report_text.proofs.OrbitLemmas.{step}
use Rattle.report_text.specs.DatasetText.{operation_data, orbit_data, site_data, dataset}

length-behind_first : (bytes : List ℕ) → length (drop 1 bytes) ≤ length bytes - 1
length-behind_first [] = omega arith
length-behind_first (b ∷ bytes) = omega arith

-- as many as are behind the first are all behind the first
pub behind_first : (bytes words : List ℕ) → bytes ≡ words → take (length bytes - 1) (drop 1 bytes) ≡ drop 1 words
behind_first bytes words e = take_all (length bytes - 1) (drop 1 bytes) (length-behind_first bytes) ∙ ap (drop 1) e

-- the value of one atom more
pub values_more : (f : AtomOrbit → Data) (orbits : List AtomOrbit) (i : ℕ) (o : AtomOrbit) (values pushed : List Value) (value : Value) →
    slice_get orbits i ≡ Some o → pushed ≡ values ++ value ∷ [] → view value ≡ f o →
    map view values ++ map f (drop i orbits) ≡ map f orbits → map view pushed ++ map f (drop (i + 1) orbits) ≡ map f orbits
values_more f orbits i o values pushed value here added same so_far =
    let first : map f (drop i orbits) ≡ (view value ∷ []) ++ map f (drop (i + 1) orbits) = ap (map f) (drop_at orbits i o here) ∙ ap (λ d. d ∷ map f (drop (i + 1) orbits)) (sym same) in
    step (map view values) (view value ∷ []) (map f (drop (i + 1) orbits)) (map f orbits) (map view pushed) (map f (drop i orbits)) first so_far (ap (map view) added ∙ map-append view values (value ∷ []))

texts_have_no_float : (n : ℕ) (os : List Operation) → items_have_float (items_of (map (operation_data n) os)) ≡ false
texts_have_no_float n [] = refl
texts_have_no_float n (o ∷ os) = texts_have_no_float n os

firsts_have_no_float : (orbits : List AtomOrbit) → items_have_float (items_of (map orbit_data orbits)) ≡ false
firsts_have_no_float [] = refl
firsts_have_no_float (o ∷ orbits) = firsts_have_no_float orbits

counts_have_no_float : (orbits : List AtomOrbit) → items_have_float (items_of (map site_data orbits)) ≡ false
counts_have_no_float [] = refl
counts_have_no_float (o ∷ orbits) = counts_have_no_float orbits

-- its members are texts, integers, a list of texts, and lists of integers
pub dataset_has_no_float : (index : ℕ) (back : Matrix) (c : Structure) (l : OperationList) (cell_order : ℕ) (kind : Kind) (orbits : List AtomOrbit) → has_float (dataset index back c l cell_order kind orbits) ≡ false
dataset_has_no_float index back c l cell_order kind orbits = rw (texts_have_no_float l.n l.operations) (rw (firsts_have_no_float orbits) (rw (counts_have_no_float orbits) refl))
