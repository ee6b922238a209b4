-- Names by the order of their first use.
use Rattle.std.proofs.Common.{◌≡◌, ℕ, Bool, true, false, cond, List, [], ◌∷◌, ◌++◌, map, refl, ap, ◌∙◌}
use Rattle.std.specs.List.{list_any, position_or_len}
use Rattle.std.proofs.lemmas.List.{map-append}
use Rattle.cell_text.specs.Lines.{same_word}
use Rattle.cell_text.specs.CellFile.{with_name}

any_map : {V : Type 0} (t : List ℕ → Bool) (h : V → List ℕ) (ks : List V) → list_any (λ y. t (h y)) ks ≡ list_any t (map h ks)
any_map t h [] = refl
any_map t h (k ∷ ks) = rw (any_map t h ks) refl

by_case : {V : Type 0} (h : V → List ℕ) (ks : List V) (k : V) (b : Bool) → map h (cond b ks (ks ++ k ∷ [])) ≡ cond b (map h ks) (map h ks ++ h k ∷ [])
by_case h ks k true = refl
by_case h ks k false = map-append h ks (k ∷ [])

pub names_map : {V : Type 0} (h : V → List ℕ) (ks : List V) (k : V) → map h (cond (list_any (λ y. same_word (h k) (h y)) ks) ks (ks ++ k ∷ [])) ≡ with_name (map h ks) (h k)
names_map h ks k = by_case h ks k (list_any (λ y. same_word (h k) (h y)) ks) ∙ ap (λ (b : Bool). cond b (map h ks) (map h ks ++ h k ∷ [])) (any_map (same_word (h k)) h ks)

pub position_map : {V : Type 0} (t : List ℕ → Bool) (h : V → List ℕ) (ks : List V) → position_or_len (λ y. t (h y)) ks ≡ position_or_len t (map h ks)
position_map t h [] = refl
position_map t h (k ∷ ks) = rw (position_map t h ks) refl
