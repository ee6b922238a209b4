-- The printed text, piece by piece.
use Rattle.std.proofs.Common.{◌≡◌, ℕ, ◌+◌, List, [], ◌∷◌, ◌++◌, get_or, drop, Some, sym, ap, ◌∙◌, append_assoc}
use Rattle.std.specs.Prelude.{slice_get}
use Rattle.std.proofs.lemmas.Option.{get_or_from_slice_get}
use Rattle.lists.proofs.Walks.{drop_at}
use Rattle.crystal_spec.specs.declared.MomentKind.{MomentKind}
use Rattle.crystal_spec.specs.Crystals.{Atom, Structure}
use Rattle.crystal_spec.specs.Matrices.{Matrix}
use Rattle.plain_text.specs.NumberText.{numbers_text}
use Rattle.cell_print.specs.CellFileText.{heading_text, scalar_products, metric_text, position_text, moment_text, atom_text, atoms_text, cell_lines_text, cell_file_text}

-- `atom` and a space
abbrev pub atom_start : List ℕ
atom_start = 97 ∷ 116 ∷ 111 ∷ 109 ∷ 32 ∷ []

-- `metric`
abbrev pub metric_start : List ℕ
metric_start = 109 ∷ 101 ∷ 116 ∷ 114 ∷ 105 ∷ 99 ∷ []

-- the pieces of the metric line
pub metric_from_pieces : (g : Matrix) (d : ℕ) (old n1 n2 n3 : List ℕ) → n1 ≡ old ++ metric_start → n2 ≡ n1 ++ numbers_text d (scalar_products g) → n3 ≡ n2 ++ 10 ∷ [] → n3 ≡ old ++ metric_text d g
metric_from_pieces g d old n1 n2 n3 e1 e2 e3 =
    e3 ∙ ap (λ (z : List ℕ). z ++ 10 ∷ []) (e2 ∙ ap (λ (z : List ℕ). z ++ numbers_text d (scalar_products g)) e1) ∙ pieces old metric_start (numbers_text d (scalar_products g))
  where
    pieces : (old a b : List ℕ) → ((old ++ a) ++ b) ++ 10 ∷ [] ≡ old ++ (a ++ (b ++ 10 ∷ []))
    pieces old a b = simp append_assoc

-- the pieces of the line of an atom
pub atom_from_pieces : (c : Structure) (s : Atom) (n k : ℕ) (kind : MomentKind) (old n1 n2 n3 n4 n5 name : List ℕ) →
    slice_get c.names s.species ≡ Some name → n ≡ c.n → k ≡ c.k → kind ≡ c.kind →
    n1 ≡ old ++ atom_start → n2 ≡ n1 ++ name → n3 ≡ n2 ++ position_text n s.position → n4 ≡ n3 ++ moment_text kind k s.moment → n5 ≡ n4 ++ 10 ∷ [] →
    n5 ≡ old ++ atom_text c s
unfolding atom_text
atom_from_pieces c s n k kind old n1 n2 n3 n4 n5 name named of_n of_k of_kind e1 e2 e3 e4 e5 =
    let word : name ≡ get_or c.names s.species [] = sym (get_or_from_slice_get c.names s.species name [] named) in
    let position : position_text n s.position ≡ position_text c.n s.position = ap (λ (m : ℕ). position_text m s.position) of_n in
    let moment : moment_text kind k s.moment ≡ moment_text c.kind c.k s.moment = λ i. moment_text (of_kind i) (of_k i) s.moment in
    let two : n2 ≡ (old ++ atom_start) ++ get_or c.names s.species [] = e2 ∙ (λ i. e1 i ++ word i) in
    let three : n3 ≡ ((old ++ atom_start) ++ get_or c.names s.species []) ++ position_text c.n s.position = e3 ∙ (λ i. two i ++ position i) in
    let four : n4 ≡ (((old ++ atom_start) ++ get_or c.names s.species []) ++ position_text c.n s.position) ++ moment_text c.kind c.k s.moment = e4 ∙ (λ i. three i ++ moment i) in
    e5 ∙ ap (λ (z : List ℕ). z ++ 10 ∷ []) four ∙ pieces old (atom_start) (get_or c.names s.species []) (position_text c.n s.position) (moment_text c.kind c.k s.moment)
  where
    pieces : (old a b d e : List ℕ) → ((((old ++ a) ++ b) ++ d) ++ e) ++ 10 ∷ [] ≡ old ++ (a ++ (b ++ (d ++ (e ++ 10 ∷ []))))
    pieces old a b d e = simp append_assoc

-- one atom more
pub atoms_more : (c : Structure) (s : Atom) (i : ℕ) (out old pushed : List ℕ) → slice_get c.atoms i ≡ Some s → out ++ atoms_text c (drop i c.atoms) ≡ old → pushed ≡ out ++ atom_text c s → pushed ++ atoms_text c (drop (i + 1) c.atoms) ≡ old
atoms_more c s i out old pushed at so_far e =
    ap (λ (z : List ℕ). z ++ atoms_text c (drop (i + 1) c.atoms)) e
    ∙ append_assoc out (atom_text c s) (atoms_text c (drop (i + 1) c.atoms))
    ∙ ap (λ (atoms : List Atom). out ++ atoms_text c atoms) (sym (drop_at c.atoms i s at))
    ∙ so_far

-- the first line, and the lines of the cell behind it
pub file_from_pieces : (c : Structure) (kind : MomentKind) (n0 n1 n2 : List ℕ) → n0 ≡ [] → kind ≡ c.kind → n1 ≡ n0 ++ heading_text kind → n2 ≡ n1 ++ cell_lines_text c → n2 ≡ cell_file_text c
file_from_pieces c kind n0 n1 n2 empty of_kind e1 e2 = e2 ∙ ap (λ (z : List ℕ). z ++ cell_lines_text c) (e1 ∙ (λ i. empty i ++ heading_text (of_kind i)))
