-- A generated text spells its cell.
use Rattle.std.proofs.Common.{◌≡◌, ℕ, zero, suc, ◌+◌, ◌*◌, ◌<◌, ◌≤◌, List, [], ◌∷◌, ◌++◌, length, map, refl, sym, ap, ◌∙◌, arith, append_assoc, length-append}
use Rattle.std.specs.Prelude.{pos, codes}
use Rattle.std.specs.List.{fold}
use Rattle.numbers.specs.Gcd.{gcd}
use Rattle.numbers.specs.Fraction.{whole}
use Rattle.crystal_spec.specs.Moments.{axial_vectors}
use Rattle.crystal_spec.specs.Crystals.{Atom, Structure}
use Rattle.plain_text.specs.Text.{lines}
use Rattle.plain_text.specs.NumberWords.{scaled, common_denominator}
use Rattle.cell_text.specs.Lines.{end_word}
use Rattle.cell_text.specs.Entries.{positions, moments}
use Rattle.cell_text.specs.Rules.{first_fault, cell_fault}
use Rattle.cell_text.specs.CellFile.{with_name, names_of, atom_of as atom_read, cell_with, cell_of, Spells}
use Rattle.cell_print.specs.Printable.{divisor_with}
use Rattle.cell_print.proofs.TextCuts.{lines_line}
use Rattle.cell_print.proofs.CommonDenominators.{common_denominator-reduced}
use Rattle.generated_cell.specs.Generator.{draws}
use Rattle.generated_cell.specs.GeneratedText.{Node, row_of, plane_of, nodes, draw_at, atom_line, text_of, generated_text}
use Rattle.generated_cell.specs.GeneratedCell.{component, atom_of, generated_cell}
use Rattle.generated_cell.proofs.Eighths.{eighth-scaled}
use Rattle.generated_cell.proofs.AtomLines.{InGrid, atom_at, atom_line-bytes, atom_line-length}
use Rattle.generated_cell.proofs.JudgedText.{number_of, AreRising, nodes-rising, nodes-count, coordinates, positions-atoms, moments-unit, heading_line, metric_line, whole_with, lines-read}

-- ---- the text in lines

atoms-lines : (ds : List ℕ) (m : ℕ) (vs : List Node) (rest : List ℕ) → AreRising m vs → lines (text_of ds vs ++ rest) ≡ map (atom_line ds) vs ++ lines rest
unfolding text_of
atoms-lines ds m [] rest rising = refl
atoms-lines ds m (v ∷ vs) rest rising =
    ap lines (pieces (atom_line ds v) (text_of ds vs) rest)
    ∙ lines_line (atom_line ds v) (text_of ds vs ++ rest) (atom_line-bytes ds v rising.0.0)
    ∙ ap (λ (ls : List (List ℕ)). atom_line ds v ∷ ls) (atoms-lines ds (number_of v + 1) vs rest rising.1)
  where
    pieces : (l t rest : List ℕ) → ((l ++ 10 ∷ []) ++ t) ++ rest ≡ l ++ 10 ∷ (t ++ rest)
    pieces l t rest = simp append_assoc

generated-lines : (seed : ℕ) → lines (generated_text seed) ≡ heading_line ∷ metric_line ∷ (map (atom_line (draws 8 seed)) nodes ++ end_word ∷ [])
unfolding generated_text
generated-lines seed =
    let rest = text_of (draws 8 seed) nodes ++ (end_word ++ 10 ∷ []) in
    lines_line heading_line (metric_line ++ 10 ∷ rest) refl
    ∙ ap (λ (ls : List (List ℕ)). heading_line ∷ ls) (lines_line metric_line rest refl ∙ ap (λ (ls : List (List ℕ)). metric_line ∷ ls) (atoms-lines (draws 8 seed) 0 nodes (end_word ++ 10 ∷ []) nodes-rising))

-- ---- the cell of the atoms

names-fold : (ds : List ℕ) (vs : List Node) → fold (λ names a. with_name names a.name) (codes "A" ∷ []) (map (atom_at ds) vs) ≡ codes "A" ∷ []
names-fold ds [] = refl
names-fold ds (v ∷ vs) = names-fold ds vs

names-one : (ds : List ℕ) (vs : List Node) → 0 < length vs → names_of (map (atom_at ds) vs) ≡ codes "A" ∷ []
unfolding names_of
names-one ds [] h = absurd (omega arith)
names-one ds (v ∷ vs) h = names-fold ds vs

least_unit : divisor_with 8 (coordinates nodes) ≡ 1
unfolding nodes plane_of row_of gcd
least_unit = refl

positions-unit : (ds : List ℕ) → common_denominator (positions (map (atom_at ds) nodes)) ≡ 8
positions-unit ds = ap common_denominator (positions-atoms ds nodes) ∙ common_denominator-reduced 8 (coordinates nodes) (omega arith) least_unit

component-scaled : (d : ℕ) → scaled 1 (whole (component d)) ≡ component d
component-scaled zero = refl
component-scaled (suc zero) = refl
component-scaled (suc (suc d)) = refl

atom-is : (ds : List ℕ) (v : Node) → InGrid v → atom_read (codes "A" ∷ []) 8 1 (atom_at ds v) ≡ atom_of ds v
atom-is ds v h =
    let x = eighth-scaled v.i h.i in
    let y = eighth-scaled v.j h.j in
    let z = eighth-scaled v.k h.k in
    let m = component-scaled (draw_at ds v) in
    λ t. record { species = 0; position = record { x = x t; y = y t; z = z t }; moment = record { x = pos 0; y = pos 0; z = m t } }

atoms-are : (ds : List ℕ) (m : ℕ) (vs : List Node) → AreRising m vs → map (atom_read (codes "A" ∷ []) 8 1) (map (atom_at ds) vs) ≡ map (atom_of ds) vs
atoms-are ds m [] rising = refl
atoms-are ds m (v ∷ vs) rising =
    ap (λ (s : Atom). s ∷ map (atom_read (codes "A" ∷ []) 8 1) (map (atom_at ds) vs)) (atom-is ds v rising.0.0) ∙ ap (λ (ss : List Atom). atom_of ds v ∷ ss) (atoms-are ds (number_of v + 1) vs rising.1)

cell-is : (seed : ℕ) → cell_with (whole_with (draws 8 seed) nodes) ≡ generated_cell seed
unfolding cell_with generated_cell
cell-is seed =
    let ds = draws 8 seed in
    let atoms = map (atom_at ds) nodes in
    ap (λ (ns : List (List ℕ)). made ns (common_denominator (positions atoms)) (common_denominator (moments atoms)) (map (atom_read ns (common_denominator (positions atoms)) (common_denominator (moments atoms))) atoms)) (names-one ds nodes (omega (arith, nodes-count)))
    ∙ ap (λ (n : ℕ). made (codes "A" ∷ []) n (common_denominator (moments atoms)) (map (atom_read (codes "A" ∷ []) n (common_denominator (moments atoms))) atoms)) (positions-unit ds)
    ∙ ap (λ (k : ℕ). made (codes "A" ∷ []) 8 k (map (atom_read (codes "A" ∷ []) 8 k) atoms)) (moments-unit ds nodes)
    ∙ ap (made (codes "A" ∷ []) 8 1) (atoms-are ds 0 nodes nodes-rising)
  where
    made : List (List ℕ) → ℕ → ℕ → List Atom → Structure
    made names n k atoms = record {
      names = names;
      scale = pos 1;
      metric = record { a11 = pos 64; a12 = pos 0; a13 = pos 0; a21 = pos 0; a22 = pos 64; a23 = pos 0; a31 = pos 0; a32 = pos 0; a33 = pos 64 };
      n = n;
      k = k;
      kind = axial_vectors;
      atoms = atoms;
    }

-- ---- the text spells the cell

-- For each seed the text is the cell file of the cell.
pub generated-spells : (seed : ℕ) → Spells (generated_text seed) (generated_cell seed)
unfolding cell_fault
generated-spells seed =
    let read = lines-read (draws 8 seed) in
    record {
      faultless = ap (first_fault []) (generated-lines seed) ∙ read.faultless;
      is = sym (ap cell_of (generated-lines seed) ∙ ap cell_with read.held ∙ cell-is seed);
    }

-- ---- its length

atoms-length : (ds : List ℕ) (m : ℕ) (vs : List Node) → AreRising m vs → length (text_of ds vs) ≤ 26 * length vs
unfolding text_of
atoms-length ds m [] rising = omega arith
atoms-length ds m (v ∷ vs) rising =
    omega (arith, length-append (atom_line ds v ++ 10 ∷ []) (text_of ds vs), length-append (atom_line ds v) (10 ∷ []), atom_line-length ds v rising.0.0, atoms-length ds (number_of v + 1) vs rising.1)

-- It is within the limit of a cell file that the program reads.
pub generated-length : (seed : ℕ) → length (generated_text seed) ≤ 262144
unfolding generated_text
generated-length seed =
    omega (arith, length-append (codes "magcell 1\nmetric 64 64 64 0 0 0\n") (text_of (draws 8 seed) nodes ++ codes "end\n"), length-append (text_of (draws 8 seed) nodes) (codes "end\n"), atoms-length (draws 8 seed) 0 nodes nodes-rising, nodes-count)
