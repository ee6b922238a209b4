-- The text of a primitive cell, piece by piece.
use Rattle.std.proofs.Common.{◌≡◌, ap, ◌∙◌, ℕ, List, [], ◌++◌, append_assoc}
use Rattle.std.specs.Prelude.{codes}
use Rattle.std.specs.Fmt.{decimal}
use Rattle.crystal_spec.specs.declared.MomentKind.{MomentKind}
use Rattle.crystal_spec.specs.Matrices.{Matrix}
use Rattle.crystal_spec.specs.Crystals.{Structure}
use Rattle.prim_cell.specs.Primitives.{PrimitiveCell}
use Rattle.cell_print.specs.CellFileText.{heading_text, cell_lines_text}
use Rattle.operation_text.specs.EntryText.{entries_text}
use Rattle.report_text.specs.PrimitiveText.{cell_in_basis_text}

pieces : (a b d h e l s : List ℕ) → ((a ++ ((b ++ d) ++ s)) ++ ((h ++ e) ++ s)) ++ l ≡ (((((a ++ b) ++ d) ++ (s ++ h)) ++ e) ++ s) ++ l
pieces a b d h e l s = simp append_assoc

-- the first line, the index, Q, and the other lines of the cell
pub cell_from_pieces : (index : ℕ) (back : Matrix) (cell : Structure) (kind : MomentKind) (n0 n1 n2 n3 n4 : List ℕ) →
    n0 ≡ [] → kind ≡ cell.kind → n1 ≡ n0 ++ heading_text kind → n2 ≡ n1 ++ (codes "# index " ++ decimal index ++ codes "\n") →
    n3 ≡ n2 ++ (codes "# back" ++ entries_text back ++ codes "\n") → n4 ≡ n3 ++ cell_lines_text cell →
    n4 ≡ cell_in_basis_text index back cell
unfolding cell_in_basis_text
cell_from_pieces index back cell kind n0 n1 n2 n3 n4 empty of_kind e1 e2 e3 e4 =
    let one : n1 ≡ heading_text cell.kind = e1 ∙ (λ i. empty i ++ heading_text (of_kind i)) in
    let two : n2 ≡ heading_text cell.kind ++ (codes "# index " ++ decimal index ++ codes "\n") = e2 ∙ ap (λ (z : List ℕ). z ++ (codes "# index " ++ decimal index ++ codes "\n")) one in
    let three : n3 ≡ (heading_text cell.kind ++ (codes "# index " ++ decimal index ++ codes "\n")) ++ (codes "# back" ++ entries_text back ++ codes "\n") = e3 ∙ ap (λ (z : List ℕ). z ++ (codes "# back" ++ entries_text back ++ codes "\n")) two in
    e4 ∙ ap (λ (z : List ℕ). z ++ cell_lines_text cell) three
    ∙ pieces (heading_text cell.kind) (codes "# index ") (decimal index) (codes "# back") (entries_text back) (cell_lines_text cell) (codes "\n")

-- the index, Q and the cell are those of the primitive cell
pub primitive_from_parts : (p : PrimitiveCell) (index : ℕ) (back : Matrix) (cell : Structure) → index ≡ p.index → back ≡ p.back → cell ≡ p.cell → cell_in_basis_text index back cell ≡ cell_in_basis_text p.index p.back p.cell
primitive_from_parts p index back cell i b c =
    ap (λ (n : ℕ). cell_in_basis_text n back cell) i ∙ ap (λ (q : Matrix). cell_in_basis_text p.index q cell) b ∙ ap (cell_in_basis_text p.index p.back) c
