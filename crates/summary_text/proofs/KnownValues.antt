-- The summary of a few cells.
use Rattle.std.proofs.Common.{◌≡◌, refl}
use Rattle.std.specs.Prelude.{codes}
use Rattle.std.specs.Fmt.{digits}
use Rattle.summary_text.specs.SummaryText.{line_text, summary_text}

summary_of_512_atoms : summary_text 512 64 8 3 512 ≡ codes "atoms 512\nindex 64\norder 8\ntype 3\ncell_order 512\n"
unfolding digits
summary_of_512_atoms = refl

summary_of_one_atom : summary_text 1 1 96 2 96 ≡ codes "atoms 1\nindex 1\norder 96\ntype 2\ncell_order 96\n"
unfolding digits
summary_of_one_atom = refl

a_line_of_0 : line_text (codes "order") 0 ≡ codes "order 0\n"
unfolding digits
a_line_of_0 = refl
