use Rattle.std.proofs.Common.{ℕ, ap, map, ◌∙◌, Vec, Global}
use Rattle.cell_text.specs.Lines.{same_word}
use Rattle.cell_text.proofs.FirstUse.{names_map, position_map}
use Rattle.cell_text.proofs.names.number_name.Goals as goal

pub returns-clause-names : goal.returns-clause-names
returns-clause-names c = ap (map (λ (v : Vec ℕ Global). v.items)) c.in-Ok.ensures.keys ∙ names_map (λ (v : Vec ℕ Global). v.items) c.args.names.now.keys c.args.name

pub returns-clause-number : goal.returns-clause-number
returns-clause-number c = c.in-Ok.ensures.index ∙ position_map (same_word c.args.name.items) (λ (v : Vec ℕ Global). v.items) c.args.names.now.keys
