use Rattle.std.proofs.Common.{sym, ◌∙◌}
use Rattle.standard_cell.proofs.LimitLemmas.{not_zero, swapped}
use Rattle.standard_cell.proofs.integers.is_multiple.Goals as goal

pub returns : goal.returns
returns c = (
  (λ t. let h = c.div_exact.ensures.exact.0 (sym c.is_some.ensures ∙ t) in (h.1.0, sym h.1.1 ∙ swapped h.1.0 c.args.d)),
  (λ m. c.is_some.ensures ∙ c.div_exact.ensures.exact.1 (not_zero c.args.d c.requires, (m.0, swapped m.0 c.args.d ∙ sym m.1))),
)
