use Rattle.std.proofs.Common.{◌≡◌, ◌^◌, ◌<◌, ℕ, ℤ, pos, negsuc, ◌≤ℤ◌, refl, sym, subst, ◌∙◌, arith}
use Rattle.std.proofs.lemmas.Int.{ints}
use Rattle.matrix3.proofs.FitsBySize.{determinant_fits}
use Rattle.standard_cell.proofs.frame.index_of.Goals as goal

number : (d : ℤ) → pos 1 ≤ℤ d → d ≤ℤ pos 1728 → (k : ℕ) × (k < 2 ^ 32) × (d ≡ pos k)
number (pos n) h l = (n, omega (arith, ints, l), refl)
number (negsuc n) h l = absurd h.le

pub handed-requires-clause-fits : goal.handed-requires-clause-fits
handed-requires-clause-fits c = determinant_fits c.args.turn.now c.requires.turn tt tt

pub natural-requires : goal.natural-requires
natural-requires c = subst (λ (d : ℤ). (k : ℕ) × (k < 2 ^ 32) × (d ≡ pos k)) (sym c.handed.ensures.value) (number _ c.requires.at_least c.requires.at_most)

pub returns : goal.returns
returns c = c.natural.ensures ∙ c.handed.ensures.value
