use Rattle.std.proofs.Common.{ℕ, ◌*◌, ◌%◌, ap, refl, ◌∙◌, eqb}
use Rattle.plain_text.proofs.Signs.{signed-mul}
use Rattle.plain_text.proofs.number.is_same_modulo_1.Goals as goal

pub returns : goal.returns
returns c =
    let f = c.args.f.now in
    let g = c.args.g.now in
    c.is_multiple_of.ensures ∙ ap (λ (m : ℕ). eqb (m % (f.den * g.den)) 0) (c.apart-apart.ensures ∙ rw (signed-mul f.negative f.num g.den, signed-mul g.negative g.num f.den) refl)
