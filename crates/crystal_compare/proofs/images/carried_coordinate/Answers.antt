use Rattle.std.proofs.Common.{◌≡◌, ℕ, ◌^◌, ℤ, pos, ◌+ℤ◌, ◌*ℤ◌, sym, ap, subst, ◌∙◌, to_z-of_z}
use Rattle.ring.specs.Size.{AtMost}
use Rattle.ring.proofs.Sizes.{fits}
use Rattle.numbers.specs.Residue.{residue}
use Rattle.std.specs.Prelude.{◌<◌}
use Rattle.std.proofs.Common.{false, true}
use Rattle.crystal_compare.proofs.Imaging.{coordinate_found, no_quotient}
use Rattle.crystal_compare.proofs.images.carried_coordinate.Goals as goal

pub returns-in-Some-clause-found : goal.returns-in-Some-clause-found
returns-in-Some-clause-found c =
    let q = c.in-Some.q in
    let size = subst (λ (z : ℤ). AtMost (10 ^ 36) z) (sym c.get.ensures.value) c.get.ensures.size in
    let is : q *ℤ pos c.args.n ≡ pos c.args.m *ℤ c.args.x +ℤ c.args.t =
    ap (λ (z : ℤ). q *ℤ z) (sym c.from-2.ensures) ∙ c.in-Some.ensures.value ∙ c.add-sum.ensures ∙ ap (λ (z : ℤ). z +ℤ c.args.t) (c.mul.ensures ∙ ap (λ (z : ℤ). z *ℤ c.args.x) c.from.ensures) in
    coordinate_found c.args.n c.args.m c.args.x c.args.t q c.get-in-Some.result (subst (λ (m : ℕ). c.get-in-Some.result < m) c.new.ensures.modulus c.get-in-Some.ensures.below) is
    (c.get-in-Some.ensures.value ∙ c.new.ensures.value ∙ ap (residue c.args.m) (to_z-of_z (fits size tt) ∙ c.get.ensures.value))

pub returns-in-None-clause-absent : goal.returns-in-None-clause-absent
returns-in-None-clause-absent c q e =
    let sum : c.add-sum.result ≡ pos c.args.m *ℤ c.args.x +ℤ c.args.t = c.add-sum.ensures ∙ ap (λ (z : ℤ). z +ℤ c.args.t) (c.mul.ensures ∙ ap (λ (z : ℤ). z *ℤ c.args.x) c.from.ensures) in
    no_quotient c.args.n c.from-2.result q c.add-sum.result c.requires.n_at_least c.from-2.ensures (e ∙ sym sum) (λ k. let h : false ≡ true = c.in-None.ensures.exact.1 k in cc h)
