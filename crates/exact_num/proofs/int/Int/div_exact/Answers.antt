use Rattle.std.proofs.Common.{◌≡◌, ◌*ℤ◌, ap, sym, ◌∙◌, pos, refl, SFits, to_z, of_z, to_z-of_z}
use Rattle.std.specs.Prelude.{int_div, int_rem}
use mir.Syntax.{w128}
use Rattle.ring.proofs.Sizes.{fits}
use Rattle.exact_num.proofs.Remainders.{exact_division, rem-multiple, quot-size, rem-size}
use Rattle.exact_num.proofs.int.Int.div_exact.Goals as goal

pub returns-then-self-other-eq0 : goal.returns-then-self-other-eq0
returns-then-self-other-eq0 c =
    let a = c.self.inside.value in
    let d = c.other.inside.value in
    let fa : SFits w128 a = fits c.self.invariant tt in
    let fd : SFits w128 d = fits c.other.invariant tt in
    let fq : SFits w128 (int_div a d) = fits (quot-size a d c.self.invariant) tt in
    let fr : SFits w128 (int_rem a d) = fits (rem-size a d c.self.invariant) tt in
    let z : int_rem a d ≡ pos 0 = sym (to_z-of_z fr) ∙ ap (to_z w128) (simp to_z-of_z at c.if-self-other-eq0.true) in
    let e : int_div a d *ℤ c.args.other.now ≡ c.args.self.now = ap (λ w. int_div a d *ℤ w) (sym c.other.view_is) ∙ exact_division a d z ∙ c.self.view_is in
    record {
      value = simp to_z-of_z e;
      exact = (λ t. (λ n. c.if-other-eq0.false (ap (of_z w128) (c.other.view_is ∙ n)), (int_div a d, e)), λ h. refl);
    }

pub returns-else-self-other-eq0-clause-exact : goal.returns-else-self-other-eq0-clause-exact
returns-else-self-other-eq0-clause-exact c =
    let a = c.self.inside.value in
    let d = c.other.inside.value in
    let fa : SFits w128 a = fits c.self.invariant tt in
    let fd : SFits w128 d = fits c.other.invariant tt in
    let some : of_z w128 (int_rem a d) ≡ 0 → ⊥ = simp to_z-of_z at c.if-self-other-eq0.false in
    (λ t. cc, λ h. absurd (some (ap (of_z w128) (rem-multiple a d h.1.0 (ap (λ w. h.1.0 *ℤ w) c.other.view_is ∙ h.1.1 ∙ sym c.self.view_is)))))
