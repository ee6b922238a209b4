use Rattle.std.proofs.Common.{◌≡◌, ◌^◌, ◌≤◌, ◌∙◌, ap, sym, subst, ℤ, pos, ◌≤ℤ◌, SFits, to_z, of_z, to_z-of_z, arith}
use Rattle.std.specs.Prelude.{unsigned_abs}
use mir.Syntax.{w128}
use Rattle.ring.specs.Size.{AtMost}
use Rattle.ring.proofs.IntOrder.{lit_nonneg, weaken_lt}
use Rattle.ring.proofs.Sizes.{fits}
use Rattle.numbers.specs.Gcd.{gcd}
use Rattle.group_match.proofs.Outcomes.{of_some}
use Rattle.standard_cell.proofs.Commons.{common_is, common_size}
use Rattle.standard_cell.proofs.divisor.common.Goals as goal

-- a value of the type, as it is handed on
held : (z w : ℤ) → z ≡ w → AtMost (10 ^ 36) w → to_z w128 (of_z w128 z) ≡ w
held z w e small = ap (λ (i : ℤ). to_z w128 (of_z w128 i)) e ∙ to_z-of_z (fits small tt)

fitting : (z w : ℤ) → z ≡ w → AtMost (10 ^ 36) w → SFits w128 (to_z w128 (of_z w128 z))
fitting z w e small = subst (SFits w128) (sym (held z w e small)) (fits small tt)

size_of : (z : ℤ) → AtMost (10 ^ 36) z → AtMost (10 ^ 36) (pos (unsigned_abs z))
size_of z a = record { size = a.size }

abs_is : (a x y : ℤ) → a ≡ pos (unsigned_abs (to_z w128 (of_z w128 y))) → y ≡ x → AtMost (10 ^ 36) x → a ≡ pos (unsigned_abs x)
abs_is a x y e f small = e ∙ ap (λ (z : ℤ). pos (unsigned_abs z)) (held y x f small)

smaller : (r g : ℤ) → unsigned_abs r ≤ unsigned_abs g → AtMost (10 ^ 36) g → AtMost (10 ^ 36) r
smaller r g h a = let s = a.size in record { size = omega (arith, h, s) }

pub gcd-requires : goal.gcd-requires
gcd-requires c =
    let x = c.args.x in
    let abs : c.abs.result ≡ pos (unsigned_abs x) = abs_is c.abs.result x c.get.result c.abs.ensures.value c.get.ensures.value c.get.ensures.size in
    record {
      a = fitting c.abs.result (pos (unsigned_abs x)) abs (size_of x c.get.ensures.size);
      b = fitting c.get-2.result c.args.g c.get-2.ensures.value c.get-2.ensures.size;
      a_at_least_0 = subst (λ (z : ℤ). pos 0 ≤ℤ z) (sym (held c.abs.result (pos (unsigned_abs x)) abs (size_of x c.get.ensures.size))) (lit_nonneg (unsigned_abs x));
      b_at_least_0 = subst (λ (z : ℤ). pos 0 ≤ℤ z) (sym (held c.get-2.result c.args.g c.get-2.ensures.value c.get-2.ensures.size)) (weaken_lt (pos 0) c.args.g c.requires);
    }

pub unwrap-requires : goal.unwrap-requires
unwrap-requires c =
    let x = c.args.x in
    let abs : c.abs.result ≡ pos (unsigned_abs x) = abs_is c.abs.result x c.get.result c.abs.ensures.value c.get.ensures.value c.get.ensures.size in
    let is : c.gcd.result ≡ pos (gcd (unsigned_abs x) (unsigned_abs c.args.g)) = c.gcd.ensures.value ∙ (λ i. pos (gcd (unsigned_abs (held c.abs.result (pos (unsigned_abs x)) abs (size_of x c.get.ensures.size) i)) (unsigned_abs (held c.get-2.result c.args.g c.get-2.ensures.value c.get-2.ensures.size i)))) in
    let small : AtMost (10 ^ 36) c.gcd.result = smaller c.gcd.result c.args.g (common_size c.args.g x c.gcd.result c.requires is) c.get-2.ensures.size in
    c.new.ensures.exact.1 (subst (AtMost (10 ^ 36)) (sym (to_z-of_z (fits small tt))) small)

pub returns : goal.returns
returns c =
    let x = c.args.x in
    let abs : c.abs.result ≡ pos (unsigned_abs x) = abs_is c.abs.result x c.get.result c.abs.ensures.value c.get.ensures.value c.get.ensures.size in
    let is : c.gcd.result ≡ pos (gcd (unsigned_abs x) (unsigned_abs c.args.g)) = c.gcd.ensures.value ∙ (λ i. pos (gcd (unsigned_abs (held c.abs.result (pos (unsigned_abs x)) abs (size_of x c.get.ensures.size) i)) (unsigned_abs (held c.get-2.result c.args.g c.get-2.ensures.value c.get-2.ensures.size i)))) in
    let small : AtMost (10 ^ 36) c.gcd.result = smaller c.gcd.result c.args.g (common_size c.args.g x c.gcd.result c.requires is) c.get-2.ensures.size in
    common_is c.args.g x c.unwrap.result c.requires (of_some (λ (r : ℤ). r ≡ to_z w128 (of_z w128 c.gcd.result)) c.new.result c.unwrap.result c.new.ensures.value c.unwrap.ensures ∙ to_z-of_z (fits small tt) ∙ is)
