-- The allowed count as it is told by the trace of a projector.
use Rattle.std.proofs.Common.{◌≡◌, sym, ap, ◌∙◌, ℕ, ◌+◌, ◌*◌, ◌/◌, Bool, true, false, List, arith}
use Rattle.std.specs.Prelude.{unsigned_abs, if◌then◌else◌}
use Rattle.std.proofs.lemmas.Nat.{div-mul-add}
use Rattle.numbers.specs.Fraction.{Fraction}
use Rattle.matrix3.specs.declared.matrix.Mat3.{Mat3}
use Rattle.crystal_spec.specs.declared.MomentKind.{MomentKind}
use Rattle.crystal_spec.specs.Operations.{Operation}
use Rattle.moment_space.specs.Projectors.{AllowedMoments, IsAllowedCount, projector_of}
use Rattle.moments_text.specs.MomentsText.{allowed_count, allowed_by}

-- what is once or three times a number is divided by as much
shared : (vector : Bool) (t k : ℕ) → t ≡ (if vector then 1 else 3) * k → t / (if vector then 1 else 3) ≡ k
shared true t k e = ap (λ (s : ℕ). s / 1) (e ∙ (let once : 1 * k ≡ k * 1 + 0 = omega arith in once)) ∙ div-mul-add k 1 0 (omega arith)
shared false t k e = ap (λ (s : ℕ). s / 3) (e ∙ (let thrice : 3 * k ≡ k * 3 + 0 = omega arith in thrice)) ∙ div-mul-add k 3 0 (omega arith)

pub count_is : (kind : MomentKind) (p : Mat3 Fraction) (k : ℕ) → IsAllowedCount kind p k → allowed_count kind p ≡ k
count_is kind p k h = shared kind.vector _ k (ap (λ (f : Fraction). unsigned_abs f.numerator) h)

-- a projector with its count
pub allowed_is : (kind : MomentKind) (os : List Operation) (a : AllowedMoments) → a.kind ≡ kind → a.projector ≡ projector_of kind os → IsAllowedCount kind a.projector a.count → a ≡ allowed_by kind os
allowed_is kind os a ek ep h =
    let ec : a.count ≡ allowed_count kind (projector_of kind os) = sym (count_is kind a.projector a.count h) ∙ ap (allowed_count kind) ep in
    λ i. record { kind = ek i; projector = ep i; count = ec i }
