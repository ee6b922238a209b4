-- The n of the units of a standard cell.
use Rattle.std.proofs.Common.{◌≡◌, ℕ, ◌^◌, ℤ, pos, negsuc, ◌*ℤ◌, neg_ℤ, ◌+ℤ◌, ◌<ℤ◌, ◌≤ℤ◌, [], ◌∷◌, refl, sym, ap, subst, ◌∙◌, arith}
use Rattle.std.specs.Prelude.{unsigned_abs}
use Rattle.std.proofs.lemmas.Int.{ints}
use Rattle.ring.specs.Ring.{var, ◌:+◌, ◌:-◌, ◌:*◌}
use Rattle.ring.proofs.IntOrder.{mul_nonneg, le_by, weaken_lt}
use Rattle.crystal_spec.specs.Crystals.{Structure}
use Rattle.crystal_spec.proofs.Identities.{by_integers}
use Rattle.basis_spec.proofs.Positive.{pos_of_mul}
use Rattle.standard_cell.specs.declared.frame.Frame.{Frame}
use Rattle.standard_cell.specs.declared.limits.Units.{Units}
use Rattle.standard_cell.specs.PlaceDivisors.{full}
use Rattle.standard_cell.specs.Frames.{IsFrame, full_of, origin_of}
use Rattle.standard_cell.specs.Rooms.{AreUnits}
use Rattle.standard_cell.proofs.CopyLemmas.{full_is, full_above}

module _ (c : Structure) (f : Frame) (frame : IsFrame f) (same : f.n ≡ c.n) (u : Units) (units : AreUnits c f.turn (origin_of f) u) where
  -- e is the divisor times n
  pub units_whole : full_of f ≡ u.divisor *ℤ u.n
  units_whole = sym (full_is f frame) ∙ ap (λ (n : ℕ). full f.turn (origin_of f) (pos n)) same ∙ units.n_is

  pub units_positive : pos 0 <ℤ u.n
  units_positive = pos_of_mul u.divisor u.n units.divisor_is.positive (subst (λ (z : ℤ). pos 0 <ℤ z) units_whole (full_above f frame))

  natural : (z : ℤ) → pos 0 <ℤ z → pos (unsigned_abs z) ≡ z
  natural (pos n) h = refl
  natural (negsuc n) h = absurd h.lt

  pub units_natural : pos 0 <ℤ pos (unsigned_abs u.n)
  units_natural = subst (λ (z : ℤ). pos 0 <ℤ z) (sym (natural u.n units_positive)) units_positive

  pub units_parts : full_of f ≡ u.divisor *ℤ pos (unsigned_abs u.n)
  units_parts = units_whole ∙ ap (λ (z : ℤ). u.divisor *ℤ z) (sym (natural u.n units_positive))

  pub units_few : u.n ≤ℤ pos (10 ^ 6) → full_of f ≤ℤ (u.divisor *ℤ pos (10 ^ 6))
  units_few h = subst (λ (z : ℤ). z ≤ℤ (u.divisor *ℤ pos (10 ^ 6))) (sym units_whole) (grown u.divisor u.n (pos (10 ^ 6)) (weaken_lt (pos 0) u.divisor units.divisor_is.positive) h)
    where
      grown : (d a b : ℤ) → pos 0 ≤ℤ d → a ≤ℤ b → (d *ℤ a) ≤ℤ (d *ℤ b)
      grown d a b above h = le_by (d *ℤ a) (d *ℤ b) (d *ℤ (b +ℤ neg_ℤ a)) (by_integers (d ∷ a ∷ b ∷ []) (var 0 :* var 2) (var 0 :* var 1 :+ var 0 :* (var 2 :- var 1)) refl) (mul_nonneg d (b +ℤ neg_ℤ a) above (rest a b h))
        where
          rest : (a b : ℤ) → a ≤ℤ b → pos 0 ≤ℤ (b +ℤ neg_ℤ a)
          rest a b h = omega (arith, ints)
