-- A number modulo another, and a translation part in steps within one cell.
use Rattle.std.proofs.Common.{◌≡◌, ℕ, ◌*◌, ◌^◌, ◌≤◌, ℤ, pos, negsuc, ◌+ℤ◌, ◌-ℤ◌, ◌*ℤ◌, ◌≤ℤ◌, ◌<ℤ◌, sym, ap, subst, ◌∙◌}
use Rattle.std.specs.Int.{int_rem_euclid, int_div_euclid}
use Rattle.ring.specs.Size.{AtMost}
use Rattle.ring.proofs.Sizes.{at_most_mul, at_most_sub, weaken}
use Rattle.crystal_spec.specs.Matrices.{Triple, multiple, difference}
use Rattle.crystal_spec.proofs.Entrywise.{triple_same}
use Rattle.positions.proofs.Residues.{euclid, remainder_within}
use Rattle.matrix3.specs.Bounds.{CoordinatesAtMost}
use Rattle.positions.specs.Positions.{IsModulo}
use Rattle.crystal_compare.specs.Search.{IsFolded}

-- the remainder is what is left of whole multiples
pub is_folded : (z n r : ℤ) → pos 0 <ℤ n → r ≡ int_rem_euclid z n → IsFolded n z r
is_folded z (negsuc n) r h e = absurd h.lt
is_folded z (pos n) r h e =
    let within = remainder_within z n h in
    record {
      at_least = subst (λ (x : ℤ). pos 0 ≤ℤ x) (sym e) within.0;
      below = subst (λ (x : ℤ). x <ℤ pos n) (sym e) within.1;
      cells = int_div_euclid z (pos n);
      same = euclid z n h ∙ ap (λ (x : ℤ). x +ℤ pos n *ℤ int_div_euclid z (pos n)) (sym e);
    }

-- three coordinates
pub folded_onto : (n m : ℕ) (u v p q : Triple) (k a b c : ℤ) (r : Triple) → u ≡ p → v ≡ q → k ≡ pos (n * m) → a ≡ u.x -ℤ v.x → b ≡ u.y -ℤ v.y → c ≡ u.z -ℤ v.z → IsFolded k a r.x → IsFolded k b r.y → IsFolded k c r.z → IsModulo (n * m) (difference p q) r
folded_onto n m u v p q k a b c r e f g ha hb hc fx fy fz =
    let x = subst (λ (z : ℤ). IsFolded z a r.x) g fx in
    let y = subst (λ (z : ℤ). IsFolded z b r.y) g fy in
    let z = subst (λ (w : ℤ). IsFolded w c r.z) g fz in
    record {
      within = record { x = (x.at_least, x.below); y = (y.at_least, y.below); z = (z.at_least, z.below) };
      cells = record { x = x.cells; y = y.cells; z = z.cells };
      same = (λ i. difference (sym e i) (sym f i)) ∙ triple_same (sym ha ∙ x.same) (sym hb ∙ y.same) (sym hc ∙ z.same);
    }

-- the differences are within the integers of the program
pub column_size : (n : ℕ) (u p : Triple) → n ≤ 10 ^ 6 → CoordinatesAtMost (10 ^ 14) p → u ≡ multiple (pos n) p → CoordinatesAtMost (10 ^ 20) u
column_size n u p h k e = subst (CoordinatesAtMost (10 ^ 20)) (sym e) (record { x = by k.x; y = by k.y; z = by k.z })
  where
    small : AtMost (10 ^ 6) (pos n)
    small = record { size = h }

    by : {z : ℤ} → AtMost (10 ^ 14) z → AtMost (10 ^ 20) (pos n *ℤ z)
    by j = weaken (10 ^ 20) (at_most_mul small j) tt

pub difference_size : (a b : ℤ) → AtMost (10 ^ 20) a → AtMost (10 ^ 20) b → AtMost (10 ^ 36) (a -ℤ b)
difference_size a b h k = weaken (10 ^ 36) (at_most_sub h k) tt
