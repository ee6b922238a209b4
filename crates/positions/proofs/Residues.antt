-- Positions modulo n: division with rest, coordinate by coordinate.
--   euclid, remainder_within           division with rest
--   modulo_away, modulo_within         a position modulo n is within the cell, and whole cells apart from it
--   is_modulo, modulo_once, modulo_only    and it alone is
--   is_residues                        the residues of the coordinates are the position modulo n
--   cells_within                       whole cells within one cell are none
use Rattle.std.proofs.Common.{◌≡◌, refl, sym, [], ◌∷◌, ◌++◌, ◌≤◌, ℕ, ◌+◌, ◌*◌, ◌-◌, ◌/◌, ◌%◌, ◌<◌, suc, zero, ℤ, pos, negsuc, ◌+ℤ◌, ◌*ℤ◌, ◌≤ℤ◌, ◌<ℤ◌, ap, subst, ◌∙◌, arith, mod-lt}
use Rattle.std.specs.Int.{int_rem_euclid, int_div_euclid}
use Rattle.std.proofs.lemmas.Int.{ints}
use Rattle.std.proofs.lemmas.Nat.{div-add-mod'}
use Rattle.ring.specs.Ring.{quoted, var, con}
use Rattle.matrix3.specs.Matrices.{coordinates, vector_of_variables, vector_map}
use Rattle.matrix3.specs.Matrices as formulas
use Rattle.numbers.specs.Residue.{residue}
use Rattle.numbers.proofs.ResidueRing.{residue-euclid}
use Rattle.crystal_spec.specs.Matrices.{Triple, sum_of, multiple, difference}
use Rattle.crystal_spec.proofs.Identities.{by_triples}
use Rattle.crystal_spec.proofs.Images.{same_within}
use Rattle.positions.specs.Positions.{origin, IsWholeCells, modulo, IsModulo}
use Rattle.crystal_spec.specs.Operations.{IsWithinCell}
use Rattle.crystal_spec.specs.Cells.{DiffersByCells}
use Rattle.crystal_spec.proofs.Entrywise.{triple_same}

some_n : (n : ℕ) → pos 0 <ℤ pos n → 0 < n
some_n n h = omega (arith, ints)

below_zero : (a n q r : ℕ) → 0 < n → q * n + r ≡ a → r < n → negsuc a ≡ pos (n - 1 - r) +ℤ pos n *ℤ negsuc q
below_zero a n q r p e h = omega (arith, ints)

from_zero : (a n q r : ℕ) → q * n + r ≡ a → pos a ≡ pos r +ℤ pos n *ℤ pos q
from_zero a n q r e = omega (arith, ints)

-- division with rest
pub euclid : (z : ℤ) (n : ℕ) → pos 0 <ℤ pos n → z ≡ int_rem_euclid z (pos n) +ℤ pos n *ℤ int_div_euclid z (pos n)
euclid (pos a) n p = from_zero a n (a / n) (a % n) (div-add-mod' a n)
euclid (negsuc a) n p = below_zero a n (a / n) (a % n) (some_n n p) (div-add-mod' a n) (mod-lt a (some_n n p))

-- the rest is from 0 to n - 1
pub remainder_within : (z : ℤ) (n : ℕ) → pos 0 <ℤ pos n → (pos 0 ≤ℤ int_rem_euclid z (pos n)) × (int_rem_euclid z (pos n) <ℤ pos n)
remainder_within (pos a) n p = let h = mod-lt a (some_n n p) in (omega (arith, ints), omega (arith, ints))
remainder_within (negsuc a) n p = let h = mod-lt a (some_n n p) in let q = some_n n p in (omega (arith, ints), omega (arith, ints))

-- a position differs from what it is modulo n by whole cells
pub modulo_away : (n : ℕ) (p : Triple) → pos 0 <ℤ pos n → DiffersByCells n p (modulo n p)
unfolding modulo
modulo_away n p h = record {
  cells = record { x = int_div_euclid p.x (pos n); y = int_div_euclid p.y (pos n); z = int_div_euclid p.z (pos n) };
  is = triple_same (euclid p.x n h) (euclid p.y n h) (euclid p.z n h);
}

-- which is within one cell
pub modulo_within : (n : ℕ) (p : Triple) → pos 0 <ℤ pos n → IsWithinCell n (modulo n p)
unfolding modulo
modulo_within n p h = record { x = remainder_within p.x n h; y = remainder_within p.y n h; z = remainder_within p.z n h }

multiple_within : (n : ℕ) (d : ℤ) → pos 0 ≤ℤ (pos n *ℤ d) → (pos n *ℤ d) <ℤ pos n → pos n *ℤ d ≡ pos 0
multiple_within n (pos zero) h k = omega (arith, ints)
multiple_within n (pos (suc d)) h k = absurd (omega (arith, ints))
multiple_within zero (negsuc d) h k = omega (arith, ints)
multiple_within (suc n) (negsuc d) h k = absurd (omega (arith, ints))

-- whole cells within one cell are none
pub cells_within : (n : ℕ) (t : Triple) → IsWithinCell n t → IsWholeCells n t → t ≡ origin
cells_within n t s d = triple_same (by t.x d.cells.x s.x.0 s.x.1 (ap (λ (v : Triple). v.x) d.is)) (by t.y d.cells.y s.y.0 s.y.1 (ap (λ (v : Triple). v.y) d.is)) (by t.z d.cells.z s.z.0 s.z.1 (ap (λ (v : Triple). v.z) d.is))
  where
    by : (a d : ℤ) → pos 0 ≤ℤ a → a <ℤ pos n → a ≡ pos n *ℤ d → a ≡ pos 0
    by a d h k e = e ∙ multiple_within n d (subst (λ (z : ℤ). pos 0 ≤ℤ z) e h) (subst (λ (z : ℤ). z <ℤ pos n) e k)

-- a position modulo n is within the cell and whole cells apart
pub is_modulo : (n : ℕ) (p q : Triple) → 1 ≤ n → q ≡ modulo n p → IsModulo n p q
is_modulo n p q one e =
    let some : pos 0 <ℤ pos n = omega (arith, ints) in
    let away = modulo_away n p some in
    subst (IsModulo n p) (sym e) (record { within = modulo_within n p some; cells = away.cells; same = away.is })

-- two positions within the cell that are whole cells apart from one are one
pub modulo_once : (n : ℕ) (p q r : Triple) → IsModulo n p q → IsModulo n p r → q ≡ r
modulo_once n p q r f g = same_within n q r (difference g.cells f.cells) f.within g.within (taken q r f.cells g.cells (pos n) (sym f.same ∙ g.same))
  where
    taken_off : (a l : Triple) (n : ℤ) → a ≡ sum_of (sum_of a (multiple n l)) (multiple n (multiple (negsuc 0) l))
    taken_off a l n =
        let x = vector_of_variables 0 in
        let y = vector_of_variables 3 in
        by_triples (coordinates a ++ coordinates l ++ n ∷ []) x (formulas.sum_of quoted (formulas.sum_of quoted x (formulas.multiple quoted (var 6) y)) (formulas.multiple quoted (var 6) (formulas.multiple quoted (con (negsuc 0)) y))) refl

    taken : (a b l k : Triple) (n : ℤ) → sum_of a (multiple n l) ≡ sum_of b (multiple n k) → a ≡ sum_of b (multiple n (difference k l))
    taken a b l k n e =
        let x = vector_of_variables 0 in
        let y = vector_of_variables 3 in
        let u = vector_of_variables 6 in
        taken_off a l n ∙ ap (λ (p : Triple). sum_of p (multiple n (multiple (negsuc 0) l))) e
        ∙ by_triples (coordinates b ++ coordinates k ++ coordinates l ++ n ∷ [])
        (formulas.sum_of quoted (formulas.sum_of quoted x (formulas.multiple quoted (var 9) y)) (formulas.multiple quoted (var 9) (formulas.multiple quoted (con (negsuc 0)) u)))
        (formulas.sum_of quoted x (formulas.multiple quoted (var 9) (formulas.difference quoted y u))) refl

-- the position modulo n is the only one within the cell from which a position is whole cells apart
pub modulo_only : (n : ℕ) (p q : Triple) → 1 ≤ n → IsModulo n p q → q ≡ modulo n p
modulo_only n p q one f = modulo_once n p q (modulo n p) f (is_modulo n p (modulo n p) one refl)

-- the residues of the coordinates are the position modulo n
pub is_residues : (n : ℕ) (p : Triple) → 1 ≤ n → IsModulo n p (vector_map (residue n) p)
unfolding modulo
is_residues n p one = is_modulo n p (vector_map (residue n) p) one (triple_same (residue-euclid n p.x one) (residue-euclid n p.y one) (residue-euclid n p.z one))
