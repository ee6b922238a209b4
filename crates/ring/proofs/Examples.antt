-- The solver at expressions that are written by hand, and with an equation that is given.
use Rattle.std.proofs.Common.{◌≡◌, [], ◌∷◌, ℤ, pos, ◌+ℤ◌, ◌-ℤ◌, ◌*ℤ◌, refl}
use Rattle.ring.specs.Ring.{int_ops, var, con, ◌:+◌, ◌:-◌, ◌:*◌}
use Rattle.ring.proofs.Solving.{by_ring, at, solve_from}
use Rattle.ring.proofs.IntRing.{int_laws}

square_of_difference : (a b : ℤ) → (a +ℤ b) *ℤ (a +ℤ b) -ℤ pos 4 *ℤ (a *ℤ b) ≡ (a -ℤ b) *ℤ (a -ℤ b)
square_of_difference a b =
    let x = var 0 in
    let y = var 1 in
    by_ring int_ops int_laws (a ∷ b ∷ []) ((x :+ y) :* (x :+ y) :- con (pos 4) :* (x :* y)) ((x :- y) :* (x :- y)) refl

-- from x² = 2, at q = 1: s + q r and t + q l come to one polynomial
from_root : (x : ℤ) → x *ℤ x ≡ pos 2 → (x +ℤ pos 1) *ℤ (x -ℤ pos 1) ≡ pos 1
from_root x e =
    let v = var 0 in
    solve_from int_ops int_laws (at int_ops int_laws (x ∷ [])) ((v :+ con (pos 1)) :* (v :- con (pos 1))) (con (pos 1)) (con (pos 1)) (v :* v) (con (pos 2)) e refl
