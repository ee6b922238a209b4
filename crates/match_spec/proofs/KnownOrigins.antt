-- Balanced origins suffice, and there are k³ of them in the cell.
use Rattle.std.proofs.Common.{◌≡◌, ℕ, ℤ, pos, ◌*ℤ◌, ◌<ℤ◌, List, [], ◌∷◌, ◌++◌, length, refl, sym, ◌∙◌, ap}
use Rattle.ring.specs.Ring.{var, con, quoted, ◌:*◌}
use Rattle.ring.proofs.IntOrder.{mul_pos}
use Rattle.matrix3.specs.Matrices.{coordinates, vector_of_variables}
use Rattle.matrix3.specs.Matrices as formulas
use Rattle.crystal_spec.specs.Matrices.{Triple, Matrix, product, determinant, multiple, sum_of, difference}
use Rattle.crystal_spec.specs.Operations.{Operation}
use Rattle.crystal_spec.proofs.Identities.{by_integers, by_triples}
use Rattle.crystal_spec.proofs.Isometries.{determinant-product}
use Rattle.crystal_spec.proofs.Entrywise.{triple_same}
use Rattle.positions.specs.Positions.{triple}
use Rattle.op_group.specs.Groups.{IsGroupModulo}
use Rattle.mag_type.specs.MagneticTypes.{HasOnlyZeroTranslation}
use Rattle.match_spec.specs.Points.{point}
use Rattle.match_spec.specs.Maps.{Pair, balance}
use Rattle.match_spec.specs.FirstMap.{IsClass}
use Rattle.match_spec.specs.BalancedOrigins.{BalancedOriginsSuffice, BalancedOriginsAreKnown}
use Rattle.match_spec.proofs.Wholes.{not_zero}
use Rattle.match_spec.proofs.Moves.{lit_pos, Floor, floor}
use Rattle.match_spec.proofs.Origins.{balance_units, origins, some_pair}
use Rattle.match_spec.proofs.Candidates.{IsReduced, place_balanced, balanced_place, places_differ}
use Rattle.match_spec.proofs.Balances.{reduced_balance}
use Rattle.match_spec.proofs.ListedGroups.{some_cells, group_of, primitive_of, step_facts}

-- Q = P S has a determinant other than 0
nonzero_turn : (s c : Matrix) → pos 0 <ℤ determinant s → IsClass c → determinant (product c s) ≡ pos 0 → ⊥
nonzero_turn s c above ic e =
    not_zero (determinant s) above (one (determinant s) ∙ (ap (λ (z : ℤ). z *ℤ determinant s) (sym ic.proper) ∙ (sym (determinant-product c s) ∙ e)))
  where
    one : (z : ℤ) → z ≡ pos 1 *ℤ z
    one z = by_integers (z ∷ []) (var 0) (con (pos 1) :* var 0) refl

pub origins_suffice : (h : List Operation) (n : ℕ) (m : List Operation) → IsGroupModulo 12 h → IsGroupModulo n m → HasOnlyZeroTranslation m → BalancedOriginsSuffice h n m
origins_suffice h n m gh g pr step class cs p is ic ps ip ca =
    let o = origins (product class step) p h (pos n) m cs (nonzero_turn step class (step_facts h step gh is).above ic) (some_cells n m g) (group_of n m g) (primitive_of n m pr) ps ip ca in
    (o.0, record { is_point = o.1.is_point; in_cell = o.1.in_cell; balanced = o.1.balanced; carries = o.1.carries })

-- the balance in the cell
record HasStart (q : Matrix) (n : ℤ) (cs : List Pair) : Type 0 where
  start : Triple
  is : IsReduced (balance q n cs) (point start (n *ℤ pos 12))

start_of : (q : Matrix) (n : ℤ) (cs : List Pair) → pos 0 <ℤ n → HasStart q n cs
start_of q n cs pn = record {
  start = triple x.rest y.rest z.rest;
  is = reduced_balance q n cs (triple x.rest y.rest z.rest) pn (record { x_low = x.low; x_high = x.high; y_low = y.low; y_high = y.high; z_low = z.low; z_high = z.high }) (record { quotient = triple x.whole y.whole z.whole; is = ap (λ v. difference v (triple x.rest y.rest z.rest)) (triple_same x.is y.is z.is) ∙ off (n *ℤ pos 12) (triple x.whole y.whole z.whole) (triple x.rest y.rest z.rest) });
}
  where
    d : pos 0 <ℤ (n *ℤ pos 12)
    d = mul_pos n (pos 12) pn (lit_pos 11)

    x : Floor (n *ℤ pos 12) (balance_units q n (pos 12) cs).x
    x = floor (n *ℤ pos 12) (balance_units q n (pos 12) cs).x d

    y : Floor (n *ℤ pos 12) (balance_units q n (pos 12) cs).y
    y = floor (n *ℤ pos 12) (balance_units q n (pos 12) cs).y d

    z : Floor (n *ℤ pos 12) (balance_units q n (pos 12) cs).z
    z = floor (n *ℤ pos 12) (balance_units q n (pos 12) cs).z d

    off : (d : ℤ) (f r : Triple) → difference (sum_of (multiple d f) r) r ≡ multiple d f
    off d f r = by_triples (d ∷ (coordinates f ++ coordinates r)) (formulas.difference quoted (formulas.sum_of quoted (formulas.multiple quoted (var 0) (vector_of_variables 1)) (vector_of_variables 4)) (vector_of_variables 4)) (formulas.multiple quoted (var 0) (vector_of_variables 1)) refl

pub origins_known : (h : List Operation) (n : ℕ) (m : List Operation) → IsGroupModulo n m → BalancedOriginsAreKnown h n m
origins_known h n m g step class cs ps =
    let q = product class step in
    let k = pos (length cs) in
    let pk : pos 0 <ℤ k = some_pair (pos n) m cs (group_of n m g) ps.matrices in
    let s = start_of q (pos n) cs (some_cells n m g) in
    let r = point s.start (pos n *ℤ pos 12) in (
      r,
      record {
        is_point = λ z iz. (place_balanced k (balance q (pos n) cs) r z pk s.is iz).0;
        in_cell = λ z iz. (place_balanced k (balance q (pos n) cs) r z pk s.is iz).1.0;
        balanced = λ z iz. (place_balanced k (balance q (pos n) cs) r z pk s.is iz).1.1;
        all = λ p ip cp bp. balanced_place k (balance q (pos n) cs) r p pk s.is ip cp bp;
        differ = λ y z e. places_differ k r y z pk s.is.is_point e;
      },
    )
