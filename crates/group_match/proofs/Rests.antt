-- The excess of a pair by coordinates.
use Rattle.std.proofs.Common.{◌≡◌, refl, sym, ap, subst, ◌∙◌, ℤ, pos, ◌*ℤ◌, ◌∷◌, ◌++◌}
use Rattle.std.specs.Prelude.{◌↔◌}
use Rattle.ring.specs.Ring.{Expr, var, con, quoted, opposite, ◌:-◌}
use Rattle.matrix3.specs.declared.matrix.Mat3.{Mat3}
use Rattle.matrix3.specs.Matrices.{dot, coordinates, entries, vector_of_variables, matrix_of_variables}
use Rattle.matrix3.specs.Matrices as formulas
use Rattle.crystal_spec.specs.Matrices.{Triple, Matrix, image, multiple, sum_of, difference}
use Rattle.crystal_spec.proofs.Identities.{by_triples}
use Rattle.crystal_spec.proofs.Entrywise.{triple_same}
use Rattle.positions.specs.Positions.{triple}
use Rattle.match_spec.specs.Points.{IsWhole}
use Rattle.match_spec.specs.Maps.{Pair}
use Rattle.match_spec.specs.Searching.{gap_of, excess_at}
use Rattle.group_match.specs.Rows.{IsMultiple, IsWholeAt, identity_less, rest_of}

-- the three coordinates
split_whole : (d : ℤ) (v : Triple) → IsWhole d v ↔ (IsMultiple d v.x × (IsMultiple d v.y × IsMultiple d v.z))
split_whole d v = (
  (λ w. (record { quotient = w.quotient.x; is = ap (λ (t : Triple). t.x) w.is }, (record { quotient = w.quotient.y; is = ap (λ (t : Triple). t.y) w.is }, record { quotient = w.quotient.z; is = ap (λ (t : Triple). t.z) w.is }))),
  (λ m. record { quotient = triple m.0.quotient m.1.0.quotient m.1.1.quotient; is = triple_same m.0.is m.1.0.is m.1.1.is }),
)

-- (I - V) (r + d z) - k g by coordinates
rows_of_excess : (d k : ℤ) (v : Matrix) (r z g : Triple) → difference (difference (sum_of r (multiple d z)) (image v (sum_of r (multiple d z)))) (multiple k g) ≡ difference (multiple d (image (identity_less v) z)) (difference (multiple k g) (difference r (image v r)))
rows_of_excess d k v r z g =
    let m = matrix_of_variables 11 in
    let less : Mat3 Expr = record { a11 = con (pos 1) :- m.a11; a12 = opposite m.a12; a13 = opposite m.a13; a21 = opposite m.a21; a22 = con (pos 1) :- m.a22; a23 = opposite m.a23; a31 = opposite m.a31; a32 = opposite m.a32; a33 = con (pos 1) :- m.a33 } in
    by_triples (d ∷ k ∷ (coordinates r ++ coordinates z ++ coordinates g ++ entries v)) (formulas.difference quoted (formulas.difference quoted (formulas.sum_of quoted (vector_of_variables 2) (formulas.multiple quoted (var 0) (vector_of_variables 5))) (formulas.image quoted m (formulas.sum_of quoted (vector_of_variables 2) (formulas.multiple quoted (var 0) (vector_of_variables 5))))) (formulas.multiple quoted (var 1) (vector_of_variables 8))) (formulas.difference quoted (formulas.multiple quoted (var 0) (formulas.image quoted less (vector_of_variables 5))) (formulas.difference quoted (formulas.multiple quoted (var 1) (vector_of_variables 8)) (formulas.difference quoted (vector_of_variables 2) (formulas.image quoted m (vector_of_variables 2))))) refl

-- the excess of a pair is whole where its three coordinates are
pub excess_rows : (q : Matrix) (n k : ℤ) (r z : Triple) (c : Pair) (d : ℤ) (a : Matrix) (t : Triple) → d ≡ n *ℤ pos 12 → a ≡ identity_less c.member.matrix → t ≡ rest_of q n k r c → IsWhole (k *ℤ (n *ℤ pos 12)) (excess_at q n r k z c) ↔ (IsWholeAt d k a.a11 a.a12 a.a13 t.x z × (IsWholeAt d k a.a21 a.a22 a.a23 t.y z × IsWholeAt d k a.a31 a.a32 a.a33 t.z z))
excess_rows q n k r z c d a t ed ea et =
    let s = split_whole (k *ℤ d) (difference (multiple d (image a z)) t) in (
      (λ w. s.0 (subst (λ (v : Triple). IsWhole (k *ℤ d) v) is (subst (λ (b : ℤ). IsWhole (k *ℤ b) (excess_at q n r k z c)) (sym ed) w))),
      (λ m. subst (λ (b : ℤ). IsWhole (k *ℤ b) (excess_at q n r k z c)) ed (subst (λ (v : Triple). IsWhole (k *ℤ d) v) (sym is) (s.1 m))),
    )
  where
    is : excess_at q n r k z c ≡ difference (multiple d (image a z)) t
    is =
        rows_of_excess (n *ℤ pos 12) k c.member.matrix r z (gap_of q n c) ∙ sym (λ i. difference (multiple (ed i) (image (ea i) z)) (et i))
