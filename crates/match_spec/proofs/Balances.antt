-- Pairs exist where a map carries, and the balance does not depend on how they are taken.
use Rattle.std.proofs.Common.{◌*ℤ◌, ◌≡◌, ℕ, ℤ, pos, ◌<ℤ◌, ◌≤◌, List, [], ◌∷◌, ◌++◌, map, length, refl, sym, ◌∙◌, ap, ap₂, subst, arith}
use Rattle.lists.specs.Increasing.{IsMember}
use Rattle.lists.proofs.Matching.{total_matched}
use Rattle.lists.proofs.Counting.{into_le}
use Rattle.matrix3.specs.Matrices as formulas
use Rattle.ring.specs.Ring.{int_ops, var, con, quoted, ◌:*◌}
use Rattle.matrix3.specs.Matrices.{coordinates, vector_of_variables, matrix_sum}
use Rattle.crystal_spec.specs.declared.Sign.TheVariants.{Same}
use Rattle.crystal_spec.specs.Matrices.{Triple, Matrix, image, determinant, multiple, sum_of, difference}
use Rattle.crystal_spec.specs.Operations.{Operation}
use Rattle.crystal_spec.proofs.Identities.{by_integers, by_triples}
use Rattle.match_spec.specs.Points.{Point, point, IsPoint, IsInCell, IsWhole, SameModuloOne}
use Rattle.match_spec.specs.Maps.{Carries, Pair, matrix_of, IsPair, IsPairs, IsMatrices, balance}
use Rattle.match_spec.proofs.Groups.{IsGroup, IsPrimitive, each_of}
use Rattle.match_spec.proofs.Wholes.{whole_is, whole_minus}
use Rattle.match_spec.proofs.Units.{same_from}
use Rattle.match_spec.proofs.Absorb.{zero3, sum_laws, sum3}
use Rattle.ring.proofs.IntOrder.{mul_pos}
use Rattle.std.proofs.lemmas.List.{length-map}
use Rattle.match_spec.proofs.Moves.{lit_pos}
use Rattle.match_spec.proofs.Origins.{balance_units, in_balance, pair_whole, sum_whole, each_map}
use Rattle.match_spec.proofs.Candidates.{IsReduced}
use Rattle.match_spec.proofs.Homs.{scale_of}

-- a member of the found group, of sign plain where there is one, has a pair
pub pair_of : (q : Matrix) (p : Point) (h : List Operation) (n : ℤ) (m : List Operation) → Carries q p h n m → (f : Operation) → IsMember f m → ((o : Operation) → IsMember o m → o.matrix ≡ f.matrix → o.sign ≡ Same → f.sign ≡ Same) → (c : Pair) × ((c.member ≡ f) × IsPair q h m c)
pair_of q p h n m ca f k any =
    let o = ca.onto f k in
    (record { member = f; source = o.0 }, (refl, record { member = k; source = o.1.0; matrix = o.1.1.matrix; sign = o.1.1.sign; same_if_any = any }))

-- two lists of the same matrices have one sum
same_sum : (m : List Operation) (ms ns : List Matrix) → IsMatrices m ms → IsMatrices m ns → sum3 ms ≡ sum3 ns
same_sum m ms ns a b =
    total_matched (matrix_sum int_ops) zero3 sum_laws (λ x y. x ≡ y) (λ x. x) (λ x. x) (λ x y e. e) ms ns a.distinct b.distinct (record {
      right = λ v h. (let p = a.matrices v h in (v, (subst (λ w. IsMember w ns) p.1.1 (b.all p.0 p.1.0), refl)));
      left = λ v h. (let p = b.matrices v h in (v, (subst (λ w. IsMember w ms) p.1.1 (a.all p.0 p.1.0), refl)));
      one_right = λ x y z d e. sym d ∙ e;
      one_left = λ x w y d e. d ∙ sym e;
    })

same_length : (m : List Operation) (ms ns : List Matrix) → IsMatrices m ms → IsMatrices m ns → length ms ≤ length ns
same_length m ms ns a b =
    into_le (λ x y. x ≡ y) ms ns a.distinct (record {
      right = λ v h. (let p = a.matrices v h in (v, (subst (λ w. IsMember w ns) p.1.1 (b.all p.0 p.1.0), refl)));
      one_left = λ x w y hx hw d e. d ∙ sym e;
    })

-- wherever some triple carries, the balance is defined modulo 1
pub same_balance : (q : Matrix) (p : Point) (h : List Operation) (n : ℤ) (m : List Operation) (cs bs : List Pair) → (determinant q ≡ pos 0 → ⊥) → pos 0 <ℤ n → IsGroup n m → IsPrimitive n m → IsPairs q h m cs → IsPairs q h m bs → IsPoint p → Carries q p h n m → SameModuloOne (balance q n cs) (balance q n bs)
same_balance q p h n m cs bs nz pn gm pr a b tp ca =
    let s = scale_of n p pn tp in
    let one = sum_whole s.d s.t s.e q s.u cs (each_map _ _ (pair_whole s.d s.t s.e n q p s.u h m nz s.by_twelve s.by_n pn tp s.is gm pr ca) cs (each_of _ cs a.each)) in
    let two = sum_whole s.d s.t s.e q s.u bs (each_map _ _ (pair_whole s.d s.t s.e n q p s.u h m nz s.by_twelve s.by_n pn tp s.is gm pr ca) bs (each_of _ bs b.each)) in
    let le : length (map matrix_of cs) ≤ length (map matrix_of bs) = same_length m _ _ a.matrices b.matrices in
    let ge : length (map matrix_of bs) ≤ length (map matrix_of cs) = same_length m _ _ b.matrices a.matrices in
    let count : length cs ≡ length bs = omega (arith, le, ge, length-map cs matrix_of, length-map bs matrix_of) in
    same_from s.d (balance q n cs) (balance q n bs) (balance_units q s.t s.e cs) (balance_units q s.t s.e bs) s.d_pos (in_balance s.d s.t s.e n q s.by_twelve s.by_n cs) (in_balance s.d s.t s.e n q s.by_twelve s.by_n bs) (whole_is s.d _ _ (regroup (multiple (pos (length bs)) s.u) (image (sum3 (map matrix_of bs)) s.u) (balance_units q s.t s.e cs) (balance_units q s.t s.e bs)) (whole_minus s.d _ _ two (whole_is s.d _ _ (ap₂ (λ (k : ℕ) v. difference (difference (multiple (pos k) s.u) (image v s.u)) (balance_units q s.t s.e cs)) (sym count) (sym (same_sum m _ _ a.matrices b.matrices))) one)))
  where
    regroup : (x y c b : Triple) → difference c b ≡ difference (difference (difference x y) b) (difference (difference x y) c)
    regroup x y c b = by_triples (coordinates x ++ coordinates y ++ coordinates c ++ coordinates b) (formulas.difference quoted (vector_of_variables 6) (vector_of_variables 9)) (formulas.difference quoted (formulas.difference quoted (formulas.difference quoted (vector_of_variables 0) (vector_of_variables 3)) (vector_of_variables 9)) (formulas.difference quoted (formulas.difference quoted (vector_of_variables 0) (vector_of_variables 3)) (vector_of_variables 6))) refl

-- the balance has a denominator
pub balance_point : (q : Matrix) (n : ℤ) (cs : List Pair) → pos 0 <ℤ n → IsPoint (balance q n cs)
balance_point q n [] pn = record { positive = lit_pos 0 }
balance_point q n (c ∷ cs) pn = record { positive = mul_pos _ _ (mul_pos _ _ pn (mul_pos _ _ (lit_pos 11) (mul_pos _ _ (lit_pos 0) (lit_pos 0)))) (balance_point q n cs pn).positive }

-- where r / 12 n differs from the sum of 12 v - n Q w over the pairs by whole translations, it is the balance in the cell
pub reduced_balance : (q : Matrix) (n : ℤ) (cs : List Pair) (r : Triple) → pos 0 <ℤ n → IsInCell (point r (n *ℤ pos 12)) → IsWhole (n *ℤ pos 12) (difference (balance_units q n (pos 12) cs) r) → IsReduced (balance q n cs) (point r (n *ℤ pos 12))
reduced_balance q n cs r pn ic w =
    let d = n *ℤ pos 12 in
    let b = in_balance d n (pos 12) n q (by_integers (n ∷ []) (var 0 :* con (pos 12)) (con (pos 12) :* var 0) refl) refl cs in
    record {
      is_point = record { positive = mul_pos _ _ pn (lit_pos 11) };
      of_point = balance_point q n cs pn;
      in_cell = ic;
      floors = w.quotient;
      is = record { is = b.is ∙ ap (multiple (balance q n cs).denominator) (back (balance_units q n (pos 12) cs) r ∙ ap (λ v. sum_of v r) w.is) };
    }
  where
    back : (u r : Triple) → u ≡ sum_of (difference u r) r
    back u r = by_triples (coordinates u ++ coordinates r) (vector_of_variables 0) (formulas.sum_of quoted (formulas.difference quoted (vector_of_variables 0) (vector_of_variables 3)) (vector_of_variables 3)) refl
