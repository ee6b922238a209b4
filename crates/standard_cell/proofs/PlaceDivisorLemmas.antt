-- The divisor of all places, made of common divisors: first of e and the columns of n d adj(Q), then of the places of the atoms.
use Rattle.std.proofs.Common.{◌≡◌, ℤ, pos, ◌*ℤ◌, ◌<ℤ◌, ◌⊎◌, inl, inr, List, [], ◌∷◌, ◌++◌, refl, sym, ap, subst, ◌∙◌}
use Rattle.lists.specs.Increasing.{IsMember}
use Rattle.lists.proofs.Members.{pushed_member, member_front, member_last}
use Rattle.matrix3.specs.Matrices as formulas
use Rattle.ring.specs.Ring.{var, con, quoted}
use Rattle.matrix3.specs.Matrices.{entries, coordinates, matrix_of_variables, vector_of_variables}
use Rattle.crystal_spec.specs.Matrices.{Triple, Matrix, image, adjugate, multiple, sum_of}
use Rattle.crystal_spec.specs.Crystals.{Atom, Structure}
use Rattle.crystal_spec.proofs.Identities.{by_triples}
use Rattle.positions.specs.Positions.{triple}
use Rattle.basis_spec.proofs.MatrixLaws.{multiple_swap}
use Rattle.match_spec.specs.Points.{Point, IsWhole}
use Rattle.match_spec.proofs.Wholes.{whole_is, whole_plus}
use Rattle.standard_cell.specs.PlaceDivisors.{full, place_of, cells_of, IsMultiple, IsPlaceDivisor}
use Rattle.standard_cell.specs.Commons.{IsCommonWith}
use Rattle.standard_cell.proofs.Commons.{multiple_multiple, whole_divided}

-- the columns of a matrix
abbrev pub first_column : Matrix → Triple
first_column a = triple a.a11 a.a21 a.a31

abbrev pub second_column : Matrix → Triple
second_column a = triple a.a12 a.a22 a.a32

abbrev pub third_column : Matrix → Triple
third_column a = triple a.a13 a.a23 a.a33

-- s A z is made of the columns of s A
by_columns : (s : ℤ) (a : Matrix) (z : Triple) → multiple s (image a z) ≡ sum_of (sum_of (multiple z.x (multiple s (first_column a))) (multiple z.y (multiple s (second_column a)))) (multiple z.z (multiple s (third_column a)))
by_columns s a z =
    let a' = matrix_of_variables 1 in
    let z' = vector_of_variables 10 in
    by_triples (s ∷ entries a ++ coordinates z) (formulas.multiple quoted (var 0) (formulas.image quoted a' z'))
    (formulas.sum_of quoted (formulas.sum_of quoted (formulas.multiple quoted (var 10) (formulas.multiple quoted (var 0) (record { x = var 1; y = var 4; z = var 7 }))) (formulas.multiple quoted (var 11) (formulas.multiple quoted (var 0) (record { x = var 2; y = var 5; z = var 8 })))) (formulas.multiple quoted (var 12) (formulas.multiple quoted (var 0) (record { x = var 3; y = var 6; z = var 9 })))) refl

whole_times_left : (d k : ℤ) (v : Triple) → IsWhole d v → IsWhole d (multiple k v)
whole_times_left d k v h = record { quotient = multiple k h.quotient; is = ap (multiple k) h.is ∙ multiple_swap k d h.quotient }

-- what divides the columns divides all
columns_whole : (d s : ℤ) (a : Matrix) → IsWhole d (multiple s (first_column a)) → IsWhole d (multiple s (second_column a)) → IsWhole d (multiple s (third_column a)) → (z : Triple) → IsWhole d (multiple s (image a z))
columns_whole d s a x y w z =
    whole_is d (multiple s (image a z)) (sum_of (sum_of (multiple z.x (multiple s (first_column a))) (multiple z.y (multiple s (second_column a)))) (multiple z.z (multiple s (third_column a)))) (by_columns s a z)
    (whole_plus d (sum_of (multiple z.x (multiple s (first_column a))) (multiple z.y (multiple s (second_column a)))) (multiple z.z (multiple s (third_column a)))
    (whole_plus d (multiple z.x (multiple s (first_column a))) (multiple z.y (multiple s (second_column a))) (whole_times_left d z.x (multiple s (first_column a)) x) (whole_times_left d z.y (multiple s (second_column a)) y))
    (whole_times_left d z.z (multiple s (third_column a)) w))

-- the columns are what unit vectors give
unit_x : (a : Matrix) → image a (triple (pos 1) (pos 0) (pos 0)) ≡ first_column a
unit_x a = by_triples (entries a) (formulas.image quoted (matrix_of_variables 0) (record { x = con (pos 1); y = con (pos 0); z = con (pos 0) })) (record { x = var 0; y = var 3; z = var 6 }) refl

unit_y : (a : Matrix) → image a (triple (pos 0) (pos 1) (pos 0)) ≡ second_column a
unit_y a = by_triples (entries a) (formulas.image quoted (matrix_of_variables 0) (record { x = con (pos 0); y = con (pos 1); z = con (pos 0) })) (record { x = var 1; y = var 4; z = var 7 }) refl

unit_z : (a : Matrix) → image a (triple (pos 0) (pos 0) (pos 1)) ≡ third_column a
unit_z a = by_triples (entries a) (formulas.image quoted (matrix_of_variables 0) (record { x = con (pos 0); y = con (pos 0); z = con (pos 1) })) (record { x = var 2; y = var 5; z = var 8 }) refl

-- with no atom yet
pub translations_divisor : (c : Structure) (q : Matrix) (p : Point) (e s : ℤ) (a : Matrix) (r g h : ℤ) → pos 0 <ℤ e → e ≡ full q p (pos c.n) → s ≡ pos c.n *ℤ p.denominator → a ≡ adjugate q →
    IsCommonWith e (multiple s (first_column a)) r → IsCommonWith r (multiple s (second_column a)) g → IsCommonWith g (multiple s (third_column a)) h → IsPlaceDivisor c q p [] h
translations_divisor c q p e s a r g h above e_is s_is a_is x y z = record {
  positive = z.positive;
  whole = subst (IsMultiple h) e_is (multiple_multiple r h e x.of_left down);
  steps = λ v. subst (λ (m : Matrix). IsWhole h (multiple (pos c.n *ℤ p.denominator) (image m v))) a_is (subst (λ (i : ℤ). IsWhole h (multiple i (image a v))) s_is
      (columns_whole h s a (whole_divided r h (multiple s (first_column a)) x.of_right down) (whole_divided g h (multiple s (second_column a)) y.of_right z.of_left) z.of_right v));
  places = λ b m. absurd m;
  greatest = λ k f k_above i places steps.
      (let at = λ (v w : Triple) (e : image a v ≡ w).
      subst (λ (t : Triple). IsWhole k (multiple f (multiple s t))) e (subst (λ (m : Matrix). IsWhole k (multiple f (multiple s (image m v)))) (sym a_is) (subst (λ (j : ℤ). IsWhole k (multiple f (multiple j (image (adjugate q) v)))) (sym s_is) (steps v))) in
      z.greatest k f k_above
      (y.greatest k f k_above
      (x.greatest k f k_above (subst (λ (j : ℤ). IsMultiple k (f *ℤ j)) (sym e_is) i) (at (triple (pos 1) (pos 0) (pos 0)) (first_column a) (unit_x a)))
      (at (triple (pos 0) (pos 1) (pos 0)) (second_column a) (unit_y a)))
      (at (triple (pos 0) (pos 0) (pos 1)) (third_column a) (unit_z a)));
}
  where
    down : IsMultiple h r
    down = multiple_multiple g h r y.of_left z.of_left

-- and with one more atom
pub more_places : (c : Structure) (q : Matrix) (p : Point) (copies : List Atom) (a : Atom) (g h : ℤ) → IsPlaceDivisor c q p copies g → IsCommonWith g (place_of c q p a.position) h → IsPlaceDivisor c q p (copies ++ a ∷ []) h
more_places c q p copies a g h d w = record {
  positive = w.positive;
  whole = multiple_multiple g h (full q p (pos c.n)) d.whole w.of_left;
  steps = λ z. whole_divided g h (cells_of c q p z) (d.steps z) w.of_left;
  places = places;
  greatest = λ k f above i each steps. w.greatest k f above (d.greatest k f above i (λ b m. each b (member_front copies a b m)) steps) (each a (member_last copies a));
}
  where
    places : (b : Atom) → IsMember b (copies ++ a ∷ []) → IsWhole h (place_of c q p b.position)
    places b m = by (pushed_member copies a b m)
      where
        by : (b ≡ a) ⊎ IsMember b copies → IsWhole h (place_of c q p b.position)
        by (inr k) = whole_divided g h (place_of c q p b.position) (d.places b k) w.of_left
        by (inl e) = subst (λ (x : Atom). IsWhole h (place_of c q p x.position)) (sym e) w.of_right
