-- Positions carried by a row of a matrix modulo n.
--
-- A row modulo n differs from the row by multiples of n, so its product with a position differs from that of the row by one too,
-- and what is left of it modulo n is the coordinate of the image modulo n.
use Rattle.std.proofs.Common.{◌≡◌, refl, sym, ap, subst, ◌∙◌, ℕ, ◌+◌, ◌-◌, ◌%◌, ◌^◌, ◌<◌, ◌≤◌, List, [], ◌∷◌, arith}
use Rattle.std.specs.Prelude.{ℤ, pos, neg_ℤ, ◌+ℤ◌, ◌*ℤ◌, ◌<ℤ◌, slice_index}
use Rattle.std.specs.Int.{int_rem_euclid, int_div_euclid}
use Rattle.std.proofs.lemmas.Int.{ints}
use Rattle.ring.specs.Ring.{var, con, ◌:+◌, ◌:*◌, opposite}
use Rattle.numbers.proofs.ResidueRing.{residue_same, residue-pos, residue-euclid}
use Rattle.crystal_spec.proofs.Identities.{by_integers}
use Rattle.crystal_spec.specs.Matrices.{Triple, sum_of}
use Rattle.crystal_spec.proofs.Entrywise.{triple_same}
use Rattle.positions.specs.Positions.{origin}
use Rattle.positions.specs.Rows.{IsRowModulo, IsRowBelow, dot}
use Rattle.positions.proofs.Residues.{euclid, remainder_within}

-- the rest of a division, by its number and its quotient
rest_is : (a r q m : ℤ) → a ≡ r +ℤ m *ℤ q → r ≡ a +ℤ neg_ℤ q *ℤ m
rest_is a r q m e = by_integers (r ∷ q ∷ m ∷ []) (var 0) ((var 0 :+ var 2 :* var 1) :+ opposite (var 1) :* var 2) refl ∙ ap (λ (z : ℤ). z +ℤ neg_ℤ q *ℤ m) (sym e)

-- a number that is the rest of another is whole multiples apart from it
apart : (n r : ℕ) (a : ℤ) → 1 ≤ n → pos r ≡ int_rem_euclid a (pos n) → pos r ≡ a +ℤ neg_ℤ (int_div_euclid a (pos n)) *ℤ pos n
apart n r a one e =
    let some : pos 0 <ℤ pos n = omega (arith, ints) in
    e ∙ rest_is a (int_rem_euclid a (pos n)) (int_div_euclid a (pos n)) (pos n) (euclid a n some)

below : (n r : ℕ) (a : ℤ) → 1 ≤ n → n ≤ 10 ^ 6 → pos r ≡ int_rem_euclid a (pos n) → r < 10 ^ 6
below n r a one most e =
    let some : pos 0 <ℤ pos n = omega (arith, ints) in
    let h : pos r <ℤ pos n = subst (λ (z : ℤ). z <ℤ pos n) (sym e) (remainder_within a n some).1 in
    omega (arith, ints)

-- a row modulo n has numbers below the largest modulus
pub row_below : (n : ℕ) (a b c : ℤ) (r : List ℕ) → 1 ≤ n → n ≤ 10 ^ 6 → IsRowModulo n a b c r → IsRowBelow (10 ^ 6) r
row_below n a b c r one most row = record { first = below n _ a one most row.first; second = below n _ b one most row.second; third = below n _ c one most row.third }

-- a natural number modulo n is the rest of an integer that is multiples of n apart from it
pub rest_of : (n m s : ℕ) (z k : ℤ) → 1 ≤ n → s ≡ m % n → pos m ≡ z +ℤ k *ℤ pos n → pos s ≡ int_rem_euclid z (pos n)
rest_of n m s z k one e same = ap (λ (i : ℕ). pos i) e ∙ sym (residue-pos n m one) ∙ residue_same n (pos m) z k same ∙ residue-euclid n z one

-- what a row modulo n makes of a position is the coordinate of the image modulo n
pub coordinate_is : (n : ℕ) (a b c : ℤ) (r p : List ℕ) (t s : ℕ) → 1 ≤ n → IsRowModulo n a b c r → s ≡ (dot r p + t) % n →
    pos s ≡ int_rem_euclid (((a *ℤ pos (slice_index p 0) +ℤ b *ℤ pos (slice_index p 1)) +ℤ c *ℤ pos (slice_index p 2)) +ℤ pos t) (pos n)
coordinate_is n a b c r p t s one row e = rest_of n (dot r p + t) s _ ((i *ℤ x +ℤ j *ℤ y) +ℤ k *ℤ z) one e
    (ap (λ (u : ℤ). ((u *ℤ x +ℤ pos (slice_index r 1) *ℤ y) +ℤ pos (slice_index r 2) *ℤ z) +ℤ pos t) (apart n _ a one row.first)
    ∙ ap (λ (u : ℤ). (((a +ℤ i *ℤ pos n) *ℤ x +ℤ u *ℤ y) +ℤ pos (slice_index r 2) *ℤ z) +ℤ pos t) (apart n _ b one row.second)
    ∙ ap (λ (u : ℤ). (((a +ℤ i *ℤ pos n) *ℤ x +ℤ (b +ℤ j *ℤ pos n) *ℤ y) +ℤ u *ℤ z) +ℤ pos t) (apart n _ c one row.third)
    ∙ by_integers (a ∷ b ∷ c ∷ i ∷ j ∷ k ∷ x ∷ y ∷ z ∷ pos t ∷ pos n ∷ [])
    ((((var 0 :+ var 3 :* var 10) :* var 6 :+ (var 1 :+ var 4 :* var 10) :* var 7) :+ (var 2 :+ var 5 :* var 10) :* var 8) :+ var 9)
    ((((var 0 :* var 6 :+ var 1 :* var 7) :+ var 2 :* var 8) :+ var 9) :+ ((var 3 :* var 6 :+ var 4 :* var 7) :+ var 5 :* var 8) :* var 10) refl)
  where
    x : ℤ
    x = pos (slice_index p 0)

    y : ℤ
    y = pos (slice_index p 1)

    z : ℤ
    z = pos (slice_index p 2)

    i : ℤ
    i = neg_ℤ (int_div_euclid a (pos n))

    j : ℤ
    j = neg_ℤ (int_div_euclid b (pos n))

    k : ℤ
    k = neg_ℤ (int_div_euclid c (pos n))

-- a coordinate less another that is known modulo n
less_rest : (n m s o : ℕ) (z : ℤ) → 1 ≤ n → m < n → s ≡ (o + (n - m)) % n → pos m ≡ int_rem_euclid z (pos n) → pos s ≡ int_rem_euclid (pos o +ℤ neg_ℤ z) (pos n)
less_rest n m s o z one small e rest = rest_of n (o + (n - m)) s (pos o +ℤ neg_ℤ z) (pos 1 +ℤ q) one e (before ∙ ap (λ (u : ℤ). (pos o +ℤ pos n) +ℤ neg_ℤ u) (apart n m z one rest) ∙ by_integers (pos o ∷ pos n ∷ z ∷ q ∷ []) ((var 0 :+ var 1) :+ opposite (var 2 :+ opposite (var 3) :* var 1)) ((var 0 :+ opposite (var 2)) :+ (con (pos 1) :+ var 3) :* var 1) refl)
  where
    q : ℤ
    q = int_div_euclid z (pos n)

    before : pos (o + (n - m)) ≡ (pos o +ℤ pos n) +ℤ neg_ℤ (pos m)
    before = omega (arith, ints)

-- the same of the translation with which a row carries a position onto a coordinate
pub onto_is : (n : ℕ) (a b c : ℤ) (r p : List ℕ) (o s : ℕ) → 1 ≤ n → IsRowModulo n a b c r → s ≡ (o + (n - (dot r p + 0) % n)) % n →
    pos s ≡ int_rem_euclid (pos o +ℤ neg_ℤ ((a *ℤ pos (slice_index p 0) +ℤ b *ℤ pos (slice_index p 1)) +ℤ c *ℤ pos (slice_index p 2))) (pos n)
onto_is n a b c r p o s one row e =
    less_rest n ((dot r p + 0) % n) s o image one (omega arith) e (coordinate_is n a b c r p 0 ((dot r p + 0) % n) one row refl ∙ ap (λ (z : ℤ). int_rem_euclid z (pos n)) (omega (arith, ints)))
  where
    image : ℤ
    image = (a *ℤ pos (slice_index p 0) +ℤ b *ℤ pos (slice_index p 1)) +ℤ c *ℤ pos (slice_index p 2)

-- the difference of two coordinates modulo n
pub between_is : (n f o s : ℕ) → 1 ≤ n → s ≡ (o + (n - f % n)) % n → pos s ≡ int_rem_euclid (pos o +ℤ neg_ℤ (pos f)) (pos n)
between_is n f o s one e = less_rest n (f % n) s o (pos f) one (omega arith) e (sym (residue-pos n f one) ∙ residue-euclid n (pos f) one)

-- a column and no translation
pub without_translation : (p : Triple) → sum_of p origin ≡ p
without_translation p = triple_same (none p.x) (none p.y) (none p.z)
  where
    none : (a : ℤ) → a +ℤ pos 0 ≡ a
    none a = omega (arith, ints)
