-- A congruence modulo k among natural numbers is one among integers, and says when d (a · z) - t is a multiple of k d.
use Rattle.std.proofs.Common.{◌≡◌, refl, sym, ap, ap₂, subst, ◌∙◌, ℕ, ◌+◌, ◌*◌, ◌%◌, ◌<◌, ◌≤◌, ℤ, pos, ◌+ℤ◌, ◌-ℤ◌, ◌*ℤ◌, ◌≤ℤ◌, ◌<ℤ◌, [], ◌∷◌, arith}
use Rattle.std.specs.Prelude.{◌↔◌}
use Rattle.std.specs.Int.{int_rem_euclid, int_div_euclid}
use Rattle.std.proofs.lemmas.Int.{ints}
use Rattle.ring.specs.Ring.{int_ops, var, quoted, ◌:+◌, ◌:*◌, ◌:-◌}
use Rattle.numbers.proofs.ResidueRing.{residue-pos, residue-euclid}
use Rattle.matrix3.specs.Matrices.{dot}
use Rattle.crystal_spec.specs.Matrices.{Triple}
use Rattle.crystal_spec.proofs.Identities.{by_integers}
use Rattle.positions.proofs.Residues.{euclid, remainder_within}
use Rattle.basis_spec.proofs.PureTranslations.{same_number}
use Rattle.basis_spec.proofs.Cancelling.{mul_cancel}
use Rattle.group_match.specs.Rows.{IsMultiple, IsWholeAt, place}

-- natural numbers as integers
pos-product : (a b : ℕ) → pos (a * b) ≡ pos a *ℤ pos b
pos-product a b = omega (arith, ints)

pos-sum : (a b : ℕ) → pos (a + b) ≡ pos a +ℤ pos b
pos-sum a b = omega (arith, ints)

pos_same : (a b : ℕ) → pos a ≡ pos b → a ≡ b
pos_same a b e = omega (arith, ints, e)

at_least_one : (k : ℕ) → pos 0 <ℤ pos k → 0 < k
at_least_one k h = omega (arith, ints, h)

module _ (k : ℕ) (some : pos 0 <ℤ pos k) (a : Triple) (q : ℤ) (x y z t : ℕ) (ex : pos x ≡ int_rem_euclid a.x (pos k)) (ey : pos y ≡ int_rem_euclid a.y (pos k)) (ez : pos z ≡ int_rem_euclid a.z (pos k)) (et : pos t ≡ int_rem_euclid q (pos k)) (u v w : ℕ) where
  sum : ℕ
  sum = x * u + y * v + z * w

  parts : ℤ
  parts = int_div_euclid a.x (pos k) *ℤ pos u +ℤ int_div_euclid a.y (pos k) *ℤ pos v +ℤ int_div_euclid a.z (pos k) *ℤ pos w

  split : (r : ℤ) (n : ℕ) → pos n ≡ int_rem_euclid r (pos k) → r ≡ pos n +ℤ pos k *ℤ int_div_euclid r (pos k)
  split r n e = euclid r k some ∙ ap (λ (c : ℤ). c +ℤ pos k *ℤ int_div_euclid r (pos k)) (sym e)

  -- a · z is the sum of products and a multiple of k
  products : dot int_ops a.x a.y a.z (pos u) (pos v) (pos w) ≡ pos sum +ℤ pos k *ℤ parts
  unfolding sum parts
  products =
      (λ i. dot int_ops (split a.x x ex i) (split a.y y ey i) (split a.z z ez i) (pos u) (pos v) (pos w)) ∙ (by_integers (pos k ∷ pos x ∷ pos y ∷ pos z ∷ int_div_euclid a.x (pos k) ∷ int_div_euclid a.y (pos k) ∷ int_div_euclid a.z (pos k) ∷ pos u ∷ pos v ∷ pos w ∷ []) (dot quoted (var 1 :+ var 0 :* var 4) (var 2 :+ var 0 :* var 5) (var 3 :+ var 0 :* var 6) (var 7) (var 8) (var 9)) (((var 1 :* var 7 :+ var 2 :* var 8) :+ var 3 :* var 9) :+ var 0 :* ((var 4 :* var 7 :+ var 5 :* var 8) :+ var 6 :* var 9)) refl ∙ ap (λ (c : ℤ). c +ℤ pos k *ℤ (int_div_euclid a.x (pos k) *ℤ pos u +ℤ int_div_euclid a.y (pos k) *ℤ pos v +ℤ int_div_euclid a.z (pos k) *ℤ pos w)) natural)
    where
      natural : pos x *ℤ pos u +ℤ pos y *ℤ pos v +ℤ pos z *ℤ pos w ≡ pos (x * u + y * v + z * w)
      natural = sym (pos-sum (x * u + y * v) (z * w) ∙ ap₂ (λ (c d : ℤ). c +ℤ d) (pos-sum (x * u) (y * v) ∙ ap₂ (λ (c d : ℤ). c +ℤ d) (pos-product x u) (pos-product y v)) (pos-product z w))

  -- the sum modulo k, as an integer
  rest_is : pos (sum % k) ≡ int_rem_euclid (pos sum) (pos k)
  rest_is = sym (residue-pos k sum (at_least_one k some)) ∙ residue-euclid k (pos sum) (at_least_one k some)

  sum_split : pos sum ≡ pos (sum % k) +ℤ pos k *ℤ int_div_euclid (pos sum) (pos k)
  sum_split = euclid (pos sum) k some ∙ ap (λ (c : ℤ). c +ℤ pos k *ℤ int_div_euclid (pos sum) (pos k)) (sym rest_is)

  -- a · z less q
  left : dot int_ops a.x a.y a.z (pos u) (pos v) (pos w) -ℤ q ≡ (pos (sum % k) -ℤ pos t) +ℤ pos k *ℤ (int_div_euclid (pos sum) (pos k) +ℤ parts -ℤ int_div_euclid q (pos k))
  left =
      (λ i. (products ∙ ap (λ (c : ℤ). c +ℤ pos k *ℤ parts) sum_split) i -ℤ split q t et i) ∙ by_integers (pos k ∷ pos (sum % k) ∷ pos t ∷ int_div_euclid (pos sum) (pos k) ∷ parts ∷ int_div_euclid q (pos k) ∷ []) (((var 1 :+ var 0 :* var 3) :+ var 0 :* var 4) :- (var 2 :+ var 0 :* var 5)) ((var 1 :- var 2) :+ var 0 :* ((var 3 :+ var 4) :- var 5)) refl

  meets_multiple : sum % k ≡ t → IsMultiple (pos k) (dot int_ops a.x a.y a.z (pos u) (pos v) (pos w) -ℤ q)
  meets_multiple e = record {
    quotient = int_div_euclid (pos sum) (pos k) +ℤ parts -ℤ int_div_euclid q (pos k);
    is = left ∙ (ap (λ (n : ℕ). (pos n -ℤ pos t) +ℤ pos k *ℤ (int_div_euclid (pos sum) (pos k) +ℤ parts -ℤ int_div_euclid q (pos k))) e ∙ none (pos t) (pos k *ℤ (int_div_euclid (pos sum) (pos k) +ℤ parts -ℤ int_div_euclid q (pos k))));
  }
    where
      none : (s r : ℤ) → (s -ℤ s) +ℤ r ≡ r
      none s r = by_integers (s ∷ r ∷ []) ((var 0 :- var 0) :+ var 1) (var 1) refl

  multiple_meets : IsMultiple (pos k) (dot int_ops a.x a.y a.z (pos u) (pos v) (pos w) -ℤ q) → sum % k ≡ t
  multiple_meets m =
      pos_same (sum % k) t (same_number k (pos (sum % k)) (pos t) (m.quotient -ℤ (int_div_euclid (pos sum) (pos k) +ℤ parts -ℤ int_div_euclid q (pos k))) (subst (λ (c : ℤ). (pos 0 ≤ℤ c) × (c <ℤ pos k)) (sym rest_is) (remainder_within (pos sum) k some)) (subst (λ (c : ℤ). (pos 0 ≤ℤ c) × (c <ℤ pos k)) (sym et) (remainder_within q k some)) (apart (pos (sum % k)) (pos t) (pos k) m.quotient (int_div_euclid (pos sum) (pos k) +ℤ parts -ℤ int_div_euclid q (pos k)) (sym left ∙ m.is)))
    where
      apart : (s t k m c : ℤ) → (s -ℤ t) +ℤ k *ℤ c ≡ k *ℤ m → s ≡ t +ℤ k *ℤ (m -ℤ c)
      apart s t k m c e =
          by_integers (s ∷ t ∷ k ∷ c ∷ []) (var 0) ((var 1 :+ ((var 0 :- var 1) :+ var 2 :* var 3)) :- var 2 :* var 3) refl ∙ (ap (λ (r : ℤ). (t +ℤ r) -ℤ k *ℤ c) e ∙ by_integers (t ∷ k ∷ m ∷ c ∷ []) ((var 0 :+ var 1 :* var 2) :- var 1 :* var 3) (var 0 :+ var 1 :* (var 2 :- var 3)) refl)

  -- the congruence says when d (a · z) - t is a multiple of k d
  pub congruence : (d rest : ℤ) → pos 0 <ℤ d → q *ℤ d ≡ rest → ((x * u + y * v + z * w) % k ≡ t) ↔ IsWholeAt d (pos k) a.x a.y a.z rest (place u v w)
  unfolding sum
  congruence d rest pd e = ((λ h. wider (meets_multiple h)), (λ h. multiple_meets (narrower h)))
    where
      s : ℤ
      s = dot int_ops a.x a.y a.z (pos u) (pos v) (pos w)

      factor : d *ℤ s -ℤ rest ≡ d *ℤ (s -ℤ q)
      factor = ap (λ (r : ℤ). d *ℤ s -ℤ r) (sym e) ∙ by_integers (d ∷ s ∷ q ∷ []) (var 0 :* var 1 :- var 2 :* var 0) (var 0 :* (var 1 :- var 2)) refl

      wider : IsMultiple (pos k) (s -ℤ q) → IsWholeAt d (pos k) a.x a.y a.z rest (place u v w)
      wider m = record { quotient = m.quotient; is = factor ∙ (ap (λ (r : ℤ). d *ℤ r) m.is ∙ by_integers (d ∷ pos k ∷ m.quotient ∷ []) (var 0 :* (var 1 :* var 2)) ((var 1 :* var 0) :* var 2) refl) }

      narrower : IsWholeAt d (pos k) a.x a.y a.z rest (place u v w) → IsMultiple (pos k) (s -ℤ q)
      narrower m = record { quotient = m.quotient; is = mul_cancel d (s -ℤ q) (pos k *ℤ m.quotient) pd (sym factor ∙ (m.is ∙ by_integers (d ∷ pos k ∷ m.quotient ∷ []) ((var 1 :* var 0) :* var 2) (var 0 :* (var 1 :* var 2)) refl)) }

-- where d does not divide t there is none
pub no_congruence : (d k rest : ℤ) (a z : Triple) → ((q : ℤ) → q *ℤ d ≡ rest → ⊥) → IsWholeAt d k a.x a.y a.z rest z → ⊥
no_congruence d k rest a z none m =
    none (s -ℤ k *ℤ m.quotient) (by_integers (d ∷ s ∷ k ∷ m.quotient ∷ []) ((var 1 :- var 2 :* var 3) :* var 0) (var 0 :* var 1 :- (var 2 :* var 0) :* var 3) refl ∙ (ap (λ (r : ℤ). d *ℤ s -ℤ r) (sym m.is) ∙ by_integers (d ∷ s ∷ rest ∷ []) (var 0 :* var 1 :- (var 0 :* var 1 :- var 2)) (var 2) refl))
  where
    s : ℤ
    s = dot int_ops a.x a.y a.z z.x z.y z.z

pub k_positive : (k : ℕ) → 1 ≤ k → pos 0 <ℤ pos k
k_positive k h = omega (arith, ints, h)

pub d_nonzero : (d : ℤ) → pos 0 <ℤ d → d ≡ pos 0 → ⊥
d_nonzero d h e = omega (arith, ints, h, e)
