-- Operations (I, t, s) and tables of them.
--   residue_less, residue_more     differences and sums of coordinates modulo 12
--   carried_is                     what an operation carries a translation to
--   place_same                     a place belongs to one operation
--   few_found                      a table has at most 3,456 operations
--   empty_table, put_table, put_is a table without operations, and with one more
use Rattle.std.proofs.Common.{◌≡◌, ◌⊎◌, inl, inr, ℕ, zero, suc, ◌<◌, ◌≤◌, ◌+◌, ◌-◌, ◌*◌, ◌%◌, Bool, true, false, List, [], ◌∷◌, ◌++◌, length, get_or, replicate, refl, sym, ◌∙◌, ap, ap₂, subst, arith}
use Rattle.std.specs.Prelude.{ℤ, pos, negsuc, ◌+ℤ◌, ◌*ℤ◌, neg_ℤ, ◌≤ℤ◌, ◌<ℤ◌, unsigned_abs}
use Rattle.std.proofs.lemmas.Int.{ints}
use Rattle.std.proofs.Math.ListN.{set, length-set}
use Rattle.std.proofs.lemmas.List.{length-replicate}
use Rattle.std.proofs.Common.{get_or-set_same, get_or-set_other}
use Rattle.ring.specs.Ring.{quoted, con}
use Rattle.numbers.specs.Residue.{residue}
use Rattle.numbers.proofs.ResidueRing.{residue_same}
use Rattle.lists.specs.Increasing.{IsMember}
use Rattle.lists.proofs.Distinct.{IsDistinct-pushed}
use Rattle.lists.proofs.Counting.{few_by_numbers}
use Rattle.lists.proofs.Members.{member_front, member_last, pushed_member}
use Rattle.matrix3.specs.Matrices.{entries, coordinates, matrix_of_variables, vector_of_variables}
use Rattle.matrix3.specs.Matrices as formulas
use Rattle.crystal_spec.specs.declared.Sign.{Sign}
use Rattle.crystal_spec.specs.declared.Sign.TheVariants.{Same, Reversed}
use Rattle.crystal_spec.specs.Matrices.{Triple, Matrix, image}
use Rattle.crystal_spec.specs.Crystals.{position_after}
use Rattle.crystal_spec.specs.Operations.{Operation, IsWithinCell}
use Rattle.crystal_spec.proofs.Entrywise.{triple_same}
use Rattle.crystal_spec.proofs.Identities.{by_triples}
use Rattle.positions.specs.Positions.{origin, IsModulo}
use Rattle.positions.proofs.Residues.{modulo_once}
use Rattle.hall_symbol.specs.Compositions.{reduced}
use Rattle.hall_text.specs.Splits.{pure}
use Rattle.hall_text.specs.PureTables.{sign_place, place_of, Has, PureTable, IsListed, IsPureTable, IsEmptyTable, IsPut}
use Rattle.hall_symbol.proofs.Compositions.{reduces_12}
use Rattle.hall_text.proofs.Listed.{starts_refl, starts_push}

-- ---- coordinates modulo 12

residue_pos : (n : ℕ) → residue 12 (pos n) ≡ pos (n % 12)
unfolding residue
residue_pos n = refl

pub residue_more : (a b : ℕ) → residue 12 (pos a +ℤ pos b) ≡ pos ((a + b) % 12)
residue_more a b = residue_pos (a + b)

twelve_more : (a b : ℕ) → b < 12 → pos a +ℤ neg_ℤ (pos b) ≡ pos (a + 12 - b) +ℤ negsuc 0 *ℤ pos 12
twelve_more a b h = omega (arith, ints)

pub residue_less : (a b : ℕ) → b < 12 → residue 12 (pos a +ℤ neg_ℤ (pos b)) ≡ pos ((a + 12 - b) % 12)
residue_less a b h = residue_same 12 (pos a +ℤ neg_ℤ (pos b)) (pos (a + 12 - b)) (negsuc 0) (twelve_more a b h) ∙ residue_pos (a + 12 - b)

pub carried_is : (w : Matrix) (t r : Triple) → IsModulo 12 (position_after w origin t) r → r ≡ reduced (image w t)
carried_is w t r h = modulo_once 12 (image w t) r (reduced (image w t)) (record { within = h.within; cells = h.cells; same = sym (no_more w t) ∙ h.same }) (reduces_12 (image w t))
  where
    no_more : (w : Matrix) (t : Triple) → position_after w origin t ≡ image w t
    no_more w t = by_triples (entries w ++ coordinates t) (formulas.sum_of quoted (formulas.image quoted (matrix_of_variables 0) (vector_of_variables 9)) (record { x = con (pos 0); y = con (pos 0); z = con (pos 0) })) (formulas.image quoted (matrix_of_variables 0) (vector_of_variables 9)) refl

-- ---- places

pub below_12 : (n : ℕ) → pos n <ℤ pos 12 → n < 12
below_12 n h = omega (arith, ints)

size_below : (z : ℤ) → pos 0 ≤ℤ z → z <ℤ pos 12 → unsigned_abs z < 12
size_below (pos n) h k = omega (arith, ints)
size_below (negsuc n) h k = absurd (omega (arith, ints))

of_size : (y z : ℤ) → pos 0 ≤ℤ y → pos 0 ≤ℤ z → unsigned_abs y ≡ unsigned_abs z → y ≡ z
of_size (pos m) (pos n) h k e = ap pos e
of_size (pos m) (negsuc n) h k e = absurd (omega (arith, ints))
of_size (negsuc m) z h k e = absurd (omega (arith, ints))

sign_below : (s : Sign) → sign_place s < 2
sign_below Same = omega arith
sign_below Reversed = omega arith

of_sign : (s r : Sign) → sign_place s ≡ sign_place r → s ≡ r
of_sign Same Same e = refl
of_sign Same Reversed e = absurd (omega arith)
of_sign Reversed Same e = absurd (omega arith)
of_sign Reversed Reversed e = refl

-- four digits, and the last of base 2
digits_same : (a b c s a' b' c' s' : ℕ) → b < 12 → c < 12 → s < 2 → b' < 12 → c' < 12 → s' < 2 → ((a * 12 + b) * 12 + c) * 2 + s ≡ ((a' * 12 + b') * 12 + c') * 2 + s' → (a ≡ a') × ((b ≡ b') × ((c ≡ c') × (s ≡ s')))
digits_same a b c s a' b' c' s' h1 h2 h3 h4 h5 h6 e = (omega arith, (omega arith, (omega arith, omega arith)))

pub place_same : (t u : Triple) (s r : Sign) → IsWithinCell 12 t → IsWithinCell 12 u → place_of t s ≡ place_of u r → pure t s ≡ pure u r
place_same t u s r v w e =
    let d =
    digits_same (unsigned_abs t.x) (unsigned_abs t.y) (unsigned_abs t.z) (sign_place s) (unsigned_abs u.x) (unsigned_abs u.y) (unsigned_abs u.z) (sign_place r)
    (size_below t.y v.y.0 v.y.1) (size_below t.z v.z.0 v.z.1) (sign_below s) (size_below u.y w.y.0 w.y.1) (size_below u.z w.z.0 w.z.1) (sign_below r) e in
    ap₂ pure (triple_same (of_size t.x u.x v.x.0 w.x.0 d.0) (of_size t.y u.y v.y.0 w.y.0 d.1.0) (of_size t.z u.z v.z.0 w.z.0 d.1.1.0)) (of_sign s r d.1.1.1)

pub place_below : (t : Triple) (s : Sign) → IsWithinCell 12 t → place_of t s < 3456
place_below t s w =
    let a = size_below t.x w.x.0 w.x.1 in
    let b = size_below t.y w.y.0 w.y.1 in
    let c = size_below t.z w.z.0 w.z.1 in
    let d = sign_below s in
    digits_below (unsigned_abs t.x) (unsigned_abs t.y) (unsigned_abs t.z) (sign_place s) a b c d
  where
    digits_below : (a b c s : ℕ) → a < 12 → b < 12 → c < 12 → s < 2 → ((a * 12 + b) * 12 + c) * 2 + s < 3456
    digits_below a b c s h i j k = omega arith

-- ---- how many

-- the place of an operation
place_in : Operation → ℕ
place_in o = place_of o.translation o.sign

pub few_found : (t : PureTable) → IsPureTable t → length t.found ≤ 3456
unfolding place_in
few_found t h = few_by_numbers place_in 3456 t.found h.distinct (λ o m. let a = h.flagged o m in place_below o.translation o.sign a.within) one
  where
    one : (o p : Operation) → IsMember o t.found → IsMember p t.found → place_in o ≡ place_in p → o ≡ p
    one o p m k e =
        let a = h.flagged o m in
        let b = h.flagged p k in
        a.is_pure ∙ place_same o.translation p.translation o.sign p.sign a.within b.within e ∙ sym b.is_pure

-- ---- tables

get-replicate : (n k : ℕ) → get_or (replicate n false) k false ≡ false
get-replicate zero k = refl
get-replicate (suc n) zero = refl
get-replicate (suc n) (suc k) = get-replicate n k

no_flag : (flags : List Bool) (v : Triple) (s : Sign) → flags ≡ replicate 3456 false → Has flags v s → ⊥
no_flag flags v s e h = let g : get_or flags (place_of v s) false ≡ false = ap (λ (xs : List Bool). get_or xs (place_of v s) false) e ∙ get-replicate 3456 (place_of v s) in absurd (cc (g, h))

pub none_flagged : (flags : List Bool) (found : List Operation) → flags ≡ replicate 3456 false → IsEmptyTable (record { flags = flags; found = found })
none_flagged flags found e = record { none = λ v s h. no_flag flags v s e h }

pub empty_table : (flags : List Bool) → flags ≡ replicate 3456 false → IsPureTable (record { flags = flags; found = [] })
empty_table flags e = record {
  size = ap length e ∙ length-replicate 3456 false;
  listed = λ v s w h. absurd (no_flag flags v s e h);
  flagged = λ o m. absurd m;
  distinct = tt;
}

module _ (flags : List Bool) (found : List Operation) (t : Triple) (s : Sign) (h : IsPureTable (record { flags = flags; found = found })) (w : IsWithinCell 12 t) where
  put_flags : List Bool
  put_flags = set flags (place_of t s) true

  pub put_here : Has (set flags (place_of t s) true) t s
  put_here = let l : place_of t s < length flags = subst (λ (n : ℕ). place_of t s < n) (sym h.size) (place_below t s w) in rw get_or-set_same refl

  put_keeps : (v : Triple) (r : Sign) → Has flags v r → Has (set flags (place_of t s) true) v r
  put_keeps v r k = by (nat_eq_or (place_of v r) (place_of t s))
    where
      nat_eq_or : (m n : ℕ) → (m ≡ n) ⊎ (m ≡ n → ⊥)
      nat_eq_or m n = grind arith

      by : (place_of v r ≡ place_of t s) ⊎ (place_of v r ≡ place_of t s → ⊥) → Has (set flags (place_of t s) true) v r
      by (inl e) = subst (λ (k : ℕ). get_or (set flags (place_of t s) true) k false ≡ true) (sym e) put_here
      by (inr n) = rw get_or-set_other k

  put_only : (v : Triple) (r : Sign) → IsWithinCell 12 v → Has (set flags (place_of t s) true) v r → Has flags v r ⊎ (pure v r ≡ pure t s)
  put_only v r in_cell k = by (nat_eq_or (place_of v r) (place_of t s))
    where
      nat_eq_or : (m n : ℕ) → (m ≡ n) ⊎ (m ≡ n → ⊥)
      nat_eq_or m n = grind arith

      by : (place_of v r ≡ place_of t s) ⊎ (place_of v r ≡ place_of t s → ⊥) → Has flags v r ⊎ (pure v r ≡ pure t s)
      by (inl e) = inr (place_same v t r s in_cell w e)
      by (inr n) = inl (rw get_or-set_other at k)

  pub put_is : IsPut (record { flags = flags; found = found }) (record { flags = set flags (place_of t s) true; found = found ++ (pure t s ∷ []) }) (pure t s)
  put_is = record { keeps = put_keeps; flagged = put_here; only = put_only; starts = starts_push found found (pure t s) (starts_refl found) }

  pub put_table : (Has flags t s → ⊥) → IsPureTable (record { flags = set flags (place_of t s) true; found = found ++ (pure t s ∷ []) })
  put_table new = record {
    size = length-set flags (place_of t s) true ∙ h.size;
    listed = λ v r in_cell k. listed v r in_cell (put_only v r in_cell k);
    flagged = λ o m. flagged o (pushed_member found (pure t s) o m);
    distinct = IsDistinct-pushed found (pure t s) h.distinct (λ m. new (h.flagged (pure t s) m).flagged);
  }
    where
      listed : (v : Triple) (r : Sign) → IsWithinCell 12 v → Has flags v r ⊎ (pure v r ≡ pure t s) → IsMember (pure v r) (found ++ (pure t s ∷ []))
      listed v r in_cell (inl k) = member_front found (pure t s) (pure v r) (h.listed v r in_cell k)
      listed v r in_cell (inr e) = subst (λ (o : Operation). IsMember o (found ++ (pure t s ∷ []))) (sym e) (member_last found (pure t s))

      flagged : (o : Operation) → (o ≡ pure t s) ⊎ IsMember o found → IsListed (set flags (place_of t s) true) o
      flagged o (inr m) = let a = h.flagged o m in record { within = a.within; is_pure = a.is_pure; flagged = put_keeps o.translation o.sign a.flagged }
      flagged o (inl e) = subst (IsListed (set flags (place_of t s) true)) (sym e) (record { within = w; is_pure = refl; flagged = put_here })
