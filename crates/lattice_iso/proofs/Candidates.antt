-- The candidates are exactly the columns of entries -1, 0 and 1.
--   IsFoundAt g n v i      v is the candidate number i, and its squared length is n
--   IsFoundBelow g n k v   so it is for a number below k
use Rattle.std.proofs.Common.{◌≡◌, refl, sym, ap, subst, ◌∙◌, ◌⊎◌, inl, inr, ℕ, zero, suc, ◌+◌, ◌*◌, ◌/◌, ◌%◌, ◌<◌, ◌≤◌, List, [], ◌∷◌, ◌++◌, arith}
use Rattle.std.specs.Prelude.{ℤ, pos, negsuc, ◌-ℤ◌, unsigned_abs, ◌↔◌}
use Rattle.std.proofs.lemmas.Int.{ints}
use Rattle.ring.specs.Size.{AtMost}
use Rattle.lists.specs.Increasing.{IsMember}
use Rattle.lists.specs.Any.{AnyBelow}
use Rattle.lists.proofs.Members.{IsMember-pushed}
use Rattle.lists.proofs.Any.{alone_more, alone_same}
use Rattle.crystal_spec.specs.Matrices.{Triple, Matrix}
use Rattle.crystal_spec.proofs.Entrywise.{triple_same}
use Rattle.matrix3.specs.Bounds.{CoordinatesAtMost}
use Rattle.lattice_iso.specs.Columns.{candidate, scalar_product, IsOfLength, ListsOfLength}

-- the candidate of this number, whose squared length is n
pub record IsFoundAt (g : Matrix) (n : ℤ) (v : Triple) (number : ℕ) : Type 0 where
  pub same : v ≡ candidate number
  pub same_length : scalar_product g v v ≡ n

-- a candidate of a number below k
abbrev pub IsFoundBelow : Matrix → ℤ → ℕ → Triple → Type 0
IsFoundBelow g n k v = AnyBelow k (IsFoundAt g n v)

-- a small entry is a digit less one
digit_of : (z : ℤ) → unsigned_abs z ≤ 1 → (d : ℕ) × (d < 3) × (pos d -ℤ pos 1 ≡ z)
digit_of (pos zero) h = (1, omega arith, refl)
digit_of (pos (suc zero)) h = (2, omega arith, refl)
digit_of (pos (suc (suc n))) h = absurd (omega arith)
digit_of (negsuc zero) h = (0, omega arith, refl)
digit_of (negsuc (suc n)) h = absurd (omega arith)

module _ (d1 d2 d3 : ℕ) (h1 : d1 < 3) (h2 : d2 < 3) (h3 : d3 < 3) where
  read_x : (9 * d1 + 3 * d2 + 1 * d3) / 9 % 3 ≡ d1
  read_x = omega arith

  read_y : (9 * d1 + 3 * d2 + 1 * d3) / 3 % 3 ≡ d2
  read_y = omega arith

  read_z : (9 * d1 + 3 * d2 + 1 * d3) / 1 % 3 ≡ d3
  read_z = omega arith

  below_27 : 9 * d1 + 3 * d2 + 1 * d3 < 27
  below_27 = omega arith

-- the number of a column of small entries
number_of : (v : Triple) → CoordinatesAtMost 1 v → (k : ℕ) × (k < 27) × (v ≡ candidate k)
number_of v h =
    let x = digit_of v.x h.x.size in
    let y = digit_of v.y h.y.size in
    let z = digit_of v.z h.z.size in
    let digit = λ (d : ℕ). pos d -ℤ pos 1 in
    (9 * x.0 + 3 * y.0 + 1 * z.0, below_27 x.0 y.0 z.0 x.1 y.1 z.1, sym (triple_same (ap digit (read_x x.0 y.0 z.0 x.1 y.1 z.1) ∙ x.2) (ap digit (read_y x.0 y.0 z.0 x.1 y.1 z.1) ∙ y.2) (ap digit (read_z x.0 y.0 z.0 x.1 y.1 z.1) ∙ z.2)))

digit_small : (d : ℕ) → d < 3 → AtMost 1 (pos d -ℤ pos 1)
digit_small d h = record { size = omega (arith, ints) }

-- a candidate has small entries
pub candidate_small : (k : ℕ) → CoordinatesAtMost 1 (candidate k)
candidate_small k = record { x = digit_small (k / 9 % 3) (omega arith); y = digit_small (k / 3 % 3) (omega arith); z = digit_small (k / 1 % 3) (omega arith) }

module _ (g : Matrix) (n : ℤ) (k : ℕ) (vs : List Triple) (so_far : (v : Triple) → IsMember v vs ↔ IsFoundBelow g n k v) where
  -- a candidate of this length is put behind the others
  pub found_more : (u : Triple) → u ≡ candidate k → scalar_product g u u ≡ n → (v : Triple) → IsMember v (vs ++ u ∷ []) ↔ IsFoundBelow g n (k + 1) v
  found_more u is same v = alone_more (IsFoundAt g n v) k (IsMember v (vs ++ u ∷ [])) (IsMember v vs) (so_far v) ((λ m. into ((IsMember-pushed vs u v).0 m)), (λ h. (IsMember-pushed vs u v).1 (back h)))
    where
      into : (v ≡ u) ⊎ IsMember v vs → IsFoundAt g n v k ⊎ IsMember v vs
      into (inl e) = inl (record { same = e ∙ is; same_length = subst (λ (x : Triple). scalar_product g x x ≡ n) (sym e) same })
      into (inr m) = inr m

      back : IsFoundAt g n v k ⊎ IsMember v vs → (v ≡ u) ⊎ IsMember v vs
      back (inl f) = inl (f.same ∙ sym is)
      back (inr m) = inr m

  -- a candidate of another length is left out
  pub found_not : (scalar_product g (candidate k) (candidate k) ≡ n → ⊥) → (v : Triple) → IsMember v vs ↔ IsFoundBelow g n (k + 1) v
  found_not other v = alone_same (IsFoundAt g n v) k (IsMember v vs) (λ f. other (subst (λ (x : Triple). scalar_product g x x ≡ n) f.same f.same_length)) (so_far v)

-- after all 27 candidates
pub found_all : (g : Matrix) (n : ℤ) (vs : List Triple) → ((v : Triple) → IsMember v vs ↔ IsFoundBelow g n 27 v) → ListsOfLength g n vs
found_all g n vs found = record { exact = λ v. ((λ m. into v ((found v).0 m)), (λ l. back v l)) }
  where
    into : (v : Triple) → IsFoundBelow g n 27 v → IsOfLength g n v
    into v f = record { small = subst (CoordinatesAtMost 1) (sym f.holds.same) (candidate_small f.number); same_length = f.holds.same_length }

    back : (v : Triple) → IsOfLength g n v → IsMember v vs
    back v l = let k = number_of v l.small in (found v).1 (record { number = k.0; below = k.1; holds = record { same = k.2; same_length = l.same_length } })
