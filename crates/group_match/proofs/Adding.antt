-- One more congruence, and the least place at which all hold.
use Rattle.std.proofs.Common.{◌≡◌, sym, ap, subst, ◌∙◌, ℕ, ◌+◌, ◌*◌, ◌%◌, ◌<◌, ◌≤◌, ◌⊎◌, inl, inr, List, [], ◌∷◌, ◌++◌, Vec, Global, arith, eq-or-lt_of_le}
use Rattle.std.specs.Prelude.{◌↔◌}
use Rattle.lists.specs.Increasing.{IsMember}
use Rattle.lists.proofs.Members.{member_front, member_last, each_pushed}
use Rattle.group_match.specs.declared.row.Row.{Row}
use Rattle.group_match.specs.declared.row.Rows.{Rows}
use Rattle.group_match.specs.Rows.{MeetsFirst, MeetsSecond, MeetsThird, AllMeet, Passes, IsOpen, NoneBelow, IsLeast, SomeBelow, IsLeastPlace}

-- all of a list and one more
all_more : (P : Row → Type 0) (rs ts : List Row) (r : Row) → ts ≡ rs ++ r ∷ [] → AllMeet P ts → P r × AllMeet P rs
all_more P rs ts r e h = (h r (subst (IsMember r) (sym e) (member_last rs r)), λ s m. h s (subst (IsMember s) (sym e) (member_front rs r s m)))

more_all : (P : Row → Type 0) (rs ts : List Row) (r : Row) → ts ≡ rs ++ r ∷ [] → P r → AllMeet P rs → AllMeet P ts
more_all P rs ts r e p h = subst (AllMeet P) (sym e) (each_pushed P rs r h p)

third_to_second : (k : ℕ) (r : Row) (x y z : ℕ) → r.z ≡ 0 → r.x * x + r.y * y + r.z * z ≡ r.x * x + r.y * y
third_to_second k r x y z e = ap (λ (c : ℕ). r.x * x + r.y * y + c * z) e ∙ none (r.x * x + r.y * y) z
  where
    none : (s z : ℕ) → s + 0 * z ≡ s
    none s z = omega arith

third_to_first : (k : ℕ) (r : Row) (x y z : ℕ) → r.z ≡ 0 → r.y ≡ 0 → r.x * x + r.y * y + r.z * z ≡ r.x * x
third_to_first k r x y z e f = third_to_second k r x y z e ∙ (ap (λ (c : ℕ). r.x * x + c * y) f ∙ none (r.x * x) y)
  where
    none : (s z : ℕ) → s + 0 * z ≡ s
    none s z = omega arith

module _ (k : ℕ) (rows : Rows) (row : Row) (new : Vec Row Global) (x y z : ℕ) where
  pub added_third : new.items ≡ rows.third.items ++ row ∷ [] → Passes k (record { first = rows.first; second = rows.second; third = new }) x y z ↔ (MeetsThird k row x y z × Passes k rows x y z)
  added_third e = (
    (λ p. (let a = all_more (λ r. MeetsThird k r x y z) rows.third.items new.items row e p.third in (a.0, record { first = p.first; second = p.second; third = a.1 }))),
    (λ p. record { first = p.1.first; second = p.1.second; third = more_all (λ r. MeetsThird k r x y z) rows.third.items new.items row e p.0 p.1.third }),
  )

  pub added_second : row.z ≡ 0 → new.items ≡ rows.second.items ++ row ∷ [] → Passes k (record { first = rows.first; second = new; third = rows.third }) x y z ↔ (MeetsThird k row x y z × Passes k rows x y z)
  added_second none e =
      let s = ap (λ (n : ℕ). n % k) (third_to_second k row x y z none) in (
        (λ p. (let a = all_more (λ r. MeetsSecond k r x y) rows.second.items new.items row e p.second in (s ∙ a.0, record { first = p.first; second = a.1; third = p.third }))),
        (λ p. record { first = p.1.first; second = more_all (λ r. MeetsSecond k r x y) rows.second.items new.items row e (sym s ∙ p.0) p.1.second; third = p.1.third }),
      )

  pub added_first : row.z ≡ 0 → row.y ≡ 0 → new.items ≡ rows.first.items ++ row ∷ [] → Passes k (record { first = new; second = rows.second; third = rows.third }) x y z ↔ (MeetsThird k row x y z × Passes k rows x y z)
  added_first none none_y e =
      let s = ap (λ (n : ℕ). n % k) (third_to_first k row x y z none none_y) in (
        (λ p. (let a = all_more (λ r. MeetsFirst k r x) rows.first.items new.items row e p.first in (s ∙ a.0, record { first = a.1; second = p.second; third = p.third }))),
        (λ p. record { first = more_all (λ r. MeetsFirst k r x) rows.first.items new.items row e (sym s ∙ p.0) p.1.first; second = p.1.second; third = p.1.third }),
      )

-- ---- the least

pub none_more : (n : ℕ) (P : ℕ → Type 0) → NoneBelow n P → (P n → ⊥) → NoneBelow (n + 1) P
none_more n P h k = record { none = λ i l p. by i p (split i l) }
  where
    split : (i : ℕ) → i < n + 1 → (i ≡ n) ⊎ (i < n)
    split i l = eq-or-lt_of_le (omega arith)

    by : (i : ℕ) → P i → (i ≡ n) ⊎ (i < n) → ⊥
    by i p (inl e) = k (subst P e p)
    by i p (inr l) = h.none i l p

pub none_up_to : (n k : ℕ) (P : ℕ → Type 0) → k ≤ n → NoneBelow n P → NoneBelow k P
none_up_to n k P l h = record { none = λ i j p. h.none i (omega arith) p }

pub none_some : (k : ℕ) (P : ℕ → Type 0) → NoneBelow k P → SomeBelow k P → ⊥
none_some k P h s = h.none s.0 s.1.0 s.1.1

-- a place at which all hold is open in its first two numbers
pub open_of : (k : ℕ) (rows : Rows) (x y : ℕ) → SomeBelow k (Passes k rows x y) → IsOpen k rows x y
open_of k rows x y s = record { second = s.1.1.second; third = (s.0, (s.1.0, s.1.1.third)) }

-- none is open, so none passes
pub none_open : (k : ℕ) (rows : Rows) (x : ℕ) → NoneBelow k (λ b. IsOpen k rows x b) → SomeBelow k (λ b. SomeBelow k (Passes k rows x b)) → ⊥
none_open k rows x h s = h.none s.0 s.1.0 (open_of k rows x s.0 s.1.1)

pub place_found : (k : ℕ) (rows : Rows) (x y z : ℕ) → x < k → NoneBelow x (λ a. SomeBelow k (λ b. SomeBelow k (Passes k rows a b))) → AllMeet (λ r. MeetsFirst k r x) rows.first.items → IsLeast k (λ b. IsOpen k rows x b) y → IsLeast k (λ c. AllMeet (λ r. MeetsThird k r x y c) rows.third.items) z → IsLeastPlace k (Passes k rows) x y z
place_found k rows x y z below none first second third =
    let p : Passes k rows x y z = record { first = first; second = second.holds.second; third = third.holds } in
    record {
      first = record { below = below; holds = (y, (second.below, (z, (third.below, p)))); earlier = λ j l s. none.none j l s };
      second = record { below = second.below; holds = (z, (third.below, p)); earlier = λ j l s. second.earlier j l (open_of k rows x j s) };
      third = record { below = third.below; holds = p; earlier = λ j l s. third.earlier j l s.third };
    }
