-- Metric lines: the least scale, the range, and the metric tensor in units of 1/scale.
use Rattle.std.proofs.Common.{◌≡◌, ℕ, zero, suc, ◌/◌, ◌<◌, ◌≤◌, Bool, true, false, List, [], ◌∷◌, ◌++◌, refl, sym, ap, subst, ◌∙◌, arith, Option, None}
use Rattle.std.specs.Prelude.{◌&&◌, nat_le, ℤ, pos, unsigned_abs, MatchOption}
use Rattle.std.proofs.Math.Bool.{and-false}
use Rattle.std.proofs.lemmas.Int.{unsigned_abs-mul}
use Rattle.std.specs.List.{list_all}
use Rattle.std.proofs.lemmas.Bool.{le-leb, lt-leb, leb-true, and_parts}
use Rattle.std.proofs.lemmas.List.Folds.{list_all-append}
use Rattle.ring.specs.Size.{AtMost}
use Rattle.numbers.specs.Gcd.{lcm}
use Rattle.cell_text.specs.declared.three.ThreeNumbers.{ThreeNumbers}
use Rattle.numbers.specs.Fraction.{Fraction}
use Rattle.plain_text.specs.NumberWords.{common_denominator, scaled}
use Rattle.cell_text.specs.Entries.{nothing, number_at, scaled_tensor, metric_of, is_metric_in_range, is_billion}
use Rattle.cell_text.specs.Views.{numbers_view}
use Rattle.plain_text.specs.Views.{Grown}
use Rattle.plain_text.proofs.Multiples.{lcm-positive, lcm-grows_left, past_one}

-- ---- the least scale of six numbers

-- the six numbers
abbrev pub all_six : ThreeNumbers → ThreeNumbers → List Fraction
all_six m p = numbers_view m ++ numbers_view p

grow3 : (d x y z bound : ℕ) → 0 < d → 0 < x → 0 < y → 0 < z → bound < d → bound < lcm (lcm (lcm d x) y) z
grow3 d x y z bound hd hx hy hz h = past_one d x y z bound hd hx hy hz (omega (arith, lcm-grows_left d x hd hx))

lcm3-positive : (x y z : ℕ) → 0 < x → 0 < y → 0 < z → 0 < lcm (lcm (lcm 1 x) y) z
lcm3-positive x y z hx hy hz = lcm-positive (lcm (lcm 1 x) y) z (lcm-positive (lcm 1 x) y (lcm-positive 1 x (omega arith) hx) hy) hz

-- where three of the denominators pass the bound, all six do
pub past_half : (m p : ThreeNumbers) → 1000000000 < lcm (lcm (lcm 1 m.a.den) m.b.den) m.c.den → 1000000000 < common_denominator (all_six m p)
past_half m p h =
    grow3 (lcm (lcm (lcm 1 m.a.den) m.b.den) m.c.den) p.a.den p.b.den p.c.den 1000000000 (lcm3-positive m.a.den m.b.den m.c.den m.a.positive m.b.positive m.c.positive) p.a.positive p.b.positive p.c.positive h

pub past_whole : (m p : ThreeNumbers) (half : ℕ) → Grown 1 m.a.den m.b.den m.c.den half → 1000000000 < lcm (lcm (lcm half p.a.den) p.b.den) p.c.den → 1000000000 < common_denominator (all_six m p)
past_whole m p half g h = rw (← g.is) h

pub scale_grown : (m p : ThreeNumbers) (half scale : ℕ) → Grown 1 m.a.den m.b.den m.c.den half → Grown half p.a.den p.b.den p.c.den scale → scale ≡ common_denominator (all_six m p)
scale_grown m p half scale g k = k.is ∙ ap (λ (d : ℕ). lcm (lcm (lcm d p.a.den) p.b.den) p.c.den) g.is

-- ---- the range

past_bound : (d : ℕ) (b : Bool) → 1000000000 < d → (nat_le d 1000000000 && b) ≡ false
past_bound d b h = rw (lt-leb d 1000000000 h) refl

-- the scale passes the bound
pub past_scale : (fs : List Fraction) → 1000000000 < common_denominator fs → is_metric_in_range fs ≡ false
unfolding is_metric_in_range
past_scale fs h = past_bound (common_denominator fs) _ h

within_bound : (d : ℕ) (b : Bool) → d ≤ 1000000000 → (nat_le d 1000000000 && b) ≡ b
within_bound d b h = rw (le-leb d 1000000000 h) refl

-- the scale is within the bound
within : (fs : List Fraction) (d : ℕ) → d ≡ common_denominator fs → d ≤ 1000000000 → is_metric_in_range fs ≡ list_all (λ f. is_billion (scaled d f)) fs
unfolding is_metric_in_range
within fs d s h =
    subst (λ (c : ℕ). (nat_le c 1000000000 && list_all (λ f. is_billion (scaled c f)) fs) ≡ list_all (λ f. is_billion (scaled d f)) fs) s (within_bound d _ h)

-- the six are in range where the first three and the last three are
pub six_within : (m p : ThreeNumbers) (d : ℕ) → d ≡ common_denominator (all_six m p) → d ≤ 1000000000 → is_metric_in_range (all_six m p) ≡ (list_all (λ f. is_billion (scaled d f)) (numbers_view m) && list_all (λ f. is_billion (scaled d f)) (numbers_view p))
six_within m p d s h = within (all_six m p) d s h ∙ list_all-append (λ f. is_billion (scaled d f)) (numbers_view m) (numbers_view p)

pub first_out : (m p : ThreeNumbers) (d : ℕ) → d ≡ common_denominator (all_six m p) → d ≤ 1000000000 → list_all (λ f. is_billion (scaled d f)) (numbers_view m) ≡ false → is_metric_in_range (all_six m p) ≡ false
first_out m p d s h e = six_within m p d s h ∙ rw e refl

pub last_out : (m p : ThreeNumbers) (d : ℕ) → d ≡ common_denominator (all_six m p) → d ≤ 1000000000 → list_all (λ f. is_billion (scaled d f)) (numbers_view p) ≡ false → is_metric_in_range (all_six m p) ≡ false
last_out m p d s h e = six_within m p d s h ∙ rw e (and-false (list_all (λ f. is_billion (scaled d f)) (numbers_view m)))

pub all_in : (m p : ThreeNumbers) (d : ℕ) → d ≡ common_denominator (all_six m p) → d ≤ 1000000000 → list_all (λ f. is_billion (scaled d f)) (numbers_view m) ≡ true → list_all (λ f. is_billion (scaled d f)) (numbers_view p) ≡ true → is_metric_in_range (all_six m p) ≡ true
all_in m p d s h e g = six_within m p d s h ∙ rw (e, g) refl

-- an answer that is none
pub none_is : {X : Type 0} (r : Option X) (P : Type 0) (Q : X → Type 0) → r ≡ None → P → MatchOption r P Q
none_is {X = X} r P Q e p = subst (λ (o : Option X). MatchOption o P Q) (sym e) p

-- the metric tensor with the least scale
pub tensor_is : (fs : List Fraction) (d : ℕ) → d ≡ common_denominator fs → scaled_tensor d fs ≡ metric_of fs
tensor_is fs d s = ap (λ (c : ℕ). scaled_tensor c fs) s

pub at_most : (z : ℤ) → is_billion z ≡ true → AtMost 1000000000 z
at_most z e = record { size = leb-true (unsigned_abs z) 1000000000 e }

nothing_billion : (d : ℕ) → is_billion (scaled d nothing) ≡ true
nothing_billion d =
    let size = unsigned_abs-mul (pos 0) (pos (d / 1)) in
    le-leb (unsigned_abs (scaled d nothing)) 1000000000 (omega (arith, size))

-- of numbers that are in range, each is
pub number_billion : (d : ℕ) (fs : List Fraction) (i : ℕ) → list_all (λ f. is_billion (scaled d f)) fs ≡ true → is_billion (scaled d (number_at fs i)) ≡ true
number_billion d [] i e = nothing_billion d
number_billion d (f ∷ fs) zero e = (and_parts (is_billion (scaled d f)) _ e).0
number_billion d (f ∷ fs) (suc i) e = number_billion d fs i (and_parts (is_billion (scaled d f)) _ e).1
