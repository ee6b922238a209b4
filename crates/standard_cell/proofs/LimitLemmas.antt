-- Tests of sizes, and of one fact after another.
use Rattle.std.proofs.Common.{◌≡◌, ℕ, ◌+◌, ℤ, pos, negsuc, ◌*ℤ◌, ◌<ℤ◌, ◌≤ℤ◌, Bool, true, false, List, [], ◌∷◌, take, refl, sym, ap, subst, arith}
use Rattle.std.specs.Prelude.{if◌then◌else◌, unsigned_abs, slice_get, Some}
use Rattle.std.proofs.lemmas.Int.{ints}
use Rattle.ring.specs.Ring.{var, ◌:*◌}
use Rattle.ring.specs.Size.{AtMost}
use Rattle.lists.specs.Increasing.{IsMember}
use Rattle.lists.proofs.Walks.{take_at}
use Rattle.lists.proofs.Members.{each_pushed}
use Rattle.crystal_spec.specs.declared.MomentKind.{MomentKind}
use Rattle.crystal_spec.specs.Moments.{divisor}
use Rattle.crystal_spec.specs.Crystals.{Atom}
use Rattle.crystal_spec.proofs.Identities.{by_integers}
use Rattle.crystal.specs.declared.metric.Metric.{Metric}
use Rattle.crystal.specs.Views.{metric_of}
use Rattle.matrix3.specs.Bounds.{EntriesAtMost}

pub not_zero : (d : ℤ) → pos 0 <ℤ d → d ≡ pos 0 → ⊥
not_zero d h e = omega (arith, ints)

pub swapped : (a b : ℤ) → a *ℤ b ≡ b *ℤ a
swapped a b = by_integers (a ∷ b ∷ []) (var 0 :* var 1) (var 1 :* var 0) refl

pub index_size : (n : ℕ) (d : ℤ) → pos n ≡ d → n ≡ unsigned_abs d
index_size n d e = ap unsigned_abs e

-- from -b to b
pub between_size : (b : ℕ) (z : ℤ) → (negsuc b <ℤ z) × (z ≤ℤ pos b) → AtMost b z
between_size b (pos n) h = let l = h.1 in record { size = omega (arith, ints, l) }
between_size b (negsuc n) h = let l = h.0 in record { size = omega (arith, ints, l) }

-- a metric tensor by its six entries
pub metric_sizes : {b : ℕ} {g : Metric} → AtMost b g.aa → AtMost b g.bb → AtMost b g.cc → AtMost b g.bc → AtMost b g.ac → AtMost b g.ab → EntriesAtMost b (metric_of g)
metric_sizes aa bb cc bc ac ab = record { a11 = aa; a12 = ab; a13 = ac; a21 = ab; a22 = bb; a23 = bc; a31 = ac; a32 = bc; a33 = cc }

-- what holds of each so far and of one more
pub each_more : (P : Atom → Type 0) (xs : List Atom) (i : ℕ) (x : Atom) → slice_get xs i ≡ Some x → ((a : Atom) → IsMember a (take i xs) → P a) → P x → (a : Atom) → IsMember a (take (i + 1) xs) → P a
each_more P xs i x e h p a m = each_pushed P (take i xs) x h p a (subst (λ (l : List Atom). IsMember a l) (sym (take_at xs i x e)) m)

-- the divisor of moments
pub divisor_vector : (kind : MomentKind) (d : ℕ) → kind.vector ≡ true → divisor kind d ≡ d
unfolding divisor
divisor_vector kind d e = ap (λ (vector : Bool). if vector then d else 1) e

pub divisor_scalar : (kind : MomentKind) (d : ℕ) → kind.vector ≡ false → divisor kind d ≡ 1
unfolding divisor
divisor_scalar kind d e = ap (λ (vector : Bool). if vector then d else 1) e
