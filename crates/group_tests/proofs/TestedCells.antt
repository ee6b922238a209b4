-- A cell of one atom with small numbers has the sizes of one that was read.
use Rattle.std.proofs.Common.{◌≡◌, ℕ, ◌^◌, List, [], ◌∷◌, ℤ, pos, ◌≤ℤ◌, sym, subst, inl, inr, arith, lit≤}
use Rattle.std.proofs.lemmas.Int.{ints}
use Rattle.lists.specs.Increasing.{IsMember}
use Rattle.crystal_spec.specs.declared.MomentKind.{MomentKind}
use Rattle.crystal_spec.specs.Matrices.{Matrix}
use Rattle.crystal_spec.specs.Crystals.{Atom, Structure}
use Rattle.matrix3.specs.Bounds.{EntriesAtMost, CoordinatesAtMost}
use Rattle.crystal.specs.Sizes.{HasSizesOfRead}
use Rattle.matrix3.proofs.FitsBySize.{entries_grown}

pub sizes_of_one : (c : Structure) (name : List ℕ) (s : ℤ) (g : Matrix) (n k : ℕ) (kind : MomentKind) (a : Atom) → c ≡ record { names = name ∷ []; scale = s; metric = g; n = n; k = k; kind = kind; atoms = a ∷ [] } → s ≤ℤ pos 128 → EntriesAtMost 128 g → CoordinatesAtMost (10 ^ 9) a.moment → HasSizesOfRead c
sizes_of_one c name s g n k kind a e h metric moment = subst HasSizesOfRead (sym e) (record { scale = omega (arith, ints, h); metric = entries_grown (lit≤ tt) metric; moments = by })
  where
    by : (b : Atom) → IsMember b (a ∷ []) → CoordinatesAtMost (10 ^ 9) b.moment
    by b (inl f) = subst (λ (x : Atom). CoordinatesAtMost (10 ^ 9) x.moment) (sym f) moment
    by b (inr m) = absurd m
