-- How many atoms are of a species, how many isometries there are, and how many maps are tested for each.
--
-- What is left to be tested is told by the rest of a list: with each element it falls by what that element costs.
use Rattle.std.proofs.Common.{◌≡◌, ap, ◌∙◌, ℕ, suc, ◌+◌, ◌*◌, ◌≤◌, Bool, true, false, List, length, drop, arith}
use Rattle.std.specs.Prelude.{slice_get, Some}
use Rattle.lists.proofs.Increasing.{increasing_unique}
use Rattle.lists.proofs.Walks.{drop_at}
use Rattle.crystal_spec.specs.Matrices.{Matrix}
use Rattle.lattice_iso.specs.Isometries.{ListsIsometries}
use Rattle.lattice_iso.proofs.MatrixPlaces.{matrix_order_total}
use Rattle.mag_ops.specs.Groups.{signs}

-- two lists of all isometries are one
pub isometries_once : (g : Matrix) (vs ws : List Matrix) → ListsIsometries g vs → ListsIsometries g ws → vs ≡ ws
isometries_once g vs ws h k = increasing_unique matrix_order_total vs ws h.increasing k.increasing
    (λ w. ((λ m. (k.exact w).1 ((h.exact w).0 m)), (λ m. (h.exact w).1 ((k.exact w).0 m))))

-- ---- how many maps are tested
-- so many at most, and what is left falls by what was tested
pub tested_more : (time : Bool) (start total old new left rest cost : ℕ) → left ≡ rest + cost → old + signs time * left ≤ start + signs time * total → new ≤ old + signs time * cost → new + signs time * rest ≤ start + signs time * total
tested_more true start total old new left rest cost e h k = omega (arith, e, h, k)
tested_more false start total old new left rest cost e h k = omega (arith, e, h, k)

-- so it does where one element costs one map of each sign
pub tested_one : (time : Bool) (start total old new left rest : ℕ) → left ≡ rest + 1 → old + signs time * left ≤ start + signs time * total → new ≤ old + signs time → new + signs time * rest ≤ start + signs time * total
tested_one true start total old new left rest e h k = omega (arith, e, h, k)
tested_one false start total old new left rest e h k = omega (arith, e, h, k)

-- where an element costs nothing
pub tested_none : (time : Bool) (start total old new left rest : ℕ) → new ≡ old → left ≡ rest → old + signs time * left ≤ start + signs time * total → new + signs time * rest ≤ start + signs time * total
tested_none true start total old new left rest e f h = omega (arith, e, f, h)
tested_none false start total old new left rest e f h = omega (arith, e, f, h)

-- what was tested for one element is within what is tested in all
pub tested_within : (time : Bool) (start total old new left : ℕ) → 1 ≤ left → old + signs time * left ≤ start + signs time * total → new ≤ old + signs time → new ≤ start + signs time * total
tested_within true start total old new left e h k = omega (arith, e, h, k)
tested_within false start total old new left e h k = omega (arith, e, h, k)

-- each operation that is listed was tested, and more may have been
pub listed_more : (start_count start count steps more_count more_steps : ℕ) → count + start ≤ start_count + steps → more_count + steps ≤ count + more_steps → more_count + start ≤ start_count + more_steps
listed_more start_count start count steps more_count more_steps h k = omega (arith, h, k)

-- so it is where none was listed at first
pub listed_from_none : (start count steps more_count more_steps : ℕ) → count + start ≤ steps → more_count + steps ≤ count + more_steps → more_count + start ≤ more_steps
listed_from_none start count steps more_count more_steps h k = omega (arith, h, k)

-- what was tested is not more than what is tested in all
pub tested_in_all : (time : Bool) (start total now left : ℕ) → now + signs time * left ≤ start + signs time * total → now ≤ start + signs time * total
tested_in_all time start total now left h = let p = signs time * left in omega (arith, h)

-- the sum over a list of one cost is so many times that cost
pub cost_at : {X : Type 0} (xs : List X) (i : ℕ) (x : X) (cost : ℕ) → slice_get xs i ≡ Some x → length (drop i xs) * cost ≡ length (drop (i + 1) xs) * cost + cost
cost_at {X} xs i x cost is = ap (λ (ys : List X). length ys * cost) (drop_at xs i x is) ∙ more (length (drop (i + 1) xs)) cost
  where
    more : (m k : ℕ) → suc m * k ≡ m * k + k
    more m k = grind arith
