-- Scalar products stay far within the integers of the program.
--
-- Entries of a metric tensor up to 10^34 and coordinates of size 1 give images up to 3 · 10^34 and products up to 9 · 10^34,
-- below the 10^36 of an integer.
use Rattle.std.proofs.Common.{◌≡◌, ◌*◌, ◌+◌, ◌^◌, sym, subst}
use Rattle.ring.specs.Ring.{int_ops}
use Rattle.ring.specs.Size.{AtMost}
use Rattle.ring.proofs.Sizes.{at_most_mul, at_most_add, weaken}
use Rattle.matrix3.specs.Fits.{DotFits, ImageFits}
use Rattle.crystal_spec.specs.Matrices.{Triple, Matrix, image}
use Rattle.matrix3.specs.Bounds.{EntriesAtMost, CoordinatesAtMost}
use Rattle.matrix3.proofs.FitsBySize.{image_fits, image_size}

-- the products and sums of a metric tensor applied to a small column
pub metric_image_fits : (g : Matrix) (v : Triple) → EntriesAtMost (10 ^ 34) g → CoordinatesAtMost 1 v → ImageFits int_ops (AtMost (10 ^ 36)) g v
metric_image_fits g v h k = image_fits g v h k tt

-- those of a small column and that image
pub products_fit : (g : Matrix) (u v w : Triple) → EntriesAtMost (10 ^ 34) g → CoordinatesAtMost 1 u → CoordinatesAtMost 1 v → w ≡ image g v → DotFits int_ops (AtMost (10 ^ 36)) u.x u.y u.z w.x w.y w.z
products_fit g u v w h s k e =
    let n = 10 ^ 34 * 1 + 10 ^ 34 * 1 + 10 ^ 34 * 1 in
    let r : CoordinatesAtMost n w = subst (CoordinatesAtMost n) (sym e) (image_size g v h k) in
    let x = at_most_mul s.x r.x in
    let y = at_most_mul s.y r.y in
    let z = at_most_mul s.z r.z in
    record { first = weaken (10 ^ 36) x tt; second = weaken (10 ^ 36) y tt; third = weaken (10 ^ 36) z tt; two = weaken (10 ^ 36) (at_most_add x y) tt; three = weaken (10 ^ 36) (at_most_add (at_most_add x y) z) tt }
