-- Maps between two crystals with fractions in their matrix too: x ↦ (B / d) x + b.
--   IsCarriedAnyTo ..       the map carries this atom of c to this atom of c'
--   HasAnyImage, IsAnyImage it carries this atom of c to one of c'; this atom of c' is one to which it carries one of c
--   TakesAny c c' b f d s   the map carries the crystal c onto the crystal c'
--   modulo_one f            f less the greatest integer that is at most f: from 0 to below 1, in lowest terms
--   IsListedIn ..           the map has a matrix of integers, and the list has it with its translation part modulo 1
use Rattle.std.specs.Prelude.{◌≡◌, ℕ, pos, ◌*ℤ◌, ◌≤ℤ◌, ◌<ℤ◌, List}
use Rattle.std.specs.Int.{int_rem_euclid}
use Rattle.numbers.specs.Fraction.{Fraction, lowest}
use Rattle.lists.specs.Increasing.{IsMember}
use Rattle.matrix3.specs.declared.vector.Vec3.{Vec3}
use Rattle.matrix3.specs.Matrices.{vector_map, EachCoordinate}
use Rattle.crystal_spec.specs.declared.Sign.{Sign}
use Rattle.crystal_spec.specs.Matrices.{Triple, Matrix, image, multiple, determinant}
use Rattle.crystal_spec.specs.Moments.{axial_factor, turn_matrix, divisor}
use Rattle.crystal_spec.specs.Crystals.{Structure, Occupied}
use Rattle.crystal_spec.specs.Operations.{sign_factor}
use Rattle.basis_spec.specs.Metrics.{matrix_multiple, metric_in}
use Rattle.basis_spec.specs.Maps.{sign_of}
use Rattle.crystal_compare.specs.Maps.{AffineMap, IsMovedBy, HaveOneName}

-- One name, q / n' = B (p / n) / d + b, and the moment l / k' is sign · det / |det| · B (m / k) / d where m is an axial
-- vector: without det / |det| where moments are not axial, and with m / k in place of B (m / k) / d where they are scalars.
pub record IsCarriedAnyTo (c c' : Structure) (b : Matrix) (f : Vec3 Fraction) (d : ℕ) (sign : Sign) (s : ℕ) (p m : Triple) (r : ℕ) (q l : Triple) : Type 0 where
  pub one_name : HaveOneName c c' s r
  pub position : IsMovedBy (image b p) (pos c.n *ℤ pos d) f q (pos c'.n)
  pub moment : multiple (pos c.k *ℤ pos (divisor c.kind d)) l ≡ multiple (pos c'.k *ℤ (sign_factor sign *ℤ axial_factor c.kind (sign_of (determinant b)))) (image (turn_matrix c.kind b) m)

pub record HasAnyImage (c c' : Structure) (b : Matrix) (f : Vec3 Fraction) (d : ℕ) (sign : Sign) (s : ℕ) (p m : Triple) : Type 0 where
  pub species : ℕ
  pub position : Triple
  pub moment : Triple
  pub occupied : Occupied c' species position moment
  pub is_image : IsCarriedAnyTo c c' b f d sign s p m species position moment

pub record IsAnyImage (c c' : Structure) (b : Matrix) (f : Vec3 Fraction) (d : ℕ) (sign : Sign) (r : ℕ) (q l : Triple) : Type 0 where
  pub species : ℕ
  pub position : Triple
  pub moment : Triple
  pub occupied : Occupied c species position moment
  pub is_image : IsCarriedAnyTo c c' b f d sign species position moment r q l

-- the fractions have positive denominators; the moments are of one kind; the map is an isometry, (B / d)ᵀ (G' / scale') (B / d) = G / scale; each atom of c goes to an
-- atom of c', and each atom of c' is reached
pub record TakesAny (c c' : Structure) (b : Matrix) (f : Vec3 Fraction) (d : ℕ) (sign : Sign) : Type 0 where
  pub some_parts : pos 1 ≤ℤ pos d
  pub denominators : EachCoordinate (λ (g : Fraction). pos 0 <ℤ g.denominator) f
  pub same_kind : c'.kind ≡ c.kind
  pub metric : matrix_multiple c.scale (metric_in b c'.metric) ≡ matrix_multiple (c'.scale *ℤ (pos d *ℤ pos d)) c.metric
  pub images : (s : ℕ) (p m : Triple) → Occupied c s p m → HasAnyImage c c' b f d sign s p m
  pub onto : (r : ℕ) (q l : Triple) → Occupied c' r q l → IsAnyImage c c' b f d sign r q l

-- the numerator modulo the denominator, in lowest terms
abbrev pub modulo_one : Fraction → Fraction
modulo_one f = lowest (int_rem_euclid f.numerator f.denominator) f.denominator

-- d divides each entry of B, and (B / d, b modulo 1, sign) is a member of the list
pub record IsListedIn (maps : List AffineMap) (b : Matrix) (f : Vec3 Fraction) (d : ℕ) (sign : Sign) : Type 0 where
  pub matrix : Matrix
  pub matrix_is : b ≡ matrix_multiple (pos d) matrix
  pub of_list : IsMember (record { matrix = matrix; shift = vector_map modulo_one f; sign = sign }) maps
