-- Maps of one crystal onto another, each in its own basis, where the two cells have one scale, n and k.
--   HaveCommonUnits c c'                  two cells have the same names, scale, n and k
--   TakenFrom c w t sign s p m            an atom of c that the map (W, t, sign) takes to the position p and the moment m
--   Takes c c' w t sign                   this map takes the crystal of c onto that of c'
--   sign_of z                             1 or -1
--   HasImage kind c' b t d sign s p m     the map ((B, t) / d, sign) brings an atom at p to an atom of c'
--   IsImage kind c b t d sign s p m       it brings some atom of c to the atom at p
--   TakesAny c c' b t d sign              this map takes the crystal of c onto that of c'
use Rattle.std.specs.Prelude.{◌≡◌, ℕ, ℤ, pos, negsuc, ◌*ℤ◌, ◌≤ℤ◌}
use Rattle.crystal_spec.specs.declared.MomentKind.{MomentKind}
use Rattle.crystal_spec.specs.Matrices.{Triple, Matrix, image, determinant, multiple, sum_of}
use Rattle.crystal_spec.specs.Moments.{axial_factor, turn_matrix, divisor}
use Rattle.crystal_spec.specs.Crystals.{Structure, Occupied, position_after, moment_after}
use Rattle.basis_spec.specs.Metrics.{matrix_multiple, metric_in}

-- what is counted in them can be compared
pub record HaveCommonUnits (c c' : Structure) : Type 0 where
  pub names : c'.names ≡ c.names
  pub scale : c'.scale ≡ c.scale
  pub n : c'.n ≡ c.n
  pub k : c'.k ≡ c.k

-- an atom that the map takes to this position and moment
pub record TakenFrom (c : Structure) (w : Matrix) (t : Triple) (sign : ℤ) (species : ℕ) (position moment : Triple) : Type 0 where
  pub old_position : Triple
  pub old_moment : Triple
  pub position_is : position_after w t old_position ≡ position
  pub moment_is : moment_after c.kind w sign old_moment ≡ moment
  pub occupied : Occupied c species old_position old_moment

-- W takes the metric tensor of the one cell to that of the other; each atom is taken to one of its species with the carried
-- moment, and each atom of the other crystal is reached so. Crystals with moments of two kinds have no such map.
pub record Takes (c c' : Structure) (w : Matrix) (t : Triple) (sign : ℤ) : Type 0 where
  pub kind : c'.kind ≡ c.kind
  pub metric : metric_in w c'.metric ≡ c.metric
  pub images : (species : ℕ) (position moment : Triple) → Occupied c species position moment → Occupied c' species (position_after w t position) (moment_after c.kind w sign moment)
  pub onto : (species : ℕ) (position moment : Triple) → Occupied c' species position moment → TakenFrom c w t sign species position moment

-- 1 from 0 on, -1 below
abbrev pub sign_of : ℤ → ℤ
sign_of (pos n) = pos 1
sign_of (negsuc n) = negsuc 0

-- The map p ↦ (B p + t) / d brings this atom to an occupied position, with the moment sign · det / |det| · B m / d of an
-- axial vector m: without det / |det| where moments are not axial, and with sign · m in place of sign · B m / d where they
-- are scalars. The fractions are integers there.
pub record HasImage (kind : MomentKind) (c : Structure) (b : Matrix) (t : Triple) (d : ℕ) (sign : ℤ) (species : ℕ) (position moment : Triple) : Type 0 where
  pub new_position : Triple
  pub new_moment : Triple
  pub position_is : multiple (pos d) new_position ≡ sum_of (image b position) t
  pub moment_is : multiple (pos (divisor kind d)) new_moment ≡ multiple (sign *ℤ axial_factor kind (sign_of (determinant b))) (image (turn_matrix kind b) moment)
  pub occupied : Occupied c species new_position new_moment

-- an atom whose image under the map this is
pub record IsImage (kind : MomentKind) (c : Structure) (b : Matrix) (t : Triple) (d : ℕ) (sign : ℤ) (species : ℕ) (position moment : Triple) : Type 0 where
  pub old_position : Triple
  pub old_moment : Triple
  pub position_is : multiple (pos d) position ≡ sum_of (image b old_position) t
  pub moment_is : multiple (pos (divisor kind d)) moment ≡ multiple (sign *ℤ axial_factor kind (sign_of (determinant b))) (image (turn_matrix kind b) old_moment)
  pub occupied : Occupied c species old_position old_moment

-- an affine map with fractions that keeps lengths and angles takes the one crystal onto the other
pub record TakesAny (c c' : Structure) (b : Matrix) (t : Triple) (d : ℕ) (sign : ℤ) : Type 0 where
  pub kind : c'.kind ≡ c.kind
  pub some_parts : pos 1 ≤ℤ pos d
  pub metric : metric_in b c'.metric ≡ matrix_multiple (pos d *ℤ pos d) c.metric
  pub images : (species : ℕ) (position moment : Triple) → Occupied c species position moment → HasImage c.kind c' b t d sign species position moment
  pub onto : (species : ℕ) (position moment : Triple) → Occupied c' species position moment → IsImage c.kind c b t d sign species position moment
