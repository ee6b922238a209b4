-- A new basis and origin as the program holds them: the matrix Q, adj(Q), det(Q), n, and the origin shift u / d.
--   IsFrame f              what holds of them, and their sizes
--   origin_of f            u / d
--   step_of f              n d
--   full_of f              e = det(Q) n d, the denominator of places
--   goal_of f y            d Y - n u: Q X of the place X / e of the position Y, divided by det(Q)
--   Meets f w x            Q X is det(Q) w, but for multiples of e
--   point_at f r t         r + n d t
--   IsCopies f s           what is told of the places of one atom, and its sizes
--   IsCopy f s t b         b is the atom at the place of t
--   IsStart f y r          adj(Q) (d Y - n u) is r, but for multiples of n d
--   AreCopiesOf c f s a m  s tells of the places of the atom a of c, over m
use Rattle.std.specs.Prelude.{◌≡◌, ℕ, ℤ, pos, ◌*◌, ◌^◌, ◌≤◌, ◌*ℤ◌, ◌≤ℤ◌, ◌<ℤ◌}
use Rattle.ring.specs.Size.{AtMost}
use Rattle.matrix3.specs.Matrices.{EachEntry, EachCoordinate}
use Rattle.crystal_spec.specs.Matrices.{Triple, image, determinant, adjugate, multiple, sum_of, difference}
use Rattle.crystal_spec.specs.Moments.{turn_matrix}
use Rattle.crystal_spec.specs.Crystals.{Atom, Structure}
use Rattle.match_spec.specs.Points.{Point, point, IsInCell, IsWhole}
use Rattle.standard_cell.specs.declared.frame.Frame.{Frame}
use Rattle.standard_cell.specs.declared.copies.Copies.{Copies}

-- Q has entries of size up to 5184 and a determinant from 1 to 1728, n is up to 10^6, d from 1 to 10^12 and u of size up to 10^12
pub record IsFrame (f : Frame) : Type 0 where
  pub turn : EachEntry (AtMost 5184) f.turn
  pub back : f.back ≡ adjugate f.turn
  pub index : pos f.index ≡ determinant f.turn
  pub index_at_least : 1 ≤ f.index
  pub index_at_most : f.index ≤ 1728
  pub n_at_least : 1 ≤ f.n
  pub n_at_most : f.n ≤ 10 ^ 6
  pub shift : EachCoordinate (AtMost (10 ^ 12)) f.shift
  pub parts_at_least : pos 1 ≤ℤ f.parts
  pub parts_at_most : AtMost (10 ^ 12) f.parts

-- u / d
abbrev pub origin_of : Frame → Point
origin_of f = point f.shift f.parts

-- n d
abbrev pub step_of : Frame → ℤ
step_of f = pos f.n *ℤ f.parts

-- det(Q) n d
abbrev pub full_of : Frame → ℤ
full_of f = pos f.index *ℤ step_of f

-- d Y - n u
abbrev pub goal_of : Frame → Triple → Triple
goal_of f y = difference (multiple f.parts y) (multiple (pos f.n) f.shift)

-- Q X is det(Q) w, but for multiples of e
abbrev pub Meets : Frame → Triple → Triple → Type 0
Meets f w x = IsWhole (full_of f) (difference (image f.turn x) (multiple (pos f.index) w))

-- r + n d t
abbrev pub point_at : Frame → Triple → Triple → Triple
point_at f r t = sum_of r (multiple (step_of f) t)

-- The places are start + n d t over e. Each of them, and e, is a multiple of the divisor, and over it e is up to 10^6.
pub record IsCopies (f : Frame) (s : Copies) : Type 0 where
  pub start : IsInCell (point s.start (step_of f))
  pub goal : EachCoordinate (AtMost (2 * 10 ^ 18)) s.goal
  pub positive : pos 0 <ℤ s.divisor
  pub divides : (t : Triple) → Meets f s.goal (point_at f s.start t) → IsWhole s.divisor (point_at f s.start t)
  pub few : full_of f ≤ℤ (s.divisor *ℤ pos (10 ^ 6))

-- its position is that of t over the divisor
pub record IsCopy (f : Frame) (s : Copies) (t : Triple) (b : Atom) : Type 0 where
  pub meets : Meets f s.goal (point_at f s.start t)
  pub position : multiple s.divisor b.position ≡ point_at f s.start t
  pub species : b.species ≡ s.species
  pub moment : b.moment ≡ s.moment

-- the numerators of the place of an atom are start + n d times some cells
pub record IsStart (f : Frame) (y start : Triple) : Type 0 where
  pub cells : Triple
  pub is : image (adjugate f.turn) (goal_of f y) ≡ point_at f start cells
  pub in_cell : IsInCell (point start (step_of f))

-- the copies of an atom of c, over a common denominator m
pub record AreCopiesOf (c : Structure) (f : Frame) (s : Copies) (a : Atom) (m : ℕ) : Type 0 where
  pub same_n : f.n ≡ c.n
  pub above : pos 0 <ℤ pos m
  pub parts : full_of f ≡ s.divisor *ℤ pos m
  pub goal : s.goal ≡ goal_of f a.position
  pub is_start : IsStart f a.position s.start
  pub species : s.species ≡ a.species
  pub moment : s.moment ≡ image (turn_matrix c.kind (adjugate f.turn)) a.moment
