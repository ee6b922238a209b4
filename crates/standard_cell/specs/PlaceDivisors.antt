-- The places of a crystal in integers. With the denominator d of the origin shift and e = det(Q) n d, each place is a triple of
-- integers over e.
--   source q u d n y              adj(Q) (d Y - n u)
--   full q p n                    e
--   place_of c q p y              the numerators of the place of the position y
--   cells_of c q p z              those of the translation between places that are z cells of the old basis apart
--   IsMultiple k z                z is a multiple of k
--   IsPlaceDivisor c q p copies g  g divides e, all translations between places, and the places of these atoms, and is the greatest
use Rattle.std.specs.Prelude.{◌≡◌, ℤ, pos, ◌*ℤ◌, ◌<ℤ◌, List}
use Rattle.lists.specs.Increasing.{IsMember}
use Rattle.crystal_spec.specs.Matrices.{Triple, Matrix, image, determinant, adjugate, multiple, difference}
use Rattle.crystal_spec.specs.Crystals.{Atom, Structure}
use Rattle.match_spec.specs.Points.{Point, IsWhole}

-- adj(Q) (d Y - n u)
abbrev pub source : Matrix → Triple → ℤ → ℤ → Triple → Triple
source q u d n y = image (adjugate q) (difference (multiple d y) (multiple n u))

-- det(Q) n d
abbrev pub full : Matrix → Point → ℤ → ℤ
full q p n = determinant q *ℤ (n *ℤ p.denominator)

-- the numerators of the place of a position
abbrev pub place_of : Structure → Matrix → Point → Triple → Triple
place_of c q p y = source q p.numerators p.denominator (pos c.n) y

-- the translation between places that are z cells of the old basis apart
abbrev pub cells_of : Structure → Matrix → Point → Triple → Triple
cells_of c q p z = multiple (pos c.n *ℤ p.denominator) (image (adjugate q) z)

-- z is a multiple of k
abbrev pub IsMultiple : ℤ → ℤ → Type 0
IsMultiple k z = (m : ℤ) × (z ≡ k *ℤ m)

-- g divides them all, and where k divides f times each of them, it divides f g
pub record IsPlaceDivisor (c : Structure) (q : Matrix) (p : Point) (copies : List Atom) (g : ℤ) : Type 0 where
  pub positive : pos 0 <ℤ g
  pub whole : IsMultiple g (full q p (pos c.n))
  pub steps : (z : Triple) → IsWhole g (cells_of c q p z)
  pub places : (a : Atom) → IsMember a copies → IsWhole g (place_of c q p a.position)
  pub greatest : (k f : ℤ) → pos 0 <ℤ k → IsMultiple k (f *ℤ full q p (pos c.n)) → ((a : Atom) → IsMember a copies → IsWhole k (multiple f (place_of c q p a.position))) → ((z : Triple) → IsWhole k (multiple f (cells_of c q p z))) → IsMultiple k (f *ℤ g)
