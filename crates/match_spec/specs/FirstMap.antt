-- The first map of the class that carries a symbol's group onto a found one. With S, which takes coordinates to those in the
-- triangular basis of the symbol's translations, the class has all Q = P S, where P is a matrix with entries -1, 0 and 1 and
-- determinant +1, and all origin shifts, which are any three fractions.
--   IsBefore xs ys            the first list of integers comes before the second
--   IsLess p q                p comes before q, by the three values in order
--   IsClass c                 c is a matrix P of the class
--   IsStepMatrix h s          s is S
--   IsNone s h n m            no P and no point at all carry
--   IsLeastOrigin s h n m c p p is the least balanced point of the cell with which the map of P = c carries
--   IsFirst s h n m c p       c is the first P for which any point carries, and p is that point
--   IsFirstMap h n m c q p    that holds of c and p with S, and q is c S
--   HasNoMap h n m            no P and no point carry, with S
use Rattle.std.specs.Prelude.{◌≡◌, ◌⊎◌, ℕ, ◌≤◌, List, [], ◌∷◌, length, ℤ, pos, negsuc, ◌≤ℤ◌, ◌<ℤ◌}
use Rattle.lists.specs.Increasing.{IsMember}
use Rattle.matrix3.specs.Matrices.{entries, coordinates, EachEntry}
use Rattle.crystal_spec.specs.Matrices.{Matrix, product, determinant, multiple}
use Rattle.crystal_spec.specs.Operations.{Operation}
use Rattle.basis_spec.specs.StepBases.{InLattice, IsSteps}
use Rattle.match_spec.specs.Points.{Point, IsPoint, IsInCell}
use Rattle.match_spec.specs.Maps.{Carries, Pair, IsPairs, IsBalanced}

-- by the first integer that differs
abbrev pub IsBefore : List ℤ → List ℤ → Type 0
IsBefore [] ys = ⊥
IsBefore (x ∷ xs) [] = ⊥
IsBefore (x ∷ xs) (y ∷ ys) = (x <ℤ y) ⊎ ((x ≡ y) × IsBefore xs ys)

-- by the first of the three values that differs
abbrev pub IsLess : Point → Point → Type 0
IsLess p q = IsBefore (coordinates (multiple q.denominator p.numerators)) (coordinates (multiple p.denominator q.numerators))

-- -1, 0 or 1
pub record IsEntry (x : ℤ) : Type 0 where
  pub low : negsuc 0 ≤ℤ x
  pub high : x ≤ℤ pos 1

-- a matrix P of the class
pub record IsClass (c : Matrix) : Type 0 where
  pub small : EachEntry IsEntry c
  pub proper : determinant c ≡ pos 1

-- s takes coordinates to those in the triangular basis of the translations of h, which are in units of 1/12
pub record IsStepMatrix (h : List Operation) (s : Matrix) : Type 0 where
  pub index : ℕ
  pub fore : Matrix
  pub steps : IsSteps 12 (InLattice 12 h) index s fore

-- no P of the class and no point at all carry
pub record IsNone (s : Matrix) (h : List Operation) (n : ℤ) (m : List Operation) : Type 0 where
  pub none : (c : Matrix) → IsClass c → (p : Point) → IsPoint p → Carries (product c s) p h n m → ⊥

-- p is the least balanced point of the cell with which the map of P carries
pub record IsLeastOrigin (s : Matrix) (h : List Operation) (n : ℤ) (m : List Operation) (c : Matrix) (p : Point) : Type 0 where
  pub is_point : IsPoint p
  pub in_cell : IsInCell p
  pub pairs : List Pair
  pub are_pairs : IsPairs (product c s) h m pairs
  pub balanced : IsBalanced (product c s) n pairs p
  pub carries : Carries (product c s) p h n m
  pub least : (o : Point) → IsPoint o → IsInCell o → IsBalanced (product c s) n pairs o → Carries (product c s) o h n m → IsLess o p → ⊥

-- the first P for which any point carries, with its least balanced point of the cell
pub record IsFirst (s : Matrix) (h : List Operation) (n : ℤ) (m : List Operation) (c : Matrix) (p : Point) : Type 0 where
  pub class : IsClass c
  pub least_origin : IsLeastOrigin s h n m c p
  pub first : (d : Matrix) → IsClass d → IsBefore (entries d) (entries c) → (o : Point) → IsPoint o → Carries (product d s) o h n m → ⊥

-- the map of Q = P S and an origin shift is the first that carries h onto m
pub record IsFirstMap (h : List Operation) (n : ℕ) (m : List Operation) (class turn : Matrix) (p : Point) : Type 0 where
  pub step : Matrix
  pub is_step : IsStepMatrix h step
  pub turn_is : turn ≡ product class step
  pub first : IsFirst step h (pos n) m class p

-- no map of the class carries h onto m
pub record HasNoMap (h : List Operation) (n : ℕ) (m : List Operation) : Type 0 where
  pub step : Matrix
  pub is_step : IsStepMatrix h step
  pub none : IsNone step h (pos n) m
