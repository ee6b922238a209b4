-- In a cell whose atoms are within it and apart, an isometry that carries each atom to an occupied position, with its
-- species and carried moment, keeps the crystal: it is one-to-one on the finitely many atoms, so it reaches each of them.
use Rattle.std.proofs.Common.{◌≡◌, refl, sym, ap, subst, ◌∙◌, ℕ, zero, suc, ◌*◌, ◌≤◌, [], ◌∷◌, ◌++◌, arith}
use Rattle.std.specs.Prelude.{ℤ, pos, negsuc, ◌+ℤ◌, ◌*ℤ◌, ◌≤ℤ◌, ◌<ℤ◌}
use Rattle.std.proofs.lemmas.Int.{ints}
use Rattle.std.proofs.Math.Nat.{mul-le-mul_left}
use Rattle.ring.specs.Ring.{quoted, var, con}
use Rattle.lists.specs.Increasing.{IsMember, IsDistinct}
use Rattle.lists.proofs.Counting.{covered}
use Rattle.matrix3.specs.Matrices.{coordinates, vector_of_variables}
use Rattle.matrix3.specs.Matrices as formulas
use Rattle.crystal_spec.specs.Matrices.{Matrix, Triple, determinant, adjugate, image, multiple, sum_of, difference}
use Rattle.crystal_spec.specs.Crystals.{Atom, Structure, IsPositive, Occupied, KeepsMetric, Keeps, position_after, moment_after}
use Rattle.crystal_spec.specs.Operations.{IsWithinCell}
use Rattle.crystal_spec.specs.Cells.{HasOneAtomEach}
use Rattle.crystal_spec.proofs.Entrywise.{triple_same}
use Rattle.crystal_spec.proofs.Identities.{by_triples}
use Rattle.crystal_spec.proofs.Isometries.{determinant-isometry}
use Rattle.crystal_spec.proofs.Keeping.{HasImages, HasPreimages, same_cells, keeps_both_ways}

-- the atoms are within one cell, and no two are at one position
pub record IsApart (c : Structure) : Type 0 where
  pub within : (a : Atom) → IsMember a c.atoms → IsWithinCell c.n a.position
  pub told : (a b : Atom) → IsMember a c.atoms → IsMember b c.atoms → a.position ≡ b.position → a ≡ b
  pub distinct : IsDistinct c.atoms

-- two numbers from 0 to n - 1 that differ by a multiple of n are one
same_remainder : (n : ℕ) (p q k : ℤ) → pos 0 ≤ℤ p → p <ℤ pos n → pos 0 ≤ℤ q → q <ℤ pos n → p ≡ q +ℤ pos n *ℤ k → p ≡ q
same_remainder n p q (pos zero) a b c d e = omega (arith, ints)
same_remainder n p q (pos (suc k)) a b c d e =
    let more : n * 1 ≤ n * suc k = mul-le-mul_left n (omega arith) in
    absurd (omega (arith, ints))
same_remainder n p q (negsuc k) a b c d e =
    let more : n * 1 ≤ n * suc k = mul-le-mul_left n (omega arith) in
    absurd (omega (arith, ints))

-- so are two positions within the cell
pub same_within : (n : ℕ) (p q k : Triple) → IsWithinCell n p → IsWithinCell n q → p ≡ sum_of q (multiple (pos n) k) → p ≡ q
same_within n p q k a b e = triple_same
    (same_remainder n p.x q.x k.x a.x.0 a.x.1 b.x.0 b.x.1 (ap (λ (v : Triple). v.x) e))
    (same_remainder n p.y q.y k.y a.y.0 a.y.1 b.y.0 b.y.1 (ap (λ (v : Triple). v.y) e))
    (same_remainder n p.z q.z k.z a.z.0 a.z.1 b.z.0 b.z.1 (ap (λ (v : Triple). v.z) e))

-- so atoms within the cell and apart are one at each position
pub one_atom_each_of_apart : (c : Structure) → IsApart c → HasOneAtomEach c
one_atom_each_of_apart c h a b m k d = h.told a b m k (same_within c.n a.position b.position d.cells (h.within a m) (h.within b k) d.is)

taken_off : (a : Triple) (n : ℤ) (l : Triple) → a ≡ sum_of (sum_of a (multiple n l)) (multiple n (multiple (negsuc 0) l))
taken_off a n l =
    let x = vector_of_variables 0 in
    let y = vector_of_variables 3 in
    by_triples (coordinates a ++ coordinates l ++ n ∷ []) x (formulas.sum_of quoted (formulas.sum_of quoted x (formulas.multiple quoted (var 6) y)) (formulas.multiple quoted (var 6) (formulas.multiple quoted (con (negsuc 0)) y))) refl

-- where a position within the cell is occupied, but for whole cells, the atom of the cell is at that very position
pub occupant_within : (c : Structure) → IsApart c → (s : ℕ) (p q m k : Triple) → IsWithinCell c.n q → p ≡ sum_of q (multiple (pos c.n) k) → (o : Occupied c s p m) → o.atom.position ≡ q
occupant_within c apart s p q m k h e o =
    same_within c.n o.atom.position q (difference k o.cells) (apart.within o.atom o.of_cell) h (moved o.atom.position q k o.cells (pos c.n) (sym o.same_position ∙ e))
  where
    moved : (a b k l : Triple) (n : ℤ) → sum_of a (multiple n l) ≡ sum_of b (multiple n k) → a ≡ sum_of b (multiple n (difference k l))
    moved a b k l n e =
        let x = vector_of_variables 0 in
        let y = vector_of_variables 3 in
        let u = vector_of_variables 6 in
        taken_off a n l ∙ ap (λ (p : Triple). sum_of p (multiple n (multiple (negsuc 0) l))) e
        ∙ by_triples (coordinates b ++ coordinates k ++ coordinates l ++ n ∷ [])
        (formulas.sum_of quoted (formulas.sum_of quoted x (formulas.multiple quoted (var 9) y)) (formulas.multiple quoted (var 9) (formulas.multiple quoted (con (negsuc 0)) u)))
        (formulas.sum_of quoted x (formulas.multiple quoted (var 9) (formulas.difference quoted y u))) refl

-- one atom is carried to another, but for whole cells
pub record CarriesAtom (c : Structure) (w : Matrix) (t : Triple) (sign : ℤ) (a b : Atom) : Type 0 where
  pub same_species : b.species ≡ a.species
  pub same_moment : b.moment ≡ moment_after c.kind w sign a.moment
  pub cells : Triple
  pub onto : position_after w t a.position ≡ sum_of b.position (multiple (pos c.n) cells)

no_cells : (p : Triple) (n : ℤ) → p ≡ sum_of p (multiple n (multiple (pos 0) p))
no_cells p n =
    let u = vector_of_variables 0 in
    by_triples (coordinates p ++ n ∷ []) u (formulas.sum_of quoted u (formulas.multiple quoted (var 3) (formulas.multiple quoted (con (pos 0)) u))) refl

-- an atom is at its own position
pub occupied_itself : (c : Structure) (a : Atom) → IsMember a c.atoms → Occupied c a.species a.position a.moment
occupied_itself c a h = record { atom = a; of_cell = h; same_species = refl; same_moment = refl; cells = multiple (pos 0) a.position; same_position = no_cells a.position (pos c.n) }

pub keeps_by_images : (c : Structure) (w : Matrix) (t : Triple) (sign : ℤ) → IsApart c → IsPositive c.metric → sign *ℤ sign ≡ pos 1 → KeepsMetric c.metric w → HasImages c w t sign → Keeps c w t sign
keeps_by_images c w t sign apart p s k images = keeps_both_ways c w t sign p s k images preimages
  where
    carried : (a : Atom) → IsMember a c.atoms → (b : Atom) × (IsMember b c.atoms × CarriesAtom c w t sign a b)
    carried a h = let i = images a h in (i.atom, (i.of_cell, record { same_species = i.same_species; same_moment = i.same_moment; cells = i.cells; onto = i.same_position }))

    one : (a a' b : Atom) → IsMember a c.atoms → IsMember a' c.atoms → CarriesAtom c w t sign a b → CarriesAtom c w t sign a' b → a ≡ a'
    one a a' b h h' r r' =
        let d = multiple (determinant w) (image (adjugate w) (difference r.cells r'.cells)) in
        apart.told a a' h h' (same_within c.n a.position a'.position d (apart.within a h) (apart.within a' h')
        (same_cells w t a.position a'.position b.position r.cells r'.cells (pos c.n) (determinant-isometry c.metric w p k) r.onto r'.onto))

    preimages : HasPreimages c w t sign
    preimages b h =
        let x = covered (CarriesAtom c w t sign) c.atoms c.atoms apart.distinct (omega arith) (record { right = carried; one_left = one }) b h in
        let r = x.1.1 in
        record {
          position = x.0.position;
          moment = x.0.moment;
          cells = r.cells;
          occupied = subst (λ (species : ℕ). Occupied c species x.0.position x.0.moment) (sym r.same_species) (occupied_itself c x.0 x.1.0);
          onto = r.onto;
          as_moment = sym r.same_moment;
        }

-- a map that keeps the crystal carries each atom to an occupied position
pub images_of_keeps : (c : Structure) (w : Matrix) (t : Triple) (sign : ℤ) → Keeps c w t sign → HasImages c w t sign
images_of_keeps c w t sign k a h = (k.crystal a.species a.position a.moment).0 (occupied_itself c a h)
