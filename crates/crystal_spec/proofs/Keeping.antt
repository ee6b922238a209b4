-- What keeps a crystal, brought down to its cell: a map keeps the crystal where each atom of the cell has an image and
-- each is an image.
use Rattle.std.proofs.Common.{◌≡◌, refl, sym, ap, ◌∙◌, ℕ, [], ◌∷◌, ◌++◌, arith}
use Rattle.std.specs.Prelude.{ℤ, pos, ◌+ℤ◌, ◌-ℤ◌, ◌*ℤ◌}
use Rattle.std.proofs.lemmas.Int.{ints}
use Rattle.ring.specs.Ring.{quoted, var, con, ◌:*◌, ◌:-◌}
use Rattle.lists.specs.Increasing.{IsMember}
use Rattle.matrix3.specs.Matrices.{entries, coordinates, matrix_of_variables, vector_of_variables}
use Rattle.matrix3.specs.Matrices as formulas
use Rattle.crystal_spec.specs.Matrices.{Matrix, Triple, determinant, adjugate, image, multiple, sum_of, difference}
use Rattle.crystal_spec.specs.Crystals.{Atom, Structure, IsPositive, Occupied, KeepsMetric, Keeps, position_after, moment_after}
use Rattle.crystal_spec.proofs.Entrywise.{triple_same}
use Rattle.crystal_spec.proofs.Identities.{by_integers, by_triples}
use Rattle.crystal_spec.proofs.Isometries.{determinant-isometry, cancel_image}
use Rattle.crystal_spec.proofs.Moments.{cancel_moment}

-- each atom is carried to an occupied position
abbrev pub HasImages : Structure → Matrix → Triple → ℤ → Type 0
HasImages c w t sign = (a : Atom) → IsMember a c.atoms → Occupied c a.species (position_after w t a.position) (moment_after c.kind w sign a.moment)

-- where an atom comes from
pub record ComesFrom (c : Structure) (w : Matrix) (t : Triple) (sign : ℤ) (a : Atom) : Type 0 where
  pub position : Triple
  pub moment : Triple
  pub cells : Triple
  pub occupied : Occupied c a.species position moment
  pub onto : position_after w t position ≡ sum_of a.position (multiple (pos c.n) cells)
  pub as_moment : moment_after c.kind w sign moment ≡ a.moment

abbrev pub HasPreimages : Structure → Matrix → Triple → ℤ → Type 0
HasPreimages c w t sign = (a : Atom) → IsMember a c.atoms → ComesFrom c w t sign a

-- whole cells are carried to whole cells
pub carried_cells : (w : Matrix) (t a d : Triple) (n : ℤ) → position_after w t (sum_of a (multiple n d)) ≡ sum_of (position_after w t a) (multiple n (image w d))
carried_cells w t a d n =
    let m = matrix_of_variables 0 in
    let u = vector_of_variables 9 in
    let v = vector_of_variables 12 in
    let s = vector_of_variables 15 in
    by_triples (entries w ++ coordinates a ++ coordinates d ++ coordinates t ++ n ∷ [])
    (formulas.sum_of quoted (formulas.image quoted m (formulas.sum_of quoted u (formulas.multiple quoted (var 18) v))) s)
    (formulas.sum_of quoted (formulas.sum_of quoted (formulas.image quoted m u) s) (formulas.multiple quoted (var 18) (formulas.image quoted m v))) refl

-- whole cells add up
pub two_cells : (b e d : Triple) (n : ℤ) → sum_of (sum_of b (multiple n e)) (multiple n d) ≡ sum_of b (multiple n (sum_of e d))
two_cells b e d n =
    let u = vector_of_variables 0 in
    let v = vector_of_variables 3 in
    let s = vector_of_variables 6 in
    by_triples (coordinates b ++ coordinates e ++ coordinates d ++ n ∷ [])
    (formulas.sum_of quoted (formulas.sum_of quoted u (formulas.multiple quoted (var 9) v)) (formulas.multiple quoted (var 9) s))
    (formulas.sum_of quoted u (formulas.multiple quoted (var 9) (formulas.sum_of quoted v s))) refl

-- cells that the adjugate takes back
brought_back : (w : Matrix) (a d : Triple) (n : ℤ) → image w (sum_of a (multiple n (multiple (determinant w) (image (adjugate w) d)))) ≡ sum_of (image w a) (multiple n (multiple (determinant w *ℤ determinant w) d))
brought_back w a d n =
    let m = matrix_of_variables 0 in
    let u = vector_of_variables 9 in
    let v = vector_of_variables 12 in
    let h = formulas.determinant quoted m in
    by_triples (entries w ++ coordinates a ++ coordinates d ++ n ∷ [])
    (formulas.image quoted m (formulas.sum_of quoted u (formulas.multiple quoted (var 15) (formulas.multiple quoted h (formulas.image quoted (formulas.adjugate quoted m) v)))))
    (formulas.sum_of quoted (formulas.image quoted m u) (formulas.multiple quoted (var 15) (formulas.multiple quoted (h :* h) v))) refl

-- two positions that go to one position, but for whole cells, are one but for whole cells
pub same_cells : (w : Matrix) (t p p' a d d' : Triple) (n : ℤ) → determinant w *ℤ determinant w ≡ pos 1 → position_after w t p ≡ sum_of a (multiple n d) → position_after w t p' ≡ sum_of a (multiple n d') →
    p ≡ sum_of p' (multiple n (multiple (determinant w) (image (adjugate w) (difference d d'))))
same_cells w t p p' a d d' n one e e' = cancel_image w p (sum_of p' (multiple n (multiple (determinant w) (image (adjugate w) (difference d d'))))) one
    (sym (brought_back w p' (difference d d') n ∙ ap (λ (h : ℤ). sum_of (image w p') (multiple n (multiple h (difference d d')))) one
    ∙ triple_same (by (image w p').x (image w p).x t.x a.x d.x d'.x (ap (λ (v : Triple). v.x) e) (ap (λ (v : Triple). v.x) e'))
    (by (image w p').y (image w p).y t.y a.y d.y d'.y (ap (λ (v : Triple). v.y) e) (ap (λ (v : Triple). v.y) e'))
    (by (image w p').z (image w p).z t.z a.z d.z d'.z (ap (λ (v : Triple). v.z) e) (ap (λ (v : Triple). v.z) e'))))
  where
    spread : (d d' : ℤ) → n *ℤ (pos 1 *ℤ (d -ℤ d')) ≡ n *ℤ d -ℤ n *ℤ d'
    spread d d' = by_integers (n ∷ d ∷ d' ∷ []) (var 0 :* (con (pos 1) :* (var 1 :- var 2))) (var 0 :* var 1 :- var 0 :* var 2) refl

    linear : (u v t a x y : ℤ) → v +ℤ t ≡ a +ℤ x → u +ℤ t ≡ a +ℤ y → u +ℤ (x -ℤ y) ≡ v
    linear u v t a x y h k = omega (arith, ints)

    by : (u v t a d d' : ℤ) → v +ℤ t ≡ a +ℤ n *ℤ d → u +ℤ t ≡ a +ℤ n *ℤ d' → u +ℤ n *ℤ (pos 1 *ℤ (d -ℤ d')) ≡ v
    by u v t a d d' h k = ap (λ z. u +ℤ z) (spread d d') ∙ linear u v t a (n *ℤ d) (n *ℤ d') h k

-- a map with images and preimages of all atoms keeps the crystal
pub keeps_both_ways : (c : Structure) (w : Matrix) (t : Triple) (sign : ℤ) → IsPositive c.metric → sign *ℤ sign ≡ pos 1 → KeepsMetric c.metric w → HasImages c w t sign → HasPreimages c w t sign → Keeps c w t sign
keeps_both_ways c w t sign p s k images preimages = record { metric = k; crystal = λ species position moment. (forth species position moment, back species position moment) }
  where
    forth : (species : ℕ) (position moment : Triple) → Occupied c species position moment → Occupied c species (position_after w t position) (moment_after c.kind w sign moment)
    forth species position moment o =
        let i = images o.atom o.of_cell in
        record {
          atom = i.atom;
          of_cell = i.of_cell;
          same_species = i.same_species ∙ o.same_species;
          same_moment = i.same_moment ∙ ap (moment_after c.kind w sign) o.same_moment;
          cells = sum_of i.cells (image w o.cells);
          same_position = ap (position_after w t) o.same_position ∙ carried_cells w t o.atom.position o.cells (pos c.n) ∙ ap (λ (v : Triple). sum_of v (multiple (pos c.n) (image w o.cells))) i.same_position ∙ two_cells i.atom.position i.cells (image w o.cells) (pos c.n);
        }

    back : (species : ℕ) (position moment : Triple) → Occupied c species (position_after w t position) (moment_after c.kind w sign moment) → Occupied c species position moment
    back species position moment o =
        let f = preimages o.atom o.of_cell in
        let q = f.occupied in
        let one = determinant-isometry c.metric w p k in
        let r = multiple (determinant w) (image (adjugate w) (difference o.cells f.cells)) in
        let is = same_cells w t position f.position o.atom.position o.cells f.cells (pos c.n) one o.same_position f.onto in
        let m = cancel_moment c.kind w sign f.moment moment s one (f.as_moment ∙ o.same_moment) in
        record {
          atom = q.atom;
          of_cell = q.of_cell;
          same_species = q.same_species ∙ o.same_species;
          same_moment = q.same_moment ∙ m;
          cells = sum_of q.cells r;
          same_position = is ∙ ap (λ (v : Triple). sum_of v (multiple (pos c.n) r)) q.same_position ∙ two_cells q.atom.position q.cells r (pos c.n);
        }
