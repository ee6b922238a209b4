-- The copies of an atom in the new basis are the atoms at the triples t that meet its goal, and these come in order.
use Rattle.std.proofs.Common.{◌≡◌, ℕ, ◌≤◌, ℤ, pos, ◌+ℤ◌, ◌*ℤ◌, ◌<ℤ◌, ◌≤ℤ◌, inl, inr, List, ◌∷◌, ◌++◌, refl, sym, ap, subst, ◌∙◌, arith}
use Rattle.std.proofs.lemmas.Int.{ints}
use Rattle.lists.specs.Increasing.{IsMember}
use Rattle.matrix3.specs.Matrices as formulas
use Rattle.ring.specs.Ring.{var, quoted, ◌:*◌}
use Rattle.ring.proofs.IntOrder.{mul_pos}
use Rattle.matrix3.specs.Matrices.{entries, coordinates, matrix_of_variables, vector_of_variables}
use Rattle.crystal_spec.specs.Matrices.{Triple, image, determinant, adjugate, multiple, sum_of, difference}
use Rattle.crystal_spec.specs.Crystals.{Atom, Structure}
use Rattle.crystal_spec.proofs.Identities.{by_triples}
use Rattle.basis_spec.proofs.Cancelling.{mul_cancel, multiple_cancel}
use Rattle.match_spec.specs.Points.{point, IsPoint, IsInCell, IsWhole}
use Rattle.match_spec.specs.FirstMap.{IsBefore}
use Rattle.match_spec.proofs.Wholes.{whole_is, whole_plus}
use Rattle.standard_cell.specs.declared.frame.Frame.{Frame}
use Rattle.standard_cell.specs.declared.copies.Copies.{Copies}
use Rattle.standard_cell.specs.StandardCells.{compare_places, IsAtomOf, IsBlock}
use Rattle.standard_cell.specs.PlaceDivisors.{full, IsPlaceDivisor}
use Rattle.standard_cell.specs.Frames.{IsFrame, origin_of, step_of, full_of, goal_of, Meets, point_at, IsCopies, IsCopy, AreCopiesOf}
use Rattle.standard_cell.specs.Sweeps.{IsSweep, IsInSpace}
use Rattle.standard_cell.proofs.Links.{IsLink, link_scale, scaled_in_cell}
use Rattle.standard_cell.proofs.Meetings.{meets_link, link_meets, meets_source, t_low, t_high, point_low, point_high, point_less}
use Rattle.standard_cell.proofs.SweepLemmas.{IsOrdered, before_less}

-- ---- signs of the numbers of a frame

at_least : (d : ℤ) → pos 1 ≤ℤ d → pos 0 <ℤ d
at_least d h = omega (arith, ints)

some_number : (n : ℕ) → 1 ≤ n → pos 0 <ℤ pos n
some_number n h = omega (arith, ints)

pub parts_above : (f : Frame) → IsFrame f → pos 0 <ℤ f.parts
parts_above f h = at_least f.parts h.parts_at_least

pub n_above : (f : Frame) → IsFrame f → pos 0 <ℤ pos f.n
n_above f h = some_number f.n h.n_at_least

pub index_above : (f : Frame) → IsFrame f → pos 0 <ℤ pos f.index
index_above f h = some_number f.index h.index_at_least

pub determinant_above : (f : Frame) → IsFrame f → pos 0 <ℤ determinant f.turn
determinant_above f h = subst (λ (z : ℤ). pos 0 <ℤ z) h.index (index_above f h)

pub step_above : (f : Frame) → IsFrame f → pos 0 <ℤ step_of f
step_above f h = mul_pos (pos f.n) f.parts (n_above f h) (parts_above f h)

pub full_above : (f : Frame) → IsFrame f → pos 0 <ℤ full_of f
full_above f h = mul_pos (pos f.index) (step_of f) (index_above f h) (step_above f h)

-- e by the determinant
pub full_is : (f : Frame) → IsFrame f → full f.turn (origin_of f) (pos f.n) ≡ full_of f
full_is f h = ap (λ (z : ℤ). z *ℤ step_of f) (sym h.index)

pub origin_is_point : (f : Frame) → IsFrame f → IsPoint (origin_of f)
origin_is_point f h = record { positive = parts_above f h }

-- ---- the order of the copies

-- equal coordinates of t have equal coordinates of the position
same_at : (s r t v g b d : ℤ) → pos 0 <ℤ g → t ≡ v → g *ℤ b ≡ r +ℤ s *ℤ t → g *ℤ d ≡ r +ℤ s *ℤ v → b ≡ d
same_at s r t v g b d above e i j = mul_cancel g b d above (i ∙ ap (λ (z : ℤ). r +ℤ s *ℤ z) e ∙ sym j)

pub copies_ordered : (f : Frame) (s : Copies) → IsFrame f → pos 0 <ℤ s.divisor → IsOrdered (IsCopy f s)
unfolding compare_places
copies_ordered f s frame above t v b d before h k = before_less (coordinates b.position) (coordinates d.position) (by before)
  where
    less_x : t.x <ℤ v.x → b.position.x <ℤ d.position.x
    less_x l = point_less (step_of f) s.start.x t.x v.x s.divisor b.position.x d.position.x (step_above f frame) above l (ap (λ (w : Triple). w.x) h.position) (ap (λ (w : Triple). w.x) k.position)

    less_y : t.y <ℤ v.y → b.position.y <ℤ d.position.y
    less_y l = point_less (step_of f) s.start.y t.y v.y s.divisor b.position.y d.position.y (step_above f frame) above l (ap (λ (w : Triple). w.y) h.position) (ap (λ (w : Triple). w.y) k.position)

    less_z : t.z <ℤ v.z → b.position.z <ℤ d.position.z
    less_z l = point_less (step_of f) s.start.z t.z v.z s.divisor b.position.z d.position.z (step_above f frame) above l (ap (λ (w : Triple). w.z) h.position) (ap (λ (w : Triple). w.z) k.position)

    same_x : t.x ≡ v.x → b.position.x ≡ d.position.x
    same_x e = same_at (step_of f) s.start.x t.x v.x s.divisor b.position.x d.position.x above e (ap (λ (w : Triple). w.x) h.position) (ap (λ (w : Triple). w.x) k.position)

    same_y : t.y ≡ v.y → b.position.y ≡ d.position.y
    same_y e = same_at (step_of f) s.start.y t.y v.y s.divisor b.position.y d.position.y above e (ap (λ (w : Triple). w.y) h.position) (ap (λ (w : Triple). w.y) k.position)

    by : IsBefore (coordinates t) (coordinates v) → IsBefore (coordinates b.position) (coordinates d.position)
    by (inl l) = inl (less_x l)
    by (inr (e, inl l)) = inr (same_x e, inl (less_y l))
    by (inr (e, inr (i, inl l))) = inr (same_x e, inr (same_y i, inl (less_z l)))
    by (inr (e, inr (i, inr (j, m)))) = absurd m

-- a copy at a triple is one atom
pub copy_once : (f : Frame) (s : Copies) (t : Triple) (b d : Atom) → pos 0 <ℤ s.divisor → IsCopy f s t b → IsCopy f s t d → d ≡ b
copy_once f s t b d above h k =
    let position = multiple_cancel s.divisor d.position b.position above (k.position ∙ sym h.position) in
    λ i. record { species = (k.species ∙ sym h.species) i; position = position i; moment = (k.moment ∙ sym h.moment) i }

-- ---- places within the cell

-- the point of a triple within the space is within one cell
pub point_in_cell : (f : Frame) (r t : Triple) → IsInCell (point r (step_of f)) → IsInSpace f.index f.index t → IsInCell (point (point_at f r t) (full_of f))
point_in_cell f r t h k = record {
  x_low = point_low (step_of f) r.x t.x h.x_low h.x_high k.x.low;
  x_high = point_high (step_of f) r.x t.x (pos f.index) h.x_low h.x_high k.x.high;
  y_low = point_low (step_of f) r.y t.y h.y_low h.y_high k.y.low;
  y_high = point_high (step_of f) r.y t.y (pos f.index) h.y_low h.y_high k.y.high;
  z_low = point_low (step_of f) r.z t.z h.z_low h.z_high k.z.low;
  z_high = point_high (step_of f) r.z t.z (pos f.index) h.z_low h.z_high k.z.high;
}

-- and each such point is that of such a triple
in_space : (f : Frame) (r t : Triple) → IsInCell (point r (step_of f)) → IsInCell (point (point_at f r t) (full_of f)) → IsInSpace f.index f.index t
in_space f r t h k = record {
  x = record { low = t_low (step_of f) r.x t.x h.x_low h.x_high k.x_low; high = t_high (step_of f) r.x t.x (pos f.index) h.x_low h.x_high k.x_high };
  y = record { low = t_low (step_of f) r.y t.y h.y_low h.y_high k.y_low; high = t_high (step_of f) r.y t.y (pos f.index) h.y_low h.y_high k.y_high };
  z = record { low = t_low (step_of f) r.z t.z h.z_low h.z_high k.z_low; high = t_high (step_of f) r.z t.z (pos f.index) h.z_low h.z_high k.z_high };
}

-- ---- what the program makes of one atom

-- the point of a triple that meets the goal is a place of the position and some cells
met_source : (f : Frame) → IsFrame f → (w x : Triple) (m : Meets f w x) → x ≡ sum_of (image (adjugate f.turn) w) (multiple (step_of f) (image (adjugate f.turn) m.quotient))
met_source f frame w x m = meets_source f.turn (pos f.index) (step_of f) x w m.quotient frame.index (index_above f frame) m.is

-- so the divisor of the places divides it
pub met_whole : (c : Structure) (f : Frame) → IsFrame f → f.n ≡ c.n → (g : ℤ) (copies : List Atom) → IsPlaceDivisor c f.turn (origin_of f) copies g → (a : Atom) → IsMember a copies → (x : Triple) → Meets f (goal_of f a.position) x → IsWhole g x
met_whole c f frame same g copies h a of_cell x m =
    whole_is g x (sum_of (image (adjugate f.turn) (goal_of f a.position)) (multiple (step_of f) (image (adjugate f.turn) m.quotient))) (met_source f frame (goal_of f a.position) x m)
    (whole_plus g (image (adjugate f.turn) (goal_of f a.position)) (multiple (step_of f) (image (adjugate f.turn) m.quotient))
    (subst (λ (n : ℕ). IsWhole g (image (adjugate f.turn) (difference (multiple f.parts a.position) (multiple (pos n) f.shift)))) (sym same) (h.places a of_cell))
    (subst (λ (n : ℕ). IsWhole g (multiple (pos n *ℤ f.parts) (image (adjugate f.turn) m.quotient))) (sym same) (h.steps m.quotient)))

module _ (c : Structure) (f : Frame) (s : Copies) (a : Atom) (m : ℕ) (frame : IsFrame f) (copies : IsCopies f s) (is : AreCopiesOf c f s a m) where
  -- m (g b) = e b
  scaled : (g : ℤ) (x : Triple) → full_of f ≡ g *ℤ pos m → multiple (pos m) (multiple g x) ≡ multiple (full_of f) x
  scaled g x e = by_triples (pos m ∷ g ∷ coordinates x) (formulas.multiple quoted (var 0) (formulas.multiple quoted (var 1) (vector_of_variables 2))) (formulas.multiple quoted (var 1 :* var 0) (vector_of_variables 2)) refl ∙ ap (λ (z : ℤ). multiple z x) (sym e)

  -- a copy is an atom of a
  copy_atom : (t : Triple) (b : Atom) → IsInSpace f.index f.index t → IsCopy f s t b → IsAtomOf c f.turn (origin_of f) m a b
  copy_atom t b space h =
      let x = point_at f s.start t in
      let same : multiple (pos m) x ≡ multiple (full_of f) b.position = ap (multiple (pos m)) (sym h.position) ∙ scaled s.divisor b.position is.parts in
      let met : Meets f (goal_of f a.position) x = subst (λ (w : Triple). Meets f w x) is.goal h.meets in
      let linked : IsLink f.turn f.shift f.parts (pos f.n) (full_of f) x (sum_of a.position (multiple (pos f.n) met.quotient)) = meets_link f.turn f.shift f.parts (pos f.n) (pos f.index) x a.position met.quotient met.is in
      record {
        species = h.species ∙ is.species;
        place = record {
          is_point = record { positive = is.above };
          in_cell = scaled_in_cell (full_of f) (pos m) x b.position (full_above f frame) is.above same (point_in_cell f s.start t copies.start space);
          position = sum_of a.position (multiple (pos c.n) met.quotient);
          away = record { cells = met.quotient; is = refl };
          is = record { is = subst (λ (n : ℕ). IsLink f.turn f.shift f.parts (pos n) (pos m) b.position (sum_of a.position (multiple (pos n) met.quotient))) is.same_n (link_scale f.turn f.shift f.parts (pos f.n) (full_of f) (pos m) x b.position (sum_of a.position (multiple (pos f.n) met.quotient)) (full_above f frame) same linked) };
        };
        moment = h.moment ∙ is.moment;
      }

  -- start + n d cells, and n d further cells
  cells_more : (r k l : Triple) → sum_of (point_at f r k) (multiple (step_of f) l) ≡ point_at f r (sum_of k l)
  cells_more r k l = by_triples (step_of f ∷ coordinates r ++ coordinates k ++ coordinates l) (formulas.sum_of quoted (formulas.sum_of quoted (vector_of_variables 1) (formulas.multiple quoted (var 0) (vector_of_variables 4))) (formulas.multiple quoted (var 0) (vector_of_variables 7))) (formulas.sum_of quoted (vector_of_variables 1) (formulas.multiple quoted (var 0) (formulas.sum_of quoted (vector_of_variables 4) (vector_of_variables 7)))) refl

  -- and each atom of a is a copy
  atom_copy : (b : Atom) → IsAtomOf c f.turn (origin_of f) m a b → (t : Triple) × (IsInSpace f.index f.index t × IsCopy f s t b)
  atom_copy b h =
      let k = h.place.away.cells in
      let x = multiple s.divisor b.position in
      let same : multiple (full_of f) b.position ≡ multiple (pos m) x = sym (scaled s.divisor b.position is.parts) in
      let here : IsLink f.turn f.shift f.parts (pos f.n) (pos m) b.position (sum_of a.position (multiple (pos f.n) k)) =
      subst (λ (n : ℕ). IsLink f.turn f.shift f.parts (pos n) (pos m) b.position (sum_of a.position (multiple (pos n) k))) (sym is.same_n) (subst (λ v. IsLink f.turn f.shift f.parts (pos c.n) (pos m) b.position v) h.place.away.is h.place.is.is) in
      let linked : IsLink f.turn f.shift f.parts (pos f.n) (full_of f) x (sum_of a.position (multiple (pos f.n) k)) = link_scale f.turn f.shift f.parts (pos f.n) (pos m) (full_of f) b.position x (sum_of a.position (multiple (pos f.n) k)) is.above same here in
      let met : Meets f (goal_of f a.position) x = record { quotient = k; is = link_meets f.turn f.shift f.parts (pos f.n) (pos f.index) x a.position k (step_above f frame) linked } in
      let t = sum_of is.is_start.cells (image (adjugate f.turn) k) in
      let x_is : x ≡ point_at f s.start t = met_source f frame (goal_of f a.position) x met ∙ ap (λ v. sum_of v (multiple (step_of f) (image (adjugate f.turn) k))) is.is_start.is ∙ cells_more s.start is.is_start.cells (image (adjugate f.turn) k) in
      let inside : IsInCell (point (point_at f s.start t) (full_of f)) = subst (λ v. IsInCell (point v (full_of f))) x_is (scaled_in_cell (pos m) (full_of f) b.position x is.above (full_above f frame) same h.place.in_cell) in (
        t,
        (
          in_space f s.start t is.is_start.in_cell inside,
          record {
            meets = subst (λ v. Meets f s.goal v) x_is (subst (λ (w : Triple). Meets f w x) (sym is.goal) met);
            position = x_is;
            species = h.species ∙ sym is.species;
            moment = h.moment ∙ sym is.moment;
          },
        ),
      )

  -- so the copies in order are the block of a
  pub copies_block : (block : List Atom) → IsSweep (IsCopy f s) (IsInSpace f.index f.index) block → IsBlock c f.turn (origin_of f) m a block
  copies_block block h = record {
    increasing = h.increasing;
    exact = λ b. ((λ k. let r = h.into b k in copy_atom r.0 b r.1.0 r.1.1), (λ k. let r = atom_copy b k in h.onto b r.0 r.1.0 r.1.1));
  }
