-- The maps between two cells in whole steps, and the symmetry operations of each cell, as maps in units of 1/(n n').
--   sent_by_map, map_of_sent                a map from the one cell to the other, and the map that it is
--   sent_by_operation, operation_of_sent    a symmetry operation, and the operation that a map of a cell onto itself is
use Rattle.std.proofs.Common.{◌≡◌, ℕ, zero, suc, ◌<◌, ◌≤◌, List, [], ◌∷◌, ◌++◌, length, ℤ, pos, ◌*ℤ◌, ◌<ℤ◌, ◌≤ℤ◌, refl, sym, ap, subst, ◌∙◌, arith}
use Rattle.std.specs.Prelude.{Some, slice_get}
use Rattle.std.proofs.lemmas.Int.{ints}
use Rattle.ring.specs.Ring.{quoted, var, ◌:*◌}
use Rattle.ring.proofs.IntOrder.{mul_pos}
use Rattle.lists.proofs.Distinct.{one_place}
use Rattle.matrix3.specs.Matrices.{coordinates, vector_of_variables}
use Rattle.matrix3.specs.Matrices as formulas
use Rattle.crystal_spec.specs.declared.Sign.{Sign}
use Rattle.crystal_spec.specs.Matrices.{Triple, Matrix, image, multiple, sum_of, difference}
use Rattle.crystal_spec.specs.Crystals.{Structure, Occupied, position_after, moment_after}
use Rattle.crystal_spec.specs.Operations.{Operation, IsSymmetryOperation, sign_factor}
use Rattle.crystal_spec.specs.Cells.{IsCell}
use Rattle.crystal_spec.proofs.Identities.{by_triples}
use Rattle.crystal_spec.proofs.Images.{occupied_itself}
use Rattle.crystal_spec.proofs.Isometries.{determinant-isometry, sign_squared}
use Rattle.basis_spec.specs.Metrics.{matrix_multiple, metric_in}
use Rattle.positions.specs.Positions.{modulo}
use Rattle.basis_spec.specs.Maps.{Takes}
use Rattle.basis_spec.proofs.Cancelling.{multiple_cancel, matrix_multiple_cancel}
use Rattle.basis_spec.proofs.Translations.{occupied_as}
use Rattle.positions.proofs.Residues.{modulo_away, modulo_within}
use Rattle.basis_spec.proofs.PrimitiveCell.{differs_sym}
use Rattle.basis_spec.proofs.OperationLists.{keeps_differs}
use Rattle.basis_spec.proofs.WholeMaps.{takes_of_keeps, keeps_of_takes}
use Rattle.crystal.specs.Cells.{IsCellWithinLimits}
use Rattle.crystal.proofs.CellLemmas.{is_cell}
use Rattle.crystal_compare.specs.Maps.{HaveOneName}
use Rattle.crystal_compare.specs.Search.{steps, MapsOnto, moments_of, IsMap}
use Rattle.crystal_compare.proofs.Carried.{moment_is}
use Rattle.crystal_compare.proofs.AnyCarried.{moves_near}
use Rattle.crystal_compare.proofs.Inverses.{AreCellsApart}
use Rattle.crystal_compare.proofs.Sending.{Sends, HasUnits}

at_least_1 : (k : ℕ) → 1 ≤ k → pos 0 <ℤ pos k
at_least_1 k h = omega (arith, ints, h)

scale_above : (s : ℤ) → pos 1 ≤ℤ s → pos 0 <ℤ s
scale_above s h = omega (arith, ints, h)

pub units_of : (c : Structure) → IsCellWithinLimits c → HasUnits c
units_of c cell = record { n = at_least_1 c.n cell.n_at_least; k = at_least_1 c.k cell.k_at_least; scale = scale_above c.scale cell.scale_at_least }

-- ---- from one cell to the other, in steps of 1/(n n')
scaled : (n n' : ℤ) (q : Triple) → multiple (n *ℤ (n *ℤ n')) q ≡ multiple (n *ℤ n') (multiple n q)
scaled n n' q =
    let x = vector_of_variables 0 in
    by_triples (coordinates q ++ n ∷ n' ∷ []) (formulas.multiple quoted (var 3 :* (var 3 :* var 4)) x) (formulas.multiple quoted (var 3 :* var 4) (formulas.multiple quoted (var 3) x)) refl

scaled_sum : (n n' : ℤ) (y t : Triple) → multiple (n *ℤ n') (sum_of (multiple n' y) t) ≡ sum_of (multiple (n' *ℤ (n *ℤ n')) y) (multiple (n' *ℤ n) t)
scaled_sum n n' y t =
    let x = vector_of_variables 0 in
    let u = vector_of_variables 3 in
    by_triples (coordinates y ++ coordinates t ++ n ∷ n' ∷ []) (formulas.multiple quoted (var 6 :* var 7) (formulas.sum_of quoted (formulas.multiple quoted (var 7) x) u))
    (formulas.sum_of quoted (formulas.multiple quoted (var 7 :* (var 6 :* var 7)) x) (formulas.multiple quoted (var 7 :* var 6) u)) refl

pub sent_by_map : (c c' : Structure) (o : Operation) → IsMap c c' o → Sends (pos c.n *ℤ pos c'.n) c c' o.matrix o.translation o.sign
sent_by_map c c' o h = record {
  same_kind = h.same_kind;
  unimodular = h.isometry.unimodular;
  metric = h.isometry.metric;
  images = λ s p m k. (let i = h.onto.images s p m k in record {
    species = i.species;
    position = i.position;
    moment = i.moment;
    occupied = i.occupied;
    sent = record { one_name = i.moved.one_name; position = further p i.position i.moved.position; moment = i.moved.moment ∙ moment_is c c' o.matrix o.sign m };
  });
  onto = λ r q l k. (let i = h.onto.onto r q l k in record {
    species = i.species;
    position = i.position;
    moment = i.moment;
    occupied = i.occupied;
    sent = record { one_name = i.moved.one_name; position = further i.position q i.moved.position; moment = i.moved.moment ∙ moment_is c c' o.matrix o.sign i.moment };
  });
}
  where
    further : (p q : Triple) → multiple (pos c.n) q ≡ sum_of (multiple (pos c'.n) (image o.matrix p)) o.translation →
        multiple (pos c.n *ℤ (pos c.n *ℤ pos c'.n)) q ≡ sum_of (multiple (pos c'.n *ℤ (pos c.n *ℤ pos c'.n)) (image o.matrix p)) (multiple (pos c'.n *ℤ pos c.n) o.translation)
    further p q e = scaled (pos c.n) (pos c'.n) q ∙ ap (multiple (pos c.n *ℤ pos c'.n)) e ∙ scaled_sum (pos c.n) (pos c'.n) (image o.matrix p) o.translation

-- the map in steps that it is, with its translation part within one cell
pub record MapOfSent (c c' : Structure) (w : Matrix) (t : Triple) (s : Sign) : Type 0 where
  pub operation : Operation
  pub is_map : IsMap c c' operation
  pub matrix_is : operation.matrix ≡ w
  pub sign_is : operation.sign ≡ s
  pub apart : AreCellsApart (pos c.n *ℤ pos c'.n) t operation.translation

pub map_of_sent : (c c' : Structure) (w : Matrix) (t : Triple) (s : Sign) → HasUnits c → HasUnits c' → Sends (pos c.n *ℤ pos c'.n) c c' w t s → MapOfSent c c' w t s
map_of_sent c c' w t s units units' f = record {
  operation = record { matrix = w; translation = modulo (steps c c') t; sign = s };
  is_map = record {
    within = modulo_within (steps c c') t above;
    same_kind = f.same_kind;
    isometry = record { unimodular = f.unimodular; metric = f.metric };
    onto = moves_near c c' w t (modulo (steps c c') t) away.cells (pos c.k) (moments_of c c' w s) away.is moves;
  };
  matrix_is = refl;
  sign_is = refl;
  apart = record { cells = away.cells; is = away.is };
}
  where
    above : pos 0 <ℤ (pos c.n *ℤ pos c'.n)
    above = mul_pos (pos c.n) (pos c'.n) units.n units'.n

    away : AreCellsApart (pos c.n *ℤ pos c'.n) t (modulo (steps c c') t)
    away = let d = modulo_away (steps c c') t above in record { cells = d.cells; is = d.is }

    nearer : (p q : Triple) → multiple (pos c.n *ℤ (pos c.n *ℤ pos c'.n)) q ≡ sum_of (multiple (pos c'.n *ℤ (pos c.n *ℤ pos c'.n)) (image w p)) (multiple (pos c'.n *ℤ pos c.n) t) → multiple (pos c.n) q ≡ sum_of (multiple (pos c'.n) (image w p)) t
    nearer p q e = multiple_cancel (pos c.n *ℤ pos c'.n) (multiple (pos c.n) q) (sum_of (multiple (pos c'.n) (image w p)) t) above (sym (scaled (pos c.n) (pos c'.n) q) ∙ e ∙ sym (scaled_sum (pos c.n) (pos c'.n) (image w p) t))

    moves : MapsOnto c c' w t s
    moves = record {
      images = λ x p m k. (let i = f.images x p m k in record {
        species = i.species;
        position = i.position;
        moment = i.moment;
        occupied = i.occupied;
        moved = record { one_name = i.sent.one_name; position = nearer p i.position i.sent.position; moment = i.sent.moment ∙ sym (moment_is c c' w s m) };
      });
      onto = λ r q l k. (let i = f.onto r q l k in record {
        species = i.species;
        position = i.position;
        moment = i.moment;
        occupied = i.occupied;
        moved = record { one_name = i.sent.one_name; position = nearer i.position q i.sent.position; moment = i.sent.moment ∙ sym (moment_is c c' w s i.moment) };
      });
    }

-- ---- of one cell onto itself, in units of 1/(n e)

-- what stands at a place below the length of a list
at_place : {X : Type 0} (xs : List X) (i : ℕ) → i < length xs → (x : X) × (slice_get xs i ≡ Some x)
at_place [] i h = absurd (omega (arith, h))
at_place (x ∷ xs) zero h = (x, refl)
at_place (x ∷ xs) (suc i) h = at_place xs i (omega (arith, h))

module _ (c : Structure) (limits : IsCellWithinLimits c) (e : ℤ) (e_above : pos 0 <ℤ e) where
  cell : IsCell c
  cell = is_cell c limits

  units : HasUnits c
  units = units_of c limits

  own_name : (s : ℕ) (p m : Triple) → Occupied c s p m → HaveOneName c c s s
  own_name s p m o =
      let k = at_place c.names s (subst (λ (x : ℕ). x < length c.names) o.same_species (cell.named o.atom o.of_cell)) in
      record { name = k.0; first = k.1; second = k.1 }

  -- y and v, in units of 1/n, in units of 1/(n e)
  sum_scaled : (y v : Triple) → multiple (pos c.n *ℤ (pos c.n *ℤ e)) (sum_of y v) ≡ sum_of (multiple (pos c.n *ℤ (pos c.n *ℤ e)) y) (multiple (pos c.n *ℤ pos c.n) (multiple e v))
  sum_scaled y v =
      let x = vector_of_variables 0 in
      let u = vector_of_variables 3 in
      by_triples (coordinates y ++ coordinates v ++ pos c.n ∷ e ∷ []) (formulas.multiple quoted (var 6 :* (var 6 :* var 7)) (formulas.sum_of quoted x u))
      (formulas.sum_of quoted (formulas.multiple quoted (var 6 :* (var 6 :* var 7)) x) (formulas.multiple quoted (var 6 :* var 6) (formulas.multiple quoted (var 7) u))) refl

  pub sent_by_operation : (o : Operation) → IsSymmetryOperation c o → Sends (pos c.n *ℤ e) c c o.matrix (multiple e o.translation) o.sign
  sent_by_operation o h = record {
    same_kind = refl;
    unimodular = determinant-isometry c.metric o.matrix cell.positive h.keeps.metric;
    metric = ap (matrix_multiple c.scale) h.keeps.metric;
    images = λ s p m k. (let there = (h.keeps.crystal s p m).0 k in record {
      species = s;
      position = position_after o.matrix o.translation p;
      moment = moment_after c.kind o.matrix (sign_factor o.sign) m;
      occupied = there;
      sent = record { one_name = own_name s p m k; position = sum_scaled (image o.matrix p) o.translation; moment = refl };
    });
    onto = λ r q l k. (let i = takes.onto r q l k in record {
      species = r;
      position = i.old_position;
      moment = i.old_moment;
      occupied = i.occupied;
      sent = record {
        one_name = own_name r q l k;
        position = ap (multiple (pos c.n *ℤ (pos c.n *ℤ e))) (sym i.position_is) ∙ sum_scaled (image o.matrix i.old_position) o.translation;
        moment = ap (multiple (pos c.k)) (sym i.moment_is);
      };
    });
  }
    where
      takes : Takes c c o.matrix o.translation (sign_factor o.sign)
      takes = takes_of_keeps c o.matrix o.translation (sign_factor o.sign) cell.positive (sign_squared o.sign) h.keeps

  -- the operation that it is
  pub record OperationOfSent (w : Matrix) (t : Triple) (s : Sign) : Type 0 where
    pub operation : Operation
    pub is_operation : IsSymmetryOperation c operation
    pub matrix_is : operation.matrix ≡ w
    pub sign_is : operation.sign ≡ s
    pub apart : AreCellsApart (pos c.n *ℤ e) t (multiple e operation.translation)

  module _ (w : Matrix) (t : Triple) (s : Sign) (f : Sends (pos c.n *ℤ e) c c w t s) where
    big_above : pos 0 <ℤ (pos c.n *ℤ (pos c.n *ℤ e))
    big_above = mul_pos (pos c.n) (pos c.n *ℤ e) units.n (mul_pos (pos c.n) e units.n e_above)

    seen : Occupied c cell.first.species cell.first.position cell.first.moment
    seen = occupied_itself c cell.first cell.of_cell

    -- from where one atom goes, in units of 1/n
    v : Triple
    v = difference (f.images cell.first.species cell.first.position cell.first.moment seen).position (image w cell.first.position)

    difference_scaled : (q y : Triple) → multiple (pos c.n *ℤ pos c.n) (multiple e (difference q y)) ≡ difference (multiple (pos c.n *ℤ (pos c.n *ℤ e)) q) (multiple (pos c.n *ℤ (pos c.n *ℤ e)) y)
    difference_scaled q y =
        let x = vector_of_variables 0 in
        let u = vector_of_variables 3 in
        by_triples (coordinates q ++ coordinates y ++ pos c.n ∷ e ∷ []) (formulas.multiple quoted (var 6 :* var 6) (formulas.multiple quoted (var 7) (formulas.difference quoted x u)))
        (formulas.difference quoted (formulas.multiple quoted (var 6 :* (var 6 :* var 7)) x) (formulas.multiple quoted (var 6 :* (var 6 :* var 7)) u)) refl

    taken_off : (x y : Triple) → difference (sum_of x y) x ≡ y
    taken_off x y =
        let u = vector_of_variables 0 in
        let z = vector_of_variables 3 in
        by_triples (coordinates x ++ coordinates y) (formulas.difference quoted (formulas.sum_of quoted u z) u) z refl

    v_is : multiple e v ≡ t
    unfolding v
    v_is =
        let i = f.images cell.first.species cell.first.position cell.first.moment seen in
        let y = image w cell.first.position in
        multiple_cancel (pos c.n *ℤ pos c.n) (multiple e (difference i.position y)) t (mul_pos (pos c.n) (pos c.n) units.n units.n)
        (difference_scaled i.position y ∙ ap (λ (x : Triple). difference x (multiple (pos c.n *ℤ (pos c.n *ℤ e)) y)) i.sent.position ∙ taken_off (multiple (pos c.n *ℤ (pos c.n *ℤ e)) y) (multiple (pos c.n *ℤ pos c.n) t))

    position_is : (p q : Triple) → multiple (pos c.n *ℤ (pos c.n *ℤ e)) q ≡ sum_of (multiple (pos c.n *ℤ (pos c.n *ℤ e)) (image w p)) (multiple (pos c.n *ℤ pos c.n) t) → q ≡ position_after w v p
    position_is p q h = multiple_cancel (pos c.n *ℤ (pos c.n *ℤ e)) q (position_after w v p) big_above
        (h ∙ ap (λ (x : Triple). sum_of (multiple (pos c.n *ℤ (pos c.n *ℤ e)) (image w p)) (multiple (pos c.n *ℤ pos c.n) x)) (sym v_is) ∙ sym (sum_scaled (image w p) v))

    takes : Takes c c w v (sign_factor s)
    takes = record {
      kind = refl;
      metric = matrix_multiple_cancel c.scale (metric_in w c.metric) c.metric units.scale f.metric;
      images = λ x p m k. (let i = f.images x p m k in
          subst (λ (y : ℕ). Occupied c y (position_after w v p) (moment_after c.kind w (sign_factor s) m)) (sym (one_place c.names x i.species i.sent.one_name.name limits.names_differ i.sent.one_name.first i.sent.one_name.second))
          (occupied_as c i.species (position_is p i.position i.sent.position) (multiple_cancel (pos c.k) i.moment (moment_after c.kind w (sign_factor s) m) units.k i.sent.moment) i.occupied));
      onto = λ r q l k. (let i = f.onto r q l k in record {
        old_position = i.position;
        old_moment = i.moment;
        position_is = sym (position_is i.position q i.sent.position);
        moment_is = sym (multiple_cancel (pos c.k) l (moment_after c.kind w (sign_factor s) i.moment) units.k i.sent.moment);
        occupied = subst (λ (y : ℕ). Occupied c y i.position i.moment) (one_place c.names i.species r i.sent.one_name.name limits.names_differ i.sent.one_name.first i.sent.one_name.second) i.occupied;
      });
    }

    spread : (y z : Triple) → multiple e (sum_of y (multiple (pos c.n) z)) ≡ sum_of (multiple e y) (multiple (pos c.n *ℤ e) z)
    spread y z =
        let x = vector_of_variables 0 in
        let u = vector_of_variables 3 in
        by_triples (coordinates y ++ coordinates z ++ pos c.n ∷ e ∷ []) (formulas.multiple quoted (var 7) (formulas.sum_of quoted x (formulas.multiple quoted (var 6) u)))
        (formulas.sum_of quoted (formulas.multiple quoted (var 7) x) (formulas.multiple quoted (var 6 :* var 7) u)) refl

    pub operation_of_sent : OperationOfSent w t s
    operation_of_sent =
        let away = modulo_away c.n v units.n in
        record {
          operation = record { matrix = w; translation = modulo c.n v; sign = s };
          is_operation = record {
            translation = modulo_within c.n v units.n;
            keeps = keeps_differs c w v (modulo c.n v) (sign_factor s) (differs_sym away) (keeps_of_takes c w v (sign_factor s) cell.positive (sign_squared s) takes);
          };
          matrix_is = refl;
          sign_is = refl;
          apart = record { cells = away.cells; is = sym v_is ∙ ap (multiple e) away.is ∙ spread (modulo c.n v) away.cells };
        }
