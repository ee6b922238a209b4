-- What the search has found, step by step.
--
-- A map of matrix w carries an atom onto an atom of its name, so its translation part is the one that does so, for one of
-- these atoms; and its matrix has entries -1, 0 and 1, so it is one of the candidates.
use Rattle.std.proofs.Common.{◌≡◌, refl, sym, ap, subst, ◌∙◌, ◌⊎◌, inl, inr, ℕ, zero, suc, ◌+◌, ◌*◌, ◌/◌, ◌%◌, ◌<◌, ◌≤◌, List, [], ◌∷◌, ◌++◌, length, arith}
use Rattle.std.specs.Prelude.{ℤ, pos, negsuc, neg_ℤ, ◌+ℤ◌, ◌*ℤ◌, ◌-ℤ◌, unsigned_abs, ◌↔◌, slice_get, Some}
use Rattle.ring.specs.Ring.{quoted, var, con, ◌:+◌, ◌:*◌, opposite}
use Rattle.matrix3.specs.Matrices.{coordinates, vector_of_variables, of_columns}
use Rattle.lists.specs.Increasing.{IsMember, inserted}
use Rattle.lists.specs.Any.{AnyBelow}
use Rattle.lists.proofs.Increasing.{IsMember-inserted}
use Rattle.lists.proofs.Members.{same_at, place_of_member}
use Rattle.matrix3.specs.Matrices as formulas
use Rattle.crystal_spec.specs.declared.Sign.{Sign}
use Rattle.crystal_spec.specs.declared.Sign.TheVariants.{Same, Reversed}
use Rattle.crystal_spec.specs.Matrices.{Matrix, Triple, image, multiple, sum_of, difference}
use Rattle.crystal_spec.specs.Crystals.{Atom, Structure}
use Rattle.crystal_spec.specs.Operations.{Operation, compare_of}
use Rattle.crystal_spec.proofs.Entrywise.{triple_same}
use Rattle.crystal_spec.proofs.Identities.{by_integers, by_triples}
use Rattle.crystal_spec.proofs.Ordered.{compare_exact}
use Rattle.matrix3.specs.Bounds.{EntriesAtMost, CoordinatesAtMost}
use Rattle.crystal.specs.Cells.{IsCellWithinLimits}
use Rattle.lattice_iso.specs.Columns.{candidate, scalar_product}
use Rattle.lattice_iso.proofs.Candidates.{candidate_small}
use Rattle.basis_spec.specs.Metrics.{matrix_multiple, metric_in}
use Rattle.basis_spec.proofs.MatrixLaws.{metric_in-multiple_metric}
use Rattle.crystal_compare.specs.Maps.{HaveOneName}
use Rattle.positions.proofs.Residues.{modulo_once}
use Rattle.crystal_compare.specs.Search.{steps, AreMetricsOf, IsSecondColumn, IsThirdColumn, IsFoldedOnto, IsIsometry, IsMap, IsMapAs, IsMapOnto, IsMapOntoNumber, IsMapBy, IsMapOfTwo, IsMapOfOne, IsMapOfColumns, IsSmallMap}
use Rattle.crystal_compare.proofs.Reaching.{images_of_onto, atom_image_member, equally_many}

-- ---- one map
pub map_added : (c c' : Structure) (a : Operation) (old new : List Operation) → IsMap c c' a → new ≡ inserted compare_of a old → (o : Operation) → IsMember o new ↔ (IsMapAs c c' a o ⊎ IsMember o old)
map_added c c' a old new is_map is o = subst (λ (l : List Operation). IsMember o l ↔ (IsMapAs c c' a o ⊎ IsMember o old)) (sym is) ((λ m. into (member.0 m)), (λ h. member.1 (back h)))
  where
    member : IsMember o (inserted compare_of a old) ↔ ((o ≡ a) ⊎ IsMember o old)
    member = IsMember-inserted compare_exact a old o

    into : (o ≡ a) ⊎ IsMember o old → IsMapAs c c' a o ⊎ IsMember o old
    into (inl e) = inl (record { same = e; is_map = subst (IsMap c c') (sym e) is_map })
    into (inr m) = inr m

    back : IsMapAs c c' a o ⊎ IsMember o old → (o ≡ a) ⊎ IsMember o old
    back (inl k) = inl k.same
    back (inr m) = inr m

pub map_not_added : (c c' : Structure) (a o : Operation) (D : Type 0) → (IsMap c c' a → ⊥) → D ↔ (IsMapAs c c' a o ⊎ D)
map_not_added c c' a o D none = ((λ d. inr d), back)
  where
    back : IsMapAs c c' a o ⊎ D → D
    back (inl k) = absurd (none (subst (IsMap c c') k.same k.is_map))
    back (inr d) = d

-- ---- one translation part, with both signs
taken_off : (a l : Triple) (n : ℤ) → a ≡ sum_of (sum_of a (multiple n l)) (multiple n (multiple (negsuc 0) l))
taken_off a l n =
    let x = vector_of_variables 0 in
    let y = vector_of_variables 3 in
    by_triples (coordinates a ++ coordinates l ++ n ∷ []) x (formulas.sum_of quoted (formulas.sum_of quoted x (formulas.multiple quoted (var 6) y)) (formulas.multiple quoted (var 6) (formulas.multiple quoted (con (negsuc 0)) y))) refl

pub onto_both : (c c' : Structure) (w : Matrix) (t : Triple) (a b : Atom) (o : Operation) (A B D : Type 0) → IsFoldedOnto c c' w a.position b.position t →
    B ↔ (IsMapAs c c' (record { matrix = w; translation = t; sign = Same }) o ⊎ D) → A ↔ (IsMapAs c c' (record { matrix = w; translation = t; sign = Reversed }) o ⊎ B) → A ↔ (IsMapOnto c c' w a b o ⊎ D)
onto_both c c' w t a b o A B D f same reversed = ((λ x. from_reversed (reversed.0 x)), back)
  where
    this : (s : Sign) → IsMapAs c c' (record { matrix = w; translation = t; sign = s }) o → IsMapOnto c c' w a b o
    this s h = record { same_matrix = ap (λ (q : Operation). q.matrix) h.same; folded = subst (IsFoldedOnto c c' w a.position b.position) (sym (ap (λ (q : Operation). q.translation) h.same)) f; is_map = h.is_map }

    from_same : IsMapAs c c' (record { matrix = w; translation = t; sign = Same }) o ⊎ D → IsMapOnto c c' w a b o ⊎ D
    from_same (inl h) = inl (this Same h)
    from_same (inr d) = inr d

    from_reversed : IsMapAs c c' (record { matrix = w; translation = t; sign = Reversed }) o ⊎ B → IsMapOnto c c' w a b o ⊎ D
    from_reversed (inl h) = inl (this Reversed h)
    from_reversed (inr x) = from_same (same.0 x)

    at_sign : (k : IsMapOnto c c' w a b o) (s : Sign) → o.sign ≡ s → IsMapAs c c' (record { matrix = w; translation = t; sign = s }) o
    at_sign k s e =
        let m = k.same_matrix in
        let v = modulo_once (steps c c') (difference (multiple (pos c.n) b.position) (multiple (pos c'.n) (image w a.position))) o.translation t k.folded f in
        record { same = λ i. record { matrix = m i; translation = v i; sign = e i }; is_map = k.is_map }

    by_sign : (k : IsMapOnto c c' w a b o) (s : Sign) → o.sign ≡ s → A
    by_sign k Same e = reversed.1 (inr (same.1 (inl (at_sign k Same e))))
    by_sign k Reversed e = reversed.1 (inl (at_sign k Reversed e))

    back : IsMapOnto c c' w a b o ⊎ D → A
    back (inl k) = by_sign k o.sign refl
    back (inr d) = reversed.1 (inr (same.1 (inr d)))

-- ---- one atom after another
-- the translation part from where the first atom goes
carried_translation : (x y t u : Triple) (n m : ℤ) → multiple n (sum_of x (multiple m u)) ≡ sum_of y t → difference (multiple n x) y ≡ sum_of t (multiple (n *ℤ m) (multiple (negsuc 0) u))
carried_translation x y t u n m e = triple_same (by x.x y.x t.x u.x (ap (λ (v : Triple). v.x) e)) (by x.y y.y t.y u.y (ap (λ (v : Triple). v.y) e)) (by x.z y.z t.z u.z (ap (λ (v : Triple). v.z) e))
  where
    by : (x y t u : ℤ) → n *ℤ (x +ℤ m *ℤ u) ≡ y +ℤ t → n *ℤ x +ℤ neg_ℤ y ≡ t +ℤ (n *ℤ m) *ℤ (negsuc 0 *ℤ u)
    by x y t u h =
        by_integers (n ∷ x ∷ m ∷ u ∷ y ∷ []) (var 0 :* var 1 :+ opposite (var 4)) ((var 0 :* (var 1 :+ var 2 :* var 3) :+ opposite (var 4)) :+ opposite (var 0 :* (var 2 :* var 3))) refl
        ∙ ap (λ z. (z +ℤ neg_ℤ y) +ℤ neg_ℤ (n *ℤ (m *ℤ u))) h
        ∙ by_integers (n ∷ t ∷ m ∷ u ∷ y ∷ []) (((var 4 :+ var 1) :+ opposite (var 4)) :+ opposite (var 0 :* (var 2 :* var 3))) (var 1 :+ (var 0 :* var 2) :* (con (negsuc 0) :* var 3)) refl

-- all atoms are seen: exactly the maps of this matrix
pub by_atoms : (c c' : Structure) (w : Matrix) (a : Atom) (o : Operation) (A Old : Type 0) → IsCellWithinLimits c → IsCellWithinLimits c' → IsMember a c.atoms → A ↔ (AnyBelow (length c'.atoms) (IsMapOntoNumber c c' w a o) ⊎ Old) → A ↔ (IsMapBy c c' w o ⊎ Old)
by_atoms c c' w a o A Old cell cell' of_cell found = ((λ x. forth (found.0 x)), (λ h. found.1 (back h)))
  where
    forth : AnyBelow (length c'.atoms) (IsMapOntoNumber c c' w a o) ⊎ Old → IsMapBy c c' w o ⊎ Old
    forth (inl k) = inl (record { same_matrix = k.holds.onto.same_matrix; is_map = k.holds.onto.is_map })
    forth (inr d) = inr d

    back : IsMapBy c c' w o ⊎ Old → AnyBelow (length c'.atoms) (IsMapOntoNumber c c' w a o) ⊎ Old
    back (inl h) =
        let m = h.is_map in
        let i = atom_image_member c c' o.matrix o.translation _ c.atoms a (images_of_onto c c' o.matrix o.translation o.sign cell cell' m.isometry.unimodular m.onto) of_cell in
        let k = place_of_member c'.atoms i.atom i.of_cell in
        inl (record {
          number = k.number;
          below = k.below;
          holds = record {
            atom = i.atom;
            is_atom = k.at;
            one_name = i.carried.one_name;
            onto = record {
              same_matrix = h.same_matrix;
              folded = subst (λ (v : Matrix). IsFoldedOnto c c' v a.position i.atom.position o.translation) h.same_matrix
                  (record { within = m.within; cells = multiple (negsuc 0) i.carried.cells; same = carried_translation i.atom.position (multiple (pos c'.n) (image o.matrix a.position)) o.translation i.carried.cells (pos c.n) (pos c'.n) i.carried.position });
              is_map = m;
            };
          };
        })
    back (inr d) = inr d

-- ---- one column after another

-- the products of the columns of a map are those of the axes
metric_of_map : (c c' : Structure) (w : Matrix) (g g' : Matrix) (o : Operation) → AreMetricsOf c c' g g' → IsMapBy c c' w o → metric_in w g' ≡ g
metric_of_map c c' w g g' o m h =
    ap (metric_in w) m.other ∙ metric_in-multiple_metric w c.scale c'.metric ∙ ap (λ (v : Matrix). matrix_multiple c.scale (metric_in v c'.metric)) (sym h.same_matrix) ∙ h.is_map.isometry.metric ∙ sym m.one

pub not_first_column : (c c' : Structure) (g g' : Matrix) (a u : Triple) (o : Operation) → AreMetricsOf c c' g g' → u ≡ a → (scalar_product g' u u ≡ g.a11 → ⊥) → IsMapOfOne c c' a o → ⊥
not_first_column c c' g g' a u o m e none h =
    let k = metric_of_map c c' (of_columns a (candidate h.number) (candidate h.holds.number)) g g' o m h.holds.holds in
    none (ap (λ (x : Triple). scalar_product g' x x) e ∙ ap (λ (x : Matrix). x.a11) k)

pub not_second_column : (c c' : Structure) (g g' : Matrix) (a b u : Triple) (o : Operation) → AreMetricsOf c c' g g' → u ≡ b → (IsSecondColumn g g' a u → ⊥) → IsMapOfTwo c c' a b o → ⊥
not_second_column c c' g g' a b u o m e none h =
    let k = metric_of_map c c' (of_columns a b (candidate h.number)) g g' o m h.holds in
    none (subst (IsSecondColumn g g' a) (sym e) (record { length = ap (λ (x : Matrix). x.a22) k; first = ap (λ (x : Matrix). x.a12) k }))

pub not_third_column : (c c' : Structure) (g g' : Matrix) (a b d u : Triple) (o : Operation) → AreMetricsOf c c' g g' → u ≡ d → (IsThirdColumn g g' a b u → ⊥) → IsMapBy c c' (of_columns a b d) o → ⊥
not_third_column c c' g g' a b d u o m e none h =
    let k = metric_of_map c c' (of_columns a b d) g g' o m h in
    none (subst (IsThirdColumn g g' a b) (sym e) (record { length = ap (λ (x : Matrix). x.a33) k; first = ap (λ (x : Matrix). x.a13) k; second = ap (λ (x : Matrix). x.a23) k }))

-- a small entry is a digit less one
digit_of : (z : ℤ) → unsigned_abs z ≤ 1 → (d : ℕ) × (d < 3) × (pos d -ℤ pos 1 ≡ z)
digit_of (pos zero) h = (1, omega arith, refl)
digit_of (pos (suc zero)) h = (2, omega arith, refl)
digit_of (pos (suc (suc n))) h = absurd (omega arith)
digit_of (negsuc zero) h = (0, omega arith, refl)
digit_of (negsuc (suc n)) h = absurd (omega arith)

record Digits (k a b c : ℕ) : Type 0 where
  below : k < 27
  x : k / 9 % 3 ≡ a
  y : k / 3 % 3 ≡ b
  z : k / 1 % 3 ≡ c

read : (a b c : ℕ) → a < 3 → b < 3 → c < 3 → Digits (9 * a + 3 * b + 1 * c) a b c
read a b c ha hb hc = record { below = omega arith; x = omega arith; y = omega arith; z = omega arith }

-- the number of a column of small entries
number_of : (x y z : ℤ) → unsigned_abs x ≤ 1 → unsigned_abs y ≤ 1 → unsigned_abs z ≤ 1 → (k : ℕ) × (k < 27) × (record { x = x; y = y; z = z } ≡ candidate k)
number_of x y z hx hy hz =
    let a = digit_of x hx in
    let b = digit_of y hy in
    let c = digit_of z hz in
    let digit = λ (d : ℕ). pos d -ℤ pos 1 in
    let r = read a.0 b.0 c.0 a.1 b.1 c.1 in
    (9 * a.0 + 3 * b.0 + 1 * c.0, r.below, sym (triple_same (ap digit r.x ∙ a.2) (ap digit r.y ∙ b.2) (ap digit r.z ∙ c.2)))

-- a matrix of small columns
pub columns_small : (a b c : Triple) → CoordinatesAtMost 1 a → CoordinatesAtMost 1 b → CoordinatesAtMost 1 c → EntriesAtMost 1 (of_columns a b c)
columns_small a b c ha hb hc = record { a11 = ha.x; a12 = hb.x; a13 = hc.x; a21 = ha.y; a22 = hb.y; a23 = hc.y; a31 = ha.z; a32 = hb.z; a33 = hc.z }

-- all columns are seen: exactly the maps of small entries
pub by_columns_all : (c c' : Structure) (o : Operation) (A : Type 0) → A ↔ IsMapOfColumns c c' o → A ↔ IsSmallMap c c' o
by_columns_all c c' o A found = ((λ x. forth (found.0 x)), (λ h. found.1 (back h)))
  where
    forth : IsMapOfColumns c c' o → IsSmallMap c c' o
    forth k = record {
      small = subst (EntriesAtMost 1) (sym k.holds.holds.holds.same_matrix)
          (columns_small (candidate k.number) (candidate k.holds.number) (candidate k.holds.holds.number) (candidate_small k.number) (candidate_small k.holds.number) (candidate_small k.holds.holds.number));
      is_map = k.holds.holds.holds.is_map;
    }

    back : IsSmallMap c c' o → IsMapOfColumns c c' o
    back h =
        let w = o.matrix in
        let i = number_of w.a11 w.a21 w.a31 h.small.a11.size h.small.a21.size h.small.a31.size in
        let j = number_of w.a12 w.a22 w.a32 h.small.a12.size h.small.a22.size h.small.a32.size in
        let k = number_of w.a13 w.a23 w.a33 h.small.a13.size h.small.a23.size h.small.a33.size in
        record {
          number = i.0;
          below = i.1;
          holds = record { number = j.0; below = j.1; holds = record { number = k.0; below = k.1; holds = record { same_matrix = (λ z. of_columns (i.2 z) (j.2 z) (k.2 z)); is_map = h.is_map } } };
        }

-- there is no map between cells of two kinds of moments, or of different numbers of atoms
pub no_map_of_kinds : (c c' : Structure) (o : Operation) → (c.kind ≡ c'.kind → ⊥) → IsMember o [] ↔ IsSmallMap c c' o
no_map_of_kinds c c' o other = ((λ m. absurd m), (λ h. absurd (other (sym h.is_map.same_kind))))

pub no_map_of_counts : (c c' : Structure) (o : Operation) → IsCellWithinLimits c → IsCellWithinLimits c' → (length c.atoms ≡ length c'.atoms → ⊥) → IsMember o [] ↔ IsSmallMap c c' o
no_map_of_counts c c' o cell cell' other = ((λ m. absurd m), (λ h. absurd (other (equally_many c c' o.matrix o.translation o.sign cell cell' h.is_map.isometry.unimodular h.is_map.onto))))

-- the next atom of the name, and one of another name
pub onto_number : (c c' : Structure) (w : Matrix) (a b : Atom) (o : Operation) (j : ℕ) (A D : Type 0) → slice_get c'.atoms j ≡ Some b → HaveOneName c c' a.species b.species → A ↔ (IsMapOnto c c' w a b o ⊎ D) → A ↔ (IsMapOntoNumber c c' w a o j ⊎ D)
onto_number c c' w a b o j A D at name h = ((λ x. forth (h.0 x)), (λ x. h.1 (back x)))
  where
    forth : IsMapOnto c c' w a b o ⊎ D → IsMapOntoNumber c c' w a o j ⊎ D
    forth (inl k) = inl (record { atom = b; is_atom = at; one_name = name; onto = k })
    forth (inr d) = inr d

    back : IsMapOntoNumber c c' w a o j ⊎ D → IsMapOnto c c' w a b o ⊎ D
    back (inl k) = inl (subst (λ (x : Atom). IsMapOnto c c' w a x o) (same_at c'.atoms j k.atom b k.is_atom at) k.onto)
    back (inr d) = inr d

pub not_onto_number : (c c' : Structure) (w : Matrix) (a b : Atom) (o : Operation) (j : ℕ) → slice_get c'.atoms j ≡ Some b → (HaveOneName c c' a.species b.species → ⊥) → IsMapOntoNumber c c' w a o j → ⊥
not_onto_number c c' w a b o j at other k = other (subst (λ (x : Atom). HaveOneName c c' a.species x.species) (same_at c'.atoms j k.atom b k.is_atom at) k.one_name)

-- the maps of the next matrix, and none where it is no isometry
pub by_matrix : (c c' : Structure) (w v : Matrix) (o : Operation) (A D : Type 0) → w ≡ v → A ↔ (IsMapBy c c' w o ⊎ D) → A ↔ (IsMapBy c c' v o ⊎ D)
by_matrix c c' w v o A D e h = subst (λ (x : Matrix). A ↔ (IsMapBy c c' x o ⊎ D)) e h

pub not_by_matrix : (c c' : Structure) (w v : Matrix) (o : Operation) → w ≡ v → (IsIsometry c c' w → ⊥) → IsMapBy c c' v o → ⊥
not_by_matrix c c' w v o e none h = none (subst (IsIsometry c c') (h.same_matrix ∙ sym e) h.is_map.isometry)

-- where there is nothing of the one, nothing is added
pub not_added : (X D : Type 0) → (X → ⊥) → D ↔ (X ⊎ D)
not_added X D none = ((λ d. inr d), back)
  where
    back : X ⊎ D → D
    back (inl x) = absurd (none x)
    back (inr d) = d
