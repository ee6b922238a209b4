-- The search by columns finds exactly the isometries.
--
-- Entry (i, j) of wᵀ g w is the scalar product of the columns i and j of w. So w is an isometry exactly where the products of
-- its columns are those of the axes: six of them, since g is symmetric. The columns of an isometry have entries -1, 0 and 1,
-- so each is in the list of its squared length.
use Rattle.std.proofs.Common.{◌≡◌, refl, sym, ap, subst, ◌∙◌, ◌⊎◌, inl, inr, List, ◌++◌, Result, Ok, Err, IfOk}
use Rattle.std.specs.Prelude.{ℤ, ◌↔◌}
use Rattle.ring.specs.Ring.{Ops, int_ops, quoted}
use Rattle.ring.specs.Size.{AtMost}
use Rattle.ring.proofs.Solving.{by_ring}
use Rattle.ring.proofs.IntRing.{int_laws}
use Rattle.lists.specs.Increasing.{IsIncreasing, IsMember, inserted}
use Rattle.lists.specs.Any.{AnyOf}
use Rattle.lists.proofs.Increasing.{IsMember-inserted}
use Rattle.matrix3.specs.declared.vector.Vec3.{Vec3}
use Rattle.matrix3.specs.Matrices.{coordinates, vector_of_variables, EachEntry, of_columns}
use Rattle.matrix3.specs.Matrices as formulas
use Rattle.crystal_spec.specs.Matrices.{Matrix, Triple, transposed}
use Rattle.crystal_spec.specs.Crystals.{KeepsMetric}
use Rattle.crystal_spec.proofs.Entrywise.{matrix_same}
use Rattle.lattice_spec.specs.Niggli.{HasShortAxes}
use Rattle.lattice_spec.specs.Tensor.{Tensor, tensor_matrix}
use Rattle.lattice_spec.proofs.Height.{tensor, listed}
use Rattle.lattice_spec.proofs.Limits.{IsReduced}
use Rattle.lattice_spec.proofs.Isometry.{isometry_small}
use Rattle.crystal.specs.declared.metric.Metric.{Metric}
use Rattle.matrix3.specs.Bounds.{EntriesAtMost}
use Rattle.lattice_iso.specs.Isometries.{matrix_order, ListsIsometries}
use Rattle.lattice_iso.specs.Columns.{scalar_product, ListsOfLength, IsMatrixOf, HasColumns, HasColumnsOf}
use Rattle.lattice_iso.proofs.MatrixPlaces.{matrix_order_exact}

-- ---- one matrix

-- what putting a matrix in adds
pub matrix_added : (g : Matrix) (a b c : Triple) (old new : List Matrix) → scalar_product g a c ≡ g.a13 → scalar_product g b c ≡ g.a23 → new ≡ inserted matrix_order (of_columns a b c) old →
    (w : Matrix) → IsMember w new ↔ (IsMatrixOf g a b c w ⊎ IsMember w old)
matrix_added g a b c old new ac bc is w = subst (λ (l : List Matrix). IsMember w l ↔ (IsMatrixOf g a b c w ⊎ IsMember w old)) (sym is)
    ((λ m. into (member.0 m)), (λ h. member.1 (back h)))
  where
    member : IsMember w (inserted matrix_order (of_columns a b c) old) ↔ ((w ≡ of_columns a b c) ⊎ IsMember w old)
    member = IsMember-inserted matrix_order_exact (of_columns a b c) old w

    into : (w ≡ of_columns a b c) ⊎ IsMember w old → IsMatrixOf g a b c w ⊎ IsMember w old
    into (inl e) = inl (record { same_ac = ac; same_bc = bc; same_matrix = e })
    into (inr m) = inr m

    back : IsMatrixOf g a b c w ⊎ IsMember w old → (w ≡ of_columns a b c) ⊎ IsMember w old
    back (inl k) = inl k.same_matrix
    back (inr m) = inr m

-- where the product of a and b is that of the axes, what the third columns add is what both columns have
pub columns_of_third : {A C : Type 0} (g : Matrix) (a b : Triple) (vs : List Triple) (w : Matrix) → scalar_product g a b ≡ g.a12 → (A ↔ (AnyOf vs (λ c. IsMatrixOf g a b c w) ⊎ C)) → A ↔ (HasColumns g a b vs w ⊎ C)
columns_of_third {A} {C} g a b vs w ab h = ((λ x. into (h.0 x)), (λ k. h.1 (back k)))
  where
    into : AnyOf vs (λ c. IsMatrixOf g a b c w) ⊎ C → HasColumns g a b vs w ⊎ C
    into (inl k) = inl (record { same_ab = ab; third = k })
    into (inr c) = inr c

    back : HasColumns g a b vs w ⊎ C → AnyOf vs (λ c. IsMatrixOf g a b c w) ⊎ C
    back (inl k) = inl k.third
    back (inr c) = inr c

-- where it is not, no matrix has these columns
pub no_columns : {A : Type 0} (g : Matrix) (a b : Triple) (vs : List Triple) (w : Matrix) → (scalar_product g a b ≡ g.a12 → ⊥) → A ↔ (HasColumns g a b vs w ⊎ A)
no_columns g a b vs w other = ((λ m. inr m), (λ k. elim k [ inl h ↦ absurd (other h.same_ab) | inr m ↦ m ]))

-- ---- all of them

-- scalar products are symmetric, since metric tensors are
module _ {R : Type 0} (o : Ops R) where
  abbrev product_of : Tensor R → Vec3 R → Vec3 R → R
  product_of s u v =
      let w = formulas.image o (tensor_matrix s) v in
      formulas.dot o u.x u.y u.z w.x w.y w.z

scalar_product-comm : (s : Tensor ℤ) (u v : Triple) → scalar_product (tensor_matrix s) u v ≡ scalar_product (tensor_matrix s) v u
scalar_product-comm s u v =
    let x = vector_of_variables 6 in
    let y = vector_of_variables 9 in
    by_ring int_ops int_laws (listed s ++ (coordinates u ++ coordinates v)) (product_of quoted tensor x y) (product_of quoted tensor y x) refl

-- a matrix is an isometry where the six products of its columns are those of the axes
keeps_from_products : (s : Tensor ℤ) (a b c : Triple) → scalar_product (tensor_matrix s) a a ≡ s.aa → scalar_product (tensor_matrix s) b b ≡ s.bb → scalar_product (tensor_matrix s) c c ≡ s.cc → scalar_product (tensor_matrix s) b c ≡ s.bc → scalar_product (tensor_matrix s) a c ≡ s.ac → scalar_product (tensor_matrix s) a b ≡ s.ab → KeepsMetric (tensor_matrix s) (of_columns a b c)
keeps_from_products s a b c aa bb cc bc ac ab =
    matrix_same aa ab ac (scalar_product-comm s b a ∙ ab) bb bc (scalar_product-comm s c a ∙ ac) (scalar_product-comm s c b ∙ bc) cc

-- the list of the matrices with columns of these lists is that of all isometries
pub all_listed : (s : Tensor ℤ) (ts us vs : List Triple) (ws : List Matrix) → IsReduced s → ListsOfLength (tensor_matrix s) s.aa ts → ListsOfLength (tensor_matrix s) s.bb us → ListsOfLength (tensor_matrix s) s.cc vs → IsIncreasing matrix_order ws → ((w : Matrix) → IsMember w ws ↔ HasColumnsOf (tensor_matrix s) ts us vs w) → ListsIsometries (tensor_matrix s) ws
all_listed s ts us vs ws reduced first second third increasing members =
    record { increasing = increasing; exact = λ w. ((λ m. into w ((members w).0 m)), (λ k. (members w).1 (back w k))) }
  where
    into : (w : Matrix) → HasColumnsOf (tensor_matrix s) ts us vs w → KeepsMetric (tensor_matrix s) w
    into w h =
        let a = h.x in
        let b = h.holds.x in
        let c = h.holds.holds.third.x in
        let m = h.holds.holds.third.holds in
        subst (KeepsMetric (tensor_matrix s)) (sym m.same_matrix)
        (keeps_from_products s a b c ((first.exact a).0 h.of_list).same_length ((second.exact b).0 h.holds.of_list).same_length ((third.exact c).0 h.holds.holds.third.of_list).same_length m.same_bc m.same_ac h.holds.holds.same_ab)

    back : (w : Matrix) → KeepsMetric (tensor_matrix s) w → HasColumnsOf (tensor_matrix s) ts us vs w
    back w k =
        let e : EachEntry (AtMost 1) w = isometry_small s w reduced k in
        let a : Triple = record { x = w.a11; y = w.a21; z = w.a31 } in
        let b : Triple = record { x = w.a12; y = w.a22; z = w.a32 } in
        let c : Triple = record { x = w.a13; y = w.a23; z = w.a33 } in
        record {
          x = a;
          of_list = (first.exact a).1 (record { small = record { x = e.a11; y = e.a21; z = e.a31 }; same_length = ap (λ (m : Matrix). m.a11) k });
          holds = record {
            x = b;
            of_list = (second.exact b).1 (record { small = record { x = e.a12; y = e.a22; z = e.a32 }; same_length = ap (λ (m : Matrix). m.a22) k });
            holds = record {
              same_ab = ap (λ (m : Matrix). m.a12) k;
              third = record {
                x = c;
                of_list = (third.exact c).1 (record { small = record { x = e.a13; y = e.a23; z = e.a33 }; same_length = ap (λ (m : Matrix). m.a33) k });
                holds = record { same_ac = ap (λ (m : Matrix). m.a13) k; same_bc = ap (λ (m : Matrix). m.a23) k; same_matrix = refl };
              };
            };
          };
        }

-- the metric tensor of the program as one of six entries
abbrev pub tensor_of : Metric → Tensor ℤ
tensor_of m = record { aa = m.aa; bb = m.bb; cc = m.cc; bc = m.bc; ac = m.ac; ab = m.ab }

-- an isometry of it has entries of size at most 1
isometry_entries : (s : Tensor ℤ) (w : Matrix) → IsReduced s → KeepsMetric (tensor_matrix s) w → EntriesAtMost 1 w
isometry_entries s w reduced k =
    let e : EachEntry (AtMost 1) w = isometry_small s w reduced k in
    record { a11 = e.a11; a12 = e.a12; a13 = e.a13; a21 = e.a21; a22 = e.a22; a23 = e.a23; a31 = e.a31; a32 = e.a32; a33 = e.a33 }

-- an isometry of a symmetric matrix that meets the main conditions has entries of size at most 1
pub entries_of_short : (g w : Matrix) → transposed g ≡ g → HasShortAxes g → KeepsMetric g w → EntriesAtMost 1 w
entries_of_short g w symmetric short k =
    let s : Tensor ℤ = record { aa = g.a11; bb = g.a22; cc = g.a33; bc = g.a23; ac = g.a13; ab = g.a12 } in
    let is : g ≡ tensor_matrix s =
    matrix_same refl refl refl (sym (ap (λ (m : Matrix). m.a21) symmetric)) refl refl (sym (ap (λ (m : Matrix). m.a31) symmetric)) (sym (ap (λ (m : Matrix). m.a32) symmetric)) refl in
    isometry_entries s w short (subst (λ (m : Matrix). KeepsMetric m w) is k)

-- the matrix g of the metric tensor s, and a list that may be wanting for memory
pub result_listed : {E : Type 0} (g : Matrix) (s : Tensor ℤ) (ts us vs : List Triple) (r : Result (List Matrix) E) → g ≡ tensor_matrix s → IsReduced s → ListsOfLength g g.a11 ts → ListsOfLength g g.a22 us → ListsOfLength g g.a33 vs → IfOk r (λ ws. IsIncreasing matrix_order ws) → IfOk r (λ ws. (w : Matrix) → IsMember w ws ↔ HasColumnsOf g ts us vs w) → IfOk r (λ ws. ListsIsometries (tensor_matrix s) ws)
result_listed g s ts us vs (Ok ws) is reduced first second third increasing members =
    subst (λ (g : Matrix). ListsOfLength g g.a11 ts → ListsOfLength g g.a22 us → ListsOfLength g g.a33 vs → ((w : Matrix) → IsMember w ws ↔ HasColumnsOf g ts us vs w) → ListsIsometries (tensor_matrix s) ws) (sym is)
    (λ a b c m. all_listed s ts us vs ws reduced a b c increasing m) first second third members
result_listed g s ts us vs (Err e) is reduced first second third increasing members = tt
