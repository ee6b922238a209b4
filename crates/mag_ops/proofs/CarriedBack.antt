-- What operations of a primitive cell give in the cell that it was made of.
--
-- Q takes coordinates in the cell to those in the primitive cell, and index · P undoes it but for the index. So Q t = v
-- exactly where index · P takes v to index · t, and a matrix W with V Q = Q W has such columns. Of one operation (V, v, sign)
-- the translation parts are those of one t and of the pure translations, modulo n. The numbers on the way are bounded: V is
-- an isometry of a reduced metric tensor, with entries -1, 0 and 1, and a quotient is no larger than what is divided.
use Rattle.std.proofs.Common.{◌≡◌, refl, sym, ap, subst, ◌∙◌, ◌⊎◌, inl, inr, ℕ, ◌*◌, ◌≤◌, ℤ, pos, ◌*ℤ◌, ◌<ℤ◌, ◌≤ℤ◌, unsigned_abs, List, [], ◌∷◌, ◌++◌, map, take, length, Option, Some, None, IfSome, Result, Ok, Err, mul-le-mul, arith}
use Rattle.std.specs.Prelude.{◌↔◌, IfNone, OnOk}
use Rattle.std.proofs.lemmas.Int.{ints, unsigned_abs-mul}
use Rattle.std.specs.List.Sorted.{IsPermutation}
use Rattle.std.proofs.lemmas.List.{map_push}
use Rattle.ring.specs.Ring.{var, ◌:*◌}
use Rattle.ring.specs.Size.{AtMost}
use Rattle.matrix3.specs.Matrices.{column1, column2, column3}
use Rattle.lists.specs.Increasing.{IsMember}
use Rattle.lists.specs.Any.{AnyOf}
use Rattle.lists.proofs.Any.{any_all, only_left, any_mapped}
use Rattle.lists.proofs.Members.{IsMember-pushed}
use Rattle.lists.proofs.Sorting.{members-permuted}
use Rattle.crystal_spec.specs.Matrices.{Triple, Matrix, product, image, determinant, adjugate, identity, transposed, multiple, sum_of}
use Rattle.crystal_spec.specs.Crystals.{Structure, KeepsMetric}
use Rattle.crystal_spec.specs.declared.Sign.{Sign}
use Rattle.crystal_spec.specs.Operations.{Operation, IsWithinCell, IsSymmetryOperation, ListsAll, ListsAllSame}
use Rattle.crystal_spec.proofs.Identities.{by_integers}
use Rattle.lattice_spec.specs.Niggli.{IsNiggli}
use Rattle.matrix3.specs.Bounds.{EntriesAtMost, CoordinatesAtMost}
use Rattle.lattice_iso.proofs.ByColumns.{entries_of_short}
use Rattle.positions.specs.Positions.{modulo, triple_of}
use Rattle.basis_spec.specs.Metrics.{matrix_multiple}
use Rattle.basis_spec.specs.Bases.{IsBack}
use Rattle.basis_spec.specs.StepBases.{InLattice}
use Rattle.basis_spec.specs.Translations.{pure_translation}
use Rattle.basis_spec.specs.Carrying.{IsCarried}
use Rattle.basis_spec.proofs.MatrixLaws.{product_assoc, image-product, image-matrix_multiple, image-multiple, image-identity, image-image_adjugate, product-identity, product-multiple, product-adjugate, product-matrix_multiple_right, columns_of_product, same_images}
use Rattle.basis_spec.proofs.Cancelling.{multiple_cancel, matrix_multiple_cancel, image_cancel}
use Rattle.positions.proofs.Residues.{modulo_within}
use Rattle.basis_spec.proofs.CarriedOperations.{made, starts}
use Rattle.op_group.specs.Lists.{AllWithinCell}
use Rattle.op_group.specs.Views.{operation_of}
use Rattle.op_group.specs.declared.operation.Op.{Op}
use Rattle.prim_cell.specs.Primitives.{PrimitiveCell, IsPrimitiveCell}
use Rattle.mag_ops.specs.Carried.{IsCarriedFrom, IsTranslated}

-- ---- options and results

-- what follows of each value follows of an option
pub some_then : {A : Type 0} {P Q : A → Type 0} (r : Option A) → ((v : A) → P v → Q v) → IfSome r P → IfSome r Q
some_then (Some v) f h = f v h
some_then None f h = tt

-- what follows where there is none
pub none_then : {A : Type 0} {P Q : Type 0} (r : Option A) → (P → Q) → IfNone r P → IfNone r Q
none_then (Some v) f h = tt
none_then None f h = f h

-- what follows where a call succeeds
pub ok_then : {A E : Type 0} {P Q : Type 0} (r : Result A E) → (P → Q) → OnOk r P → OnOk r Q
ok_then (Ok v) f h = f h
ok_then (Err e) f h = tt

-- what holds anyway holds where there is none
pub none_of : {A : Type 0} {P : Type 0} (r : Option A) → P → IfNone r P
none_of (Some v) h = tt
none_of None h = h

-- ---- columns: Q t = v exactly where index · P takes v to index · t

at_least : (d : ℤ) → pos 1 ≤ℤ d → pos 0 <ℤ d
at_least d h = omega (arith, ints)

-- a matrix whose product with Q is the determinant of Q times the identity is the adjugate
adjugate_is : (fore r : Matrix) (d : ℤ) → d ≡ determinant r → pos 1 ≤ℤ determinant r → product fore r ≡ matrix_multiple d identity → fore ≡ adjugate r
adjugate_is fore r d d_is up inverse =
    matrix_multiple_cancel (determinant r) fore (adjugate r) (at_least (determinant r) up)
    (sym (product-matrix_multiple_right (determinant r) fore identity ∙ ap (matrix_multiple (determinant r)) (product-identity fore))
    ∙ ap (product fore) (sym (product-adjugate r))
    ∙ sym (product_assoc fore r (adjugate r))
    ∙ ap (λ (m : Matrix). product m (adjugate r)) inverse
    ∙ product-multiple d (adjugate r)
    ∙ ap (λ (k : ℤ). matrix_multiple k (adjugate r)) d_is)

module _ (p : PrimitiveCell) (form : IsPrimitiveCell p) where
  index_above : pos 0 <ℤ pos p.index
  index_above = subst (λ (z : ℤ). pos 0 <ℤ z) (sym form.determinant_is) (at_least (determinant p.back) form.lattice.determinant_positive)

  fore_is : p.fore ≡ adjugate p.back
  fore_is = adjugate_is p.fore p.back (pos p.index) form.determinant_is form.lattice.determinant_positive form.inverse

  -- the index is at least 1
  pub index_at_least : 1 ≤ p.index
  index_at_least = omega (arith, ints, index_above)

  -- a column whose multiple index · P gives is one that Q takes there
  pub column_found : (v t : Triple) → image p.fore v ≡ multiple (pos p.index) t → image p.back t ≡ v
  column_found v t e =
      multiple_cancel (pos p.index) (image p.back t) v index_above
      (sym (image-multiple p.back (pos p.index) t) ∙ ap (image p.back) (sym e) ∙ ap (λ (m : Matrix). image p.back (image m v)) fore_is ∙ image-image_adjugate p.back v ∙ ap (λ (k : ℤ). multiple k v) (sym form.determinant_is))

  -- and conversely
  pub column_taken : (v t : Triple) → image p.back t ≡ v → image p.fore v ≡ multiple (pos p.index) t
  column_taken v t e =
      ap (image p.fore) (sym e) ∙ sym (image-product p.fore p.back t) ∙ ap (λ (m : Matrix). image m t) form.inverse ∙ image-matrix_multiple (pos p.index) identity t ∙ ap (multiple (pos p.index)) (image-identity t)

-- ---- sizes of quotients

smaller : (k d m : ℕ) → 1 ≤ d → d * k ≤ m → k ≤ m
smaller k d m h l = grind (arith, mul-le-mul)

quotient_small : (d m : ℕ) (a z : ℤ) → 1 ≤ d → a ≡ pos d *ℤ z → AtMost m a → AtMost m z
quotient_small d m a z h e l =
    let sizes = unsigned_abs-mul (pos d) z in
    let same = ap unsigned_abs e in
    record { size = smaller (unsigned_abs z) d m h (omega (arith, sizes, same, l.size)) }

-- a column has no larger coordinates than its multiples
pub column_small : (d m : ℕ) (v t : Triple) → 1 ≤ d → v ≡ multiple (pos d) t → CoordinatesAtMost m v → CoordinatesAtMost m t
column_small d m v t h e l = record {
  x = quotient_small d m v.x t.x h (ap (λ (u : Triple). u.x) e) l.x;
  y = quotient_small d m v.y t.y h (ap (λ (u : Triple). u.y) e) l.y;
  z = quotient_small d m v.z t.z h (ap (λ (u : Triple). u.z) e) l.z;
}

-- a quotient by a number that is not 0, as a division of integers gives it
pub quotient_is : (a x k : ℤ) (d : ℕ) → k ≡ pos d → a ≡ pos d *ℤ x → x *ℤ k ≡ a
quotient_is a x k d e f = by_integers (x ∷ k ∷ []) (var 0 :* var 1) (var 1 :* var 0) refl ∙ ap (λ (z : ℤ). z *ℤ x) e ∙ sym f

-- a number from 1 on is not 0
pub not_zero : (k : ℤ) (d : ℕ) → k ≡ pos d → 1 ≤ d → k ≡ pos 0 → ⊥
not_zero k d e h z = omega (arith, ints, sym e ∙ z)

-- ---- matrices by their columns

-- the columns of Q W are those that Q makes of the columns of W
pub column1_of : (m r w : Matrix) → m ≡ product r w → image r (column1 w) ≡ column1 m
column1_of m r w e = ap column1 (columns_of_product r (column1 w) (column2 w) (column3 w) ∙ sym e)

-- so for the second
pub column2_of : (m r w : Matrix) → m ≡ product r w → image r (column2 w) ≡ column2 m
column2_of m r w e = ap column2 (columns_of_product r (column1 w) (column2 w) (column3 w) ∙ sym e)

-- and the third
pub column3_of : (m r w : Matrix) → m ≡ product r w → image r (column3 w) ≡ column3 m
column3_of m r w e = ap column3 (columns_of_product r (column1 w) (column2 w) (column3 w) ∙ sym e)

-- Q is cancelled on the left
product_cancel : (r v w : Matrix) → pos 0 <ℤ determinant r → product r v ≡ product r w → v ≡ w
product_cancel r v w up e = same_images v w (λ t. image_cancel r (image v t) (image w t) up (sym (image-product r v t) ∙ ap (λ (m : Matrix). image m t) e ∙ image-product r w t))

-- ---- operations

module _ (n : ℕ) (p : PrimitiveCell) (form : IsPrimitiveCell p) (n_is : n ≡ p.shifts.n) (some : pos 0 <ℤ pos n) (within : AllWithinCell n p.shifts.operations) where
  lattice : IsBack n (InLattice n p.shifts.operations) p.back
  lattice = subst (λ (m : ℕ). IsBack m (InLattice m p.shifts.operations) p.back) (sym n_is) form.lattice

  -- Of an operation v with V Q = Q W and Q w0 = v0 exactly those of the matrix W, of the sign of v and of the translation
  -- parts w0 + t, t a pure translation, are carried from it.
  pub translated_exactly : (v : Operation) (w : Matrix) (start : Triple) → IsWithinCell n v.translation → product v.matrix p.back ≡ product p.back w → image p.back start ≡ v.translation →
      (o : Operation) → IsTranslated n w start v.sign p.shifts.operations o ↔ IsCarriedFrom n p.back v o
  translated_exactly v w start hv turned started o = (down, up)
    where
      down : IsTranslated n w start v.sign p.shifts.operations o → IsCarriedFrom n p.back v o
      down a =
          let t = a.x.translation in
          let member = subst (λ (q : Operation). IsMember q p.shifts.operations) (form.pure a.x a.of_list) a.of_list in
          let is : o.translation ≡ modulo n (sum_of start t) = ap (λ (q : Operation). q.translation) a.holds in
          let inside : IsWithinCell n o.translation = subst (IsWithinCell n) (sym is) (modulo_within n (sum_of start t) some) in
          record {
            translation = inside;
            turned = turned ∙ ap (λ (q : Operation). product p.back q.matrix) (sym a.holds);
            shifted = (made n p.shifts.operations p.back some lattice v.translation start o.translation hv started inside).1 (record { pure_part = t; of_list = member; within = within a.x a.of_list; is = is });
            same_sign = ap (λ (q : Operation). q.sign) a.holds;
          }

      up : IsCarriedFrom n p.back v o → IsTranslated n w start v.sign p.shifts.operations o
      up h =
          let m = (made n p.shifts.operations p.back some lattice v.translation start o.translation hv started h.translation).0 h.shifted in
          let matrix : o.matrix ≡ w = product_cancel p.back o.matrix w (at_least (determinant p.back) form.lattice.determinant_positive) (sym h.turned ∙ turned) in
          record {
            x = pure_translation m.pure_part;
            of_list = m.of_list;
            holds = λ i. record { matrix = matrix i; translation = m.is i; sign = h.same_sign i };
          }

  -- nothing is carried from an operation where Q takes no triple to its translation part
  pub none_started : (v o : Operation) → ((t : Triple) → image p.back t ≡ v.translation → ⊥) → IsCarriedFrom n p.back v o → ⊥
  none_started v o none h =
      let start = starts n p.shifts.operations p.back some lattice v.translation o.translation h.shifted in
      none start.0 start.1

-- ---- lists

-- a value of a list with one more element is that of the element or an old one
pub value_pushed : {A X : Type 0} (f : A → X) (xs : List A) (x : A) (z : X) → IsMember z (map f (xs ++ x ∷ [])) ↔ ((z ≡ f x) ⊎ IsMember z (map f xs))
value_pushed {A} {X} f xs x z = subst (λ (zs : List X). IsMember z zs ↔ ((z ≡ f x) ⊎ IsMember z (map f xs))) (sym (map_push f xs x)) (IsMember-pushed (map f xs) (f x) z)

-- after the last pure translation of the list: exactly the sums with those of the list, in whatever order they are put
pub sums_of_all : (n : ℕ) (start : Triple) (ops : List Op) (ps : List Operation) (xs ys : List (List ℕ)) → map operation_of ops ≡ ps → IsPermutation xs ys → (i : ℕ) → i ≡ length ops →
    ((t : Triple) → IsMember t (map triple_of xs) ↔ (AnyOf (take i ops) (λ x. t ≡ modulo n (sum_of start (triple_of x.shift))) ⊎ ⊥)) →
    (t : Triple) → IsMember t (map triple_of ys) ↔ AnyOf ps (λ p. t ≡ modulo n (sum_of start p.translation))
sums_of_all n start ops ps xs ys same moved i ended h t =
    let all = only_left (any_all ops i (λ x. t ≡ modulo n (sum_of start (triple_of x.shift))) ended (h t)) in
    let mapped = any_mapped operation_of ops (λ p. t ≡ modulo n (sum_of start p.translation)) in
    let sorted = members-permuted triple_of xs ys moved t in
    subst (λ (l : List Operation). IsMember t (map triple_of ys) ↔ AnyOf l (λ p. t ≡ modulo n (sum_of start p.translation))) same
    ((λ m. mapped.0 (all.0 (sorted.0 m))), (λ a. sorted.1 (all.1 (mapped.1 a))))

-- the operations of one matrix and sign with the translation parts of a list, where these are the sums with those of another
pub translated_by : (n : ℕ) (w : Matrix) (start : Triple) (sign : Sign) (ts : List Triple) (ps : List Operation) →
    ((t : Triple) → IsMember t ts ↔ AnyOf ps (λ p. t ≡ modulo n (sum_of start p.translation))) →
    (o : Operation) → AnyOf ts (λ t. o ≡ record { matrix = w; translation = t; sign = sign }) ↔ IsTranslated n w start sign ps o
translated_by n w start sign ts ps sums o = (into, back)
  where
    into : AnyOf ts (λ t. o ≡ record { matrix = w; translation = t; sign = sign }) → IsTranslated n w start sign ps o
    into a =
        let b = (sums a.x).0 a.of_list in
        record { x = b.x; of_list = b.of_list; holds = a.holds ∙ ap (λ (t : Triple). record { matrix = w; translation = t; sign = sign }) b.holds }

    back : IsTranslated n w start sign ps o → AnyOf ts (λ t. o ≡ record { matrix = w; translation = t; sign = sign })
    back a =
        let t = modulo n (sum_of start a.x.translation) in
        record { x = t; of_list = (sums t).1 (record { x = a.x; of_list = a.of_list; holds = refl }); holds = a.holds }

-- one of two properties in place of an equivalent one
pub either_same : {A B C D : Type 0} → (B ↔ C) → (A ↔ (B ⊎ D)) → A ↔ (C ⊎ D)
either_same {A} {B} {C} {D} same h = ((λ a. into (h.0 a)), (λ e. h.1 (back e)))
  where
    into : B ⊎ D → C ⊎ D
    into (inl b) = inl (same.0 b)
    into (inr d) = inr d

    back : C ⊎ D → B ⊎ D
    back (inl c) = inl (same.1 c)
    back (inr d) = inr d

-- nothing is added where the one property never holds
pub none_more : {B D : Type 0} → (B → ⊥) → D ↔ (B ⊎ D)
none_more {B} {D} none = ((λ d. inr d), back)
  where
    back : B ⊎ D → D
    back (inl b) = absurd (none b)
    back (inr d) = d

-- what is carried from a member of the list is what the list carries
pub carried_from_list : (n : ℕ) (r : Matrix) (os : List Operation) (o : Operation) → AnyOf os (λ v. IsCarriedFrom n r v o) ↔ IsCarried n r os o
carried_from_list n r os o = (into, back)
  where
    into : AnyOf os (λ v. IsCarriedFrom n r v o) → IsCarried n r os o
    into a = record {
      translation = a.holds.translation;
      matrix = a.x.matrix;
      turned = a.holds.turned;
      of_list = subst (λ (v : Operation). IsMember v os) (λ i. record { matrix = a.x.matrix; translation = sym a.holds.shifted i; sign = sym a.holds.same_sign i }) a.of_list;
    }

    back : IsCarried n r os o → AnyOf os (λ v. IsCarriedFrom n r v o)
    back h = record {
      x = record { matrix = h.matrix; translation = modulo n (image r o.translation); sign = o.sign };
      of_list = h.of_list;
      holds = record { translation = h.translation; turned = h.turned; shifted = refl; same_sign = refl };
    }

-- after the last operation of the list
pub list_carried : (n : ℕ) (r : Matrix) (ops : List Op) (os found : List Operation) → map operation_of ops ≡ os → (i : ℕ) → i ≡ length ops →
    ((o : Operation) → IsMember o found ↔ (AnyOf (take i ops) (λ x. IsCarriedFrom n r (operation_of x) o) ⊎ ⊥)) → (o : Operation) → IsMember o found ↔ IsCarried n r os o
list_carried n r ops os found same i ended h o =
    let all = only_left (any_all ops i (λ x. IsCarriedFrom n r (operation_of x) o) ended (h o)) in
    let mapped = any_mapped operation_of ops (λ v. IsCarriedFrom n r v o) in
    let carried = carried_from_list n r os o in (
      (λ m. carried.0 (subst (λ (l : List Operation). AnyOf l (λ v. IsCarriedFrom n r v o)) same (mapped.0 (all.0 m)))),
      (λ k. all.1 (mapped.1 (subst (λ (l : List Operation). AnyOf l (λ v. IsCarriedFrom n r v o)) (sym same) (carried.1 k)))),
    )

-- ---- members of the list of the primitive cell

-- each is a symmetry operation
pub symmetry_of_group : (c : Structure) (os : List Operation) → ListsAll c os ⊎ ListsAllSame c os → (o : Operation) → IsMember o os → IsSymmetryOperation c o
symmetry_of_group c os (inl all) o m = (all.exact o).0 m
symmetry_of_group c os (inr same) o m = ((same.exact o).0 m).0

-- an isometry of a Niggli-reduced metric tensor has entries -1, 0 and 1
pub reduced_isometry_small : (g w : Matrix) → IsNiggli g → transposed g ≡ g → KeepsMetric g w → EntriesAtMost 1 w
reduced_isometry_small g w niggli symmetric keeps = entries_of_short g w symmetric niggli.main keeps
