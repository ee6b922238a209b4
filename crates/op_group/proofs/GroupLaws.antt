-- All symmetry operations of a crystal are a group modulo whole cells.
--   composed_member, inverse_member      what is composed of members of a group, or undoes one, is a member
--   composition n a b, composition_is    the operation that does a and after it b
--   inversion n a, inversion_is          the operation that undoes a, where the determinant has the square 1
--   keeps_composed, keeps_inverse        where operations keep a crystal, so do these
--   group_of_all, group_of_same          the list of all symmetry operations is a group, and so is that of sign +1
use Rattle.std.proofs.Common.{◌≡◌, refl, sym, ap, ap₂, subst, ◌∙◌, ℕ, ◌≤◌, [], ◌∷◌, ◌++◌, List}
use Rattle.std.specs.Prelude.{ℤ, pos, negsuc, ◌*ℤ◌}
use Rattle.ring.specs.Ring.{int_ops, Expr, quoted, var, con, ◌:*◌}
use Rattle.lists.specs.Increasing.{IsMember}
use Rattle.matrix3.specs.Matrices.{entries, coordinates, matrix_of_variables, vector_of_variables, matrix_map, vector_map}
use Rattle.matrix3.specs.Matrices as formulas
use Rattle.matrix3.specs.Inverse.{IsInverse}
use Rattle.crystal_spec.specs.declared.Sign.{Sign}
use Rattle.crystal_spec.specs.declared.Sign.TheVariants.{Same, Reversed}
use Rattle.crystal_spec.specs.Matrices.{Matrix, Triple, determinant, adjugate, identity, image, multiple, product, transposed, sum_of}
use Rattle.crystal_spec.specs.Crystals.{Structure, IsPositive, Occupied, KeepsMetric, Keeps, position_after, moment_after}
use Rattle.crystal_spec.specs.Operations.{Operation, IsSymmetryOperation, ListsAll, ListsAllSame, sign_factor}
use Rattle.crystal_spec.proofs.Identities.{by_triples, by_matrices}
use Rattle.crystal_spec.proofs.Isometries.{determinant-isometry}
use Rattle.crystal_spec.proofs.Moments.{moment_after-identity}
use Rattle.crystal_spec.proofs.Keeping.{two_cells}
use Rattle.op_group.specs.Composition.{identity_operation, IsComposed, IsInverseModulo}
use Rattle.op_group.specs.Groups.{IsGroupModulo}
use Rattle.positions.specs.Positions.{modulo}
use Rattle.positions.proofs.Residues.{is_modulo}
use Rattle.op_group.proofs.Composing.{composed_position, composed_moment, composed_once, origin_within, inverse_is, inverse_once}

-- ---- members of a group

-- what does two members of a group one after the other is a member
pub composed_member : (n : ℕ) (os : List Operation) → IsGroupModulo n os → (a b r : Operation) → IsMember a os → IsMember b os → IsComposed n a b r → IsMember r os
composed_member n os g a b r j k h =
    let q = g.composed a b j k in
    subst (λ (o : Operation). IsMember o os) (composed_once n a b q.0 r q.1.1 h) q.1.0

-- what undoes a member is a member
pub inverse_member : (n : ℕ) (os : List Operation) → IsGroupModulo n os → (a b : Operation) → IsMember a os → IsInverseModulo n a b → IsMember b os
inverse_member n os g a b j h =
    let q = g.inverses a j in
    subst (λ (o : Operation). IsMember o os) (inverse_once n a q.0 b q.1.1 h) q.1.0

-- ---- that there are such operations

sign_product : Sign → Sign → Sign
sign_product s Same = s
sign_product Same Reversed = Reversed
sign_product Reversed Reversed = Same

sign_product_is : (s t : Sign) → sign_factor (sign_product s t) ≡ sign_factor t *ℤ sign_factor s
unfolding sign_product
sign_product_is Same Same = refl
sign_product_is Reversed Same = refl
sign_product_is Same Reversed = refl
sign_product_is Reversed Reversed = refl

-- the operation that does the one and after it the other
pub composition : ℕ → Operation → Operation → Operation
composition n a b = record { matrix = product b.matrix a.matrix; translation = modulo n (position_after b.matrix b.translation a.translation); sign = sign_product a.sign b.sign }

pub composition_is : (n : ℕ) (a b : Operation) → 1 ≤ n → IsComposed n a b (composition n a b)
unfolding composition
composition_is n a b h = record { matrix = refl; translation = is_modulo n (position_after b.matrix b.translation a.translation) _ h refl; sign = sign_product_is a.sign b.sign }

-- the adjugate times the determinant
abbrev inverse_matrix : Matrix → Matrix
inverse_matrix w = matrix_map (λ (x : ℤ). x *ℤ determinant w) (adjugate w)

-- it is the inverse, where the determinant has the square 1
inverse_matrix_is : (w : Matrix) → determinant w *ℤ determinant w ≡ pos 1 → IsInverse int_ops w (inverse_matrix w)
inverse_matrix_is w one =
    let x = matrix_of_variables 0 in
    let h = formulas.determinant quoted x in
    let y = matrix_map (λ (e : Expr). e :* h) (formulas.adjugate quoted x) in
    record {
      left = by_matrices (entries w) (formulas.product quoted y x) (formulas.scalar quoted (h :* h)) refl ∙ ap (formulas.scalar int_ops) one;
      right = by_matrices (entries w) (formulas.product quoted x y) (formulas.scalar quoted (h :* h)) refl ∙ ap (formulas.scalar int_ops) one;
    }

-- the operation that undoes this one
pub inversion : ℕ → Operation → Operation
inversion n a = record { matrix = inverse_matrix a.matrix; translation = modulo n (multiple (negsuc 0) (image (inverse_matrix a.matrix) a.translation)); sign = a.sign }

pub inversion_is : (n : ℕ) (a : Operation) → 1 ≤ n → determinant a.matrix *ℤ determinant a.matrix ≡ pos 1 → IsInverseModulo n a (inversion n a)
unfolding inversion
inversion_is n a h one =
    inverse_is n a (record { matrix = inverse_matrix a.matrix; translation = modulo n (multiple (negsuc 0) (image (inverse_matrix a.matrix) a.translation)); sign = a.sign }) h
    (inverse_matrix_is a.matrix one)
    (is_modulo n (multiple (negsuc 0) (image (inverse_matrix a.matrix) a.translation)) _ h refl) refl

-- ---- whole cells do not matter

take_cells : (p k : Triple) (n : ℤ) → p ≡ sum_of (sum_of p (multiple n k)) (multiple n (multiple (negsuc 0) k))
take_cells p k n =
    let x = vector_of_variables 0 in
    let y = vector_of_variables 3 in
    by_triples (coordinates p ++ coordinates k ++ n ∷ []) x (formulas.sum_of quoted (formulas.sum_of quoted x (formulas.multiple quoted (var 6) y)) (formulas.multiple quoted (var 6) (formulas.multiple quoted (con (negsuc 0)) y))) refl

farther : (c : Structure) (s : ℕ) (p k m : Triple) → Occupied c s p m → Occupied c s (sum_of p (multiple (pos c.n) k)) m
farther c s p k m o = record {
  atom = o.atom;
  of_cell = o.of_cell;
  same_species = o.same_species;
  same_moment = o.same_moment;
  cells = sum_of o.cells k;
  same_position = ap (λ (v : Triple). sum_of v (multiple (pos c.n) k)) o.same_position ∙ two_cells o.atom.position o.cells k (pos c.n);
}

nearer : (c : Structure) (s : ℕ) (p k m : Triple) → Occupied c s (sum_of p (multiple (pos c.n) k)) m → Occupied c s p m
nearer c s p k m o =
    subst (λ (v : Triple). Occupied c s v m) (sym (take_cells p k (pos c.n))) (farther c s (sum_of p (multiple (pos c.n) k)) (multiple (negsuc 0) k) m o)

-- ---- what keeps a crystal

abbrev KeepsBy : Structure → Operation → Type 0
KeepsBy c o = Keeps c o.matrix o.translation (sign_factor o.sign)

-- (b a)ᵀ g (b a) = aᵀ (bᵀ g b) a
metric_twice : (g a b : Matrix) → product (transposed (product b a)) (product g (product b a)) ≡ product (transposed a) (product (product (transposed b) (product g b)) a)
metric_twice g a b =
    let x = matrix_of_variables 0 in
    let y = matrix_of_variables 9 in
    let z = matrix_of_variables 18 in
    by_matrices (entries g ++ entries a ++ entries b)
    (formulas.product quoted (formulas.transposed (formulas.product quoted z y)) (formulas.product quoted x (formulas.product quoted z y)))
    (formulas.product quoted (formulas.transposed y) (formulas.product quoted (formulas.product quoted (formulas.transposed z) (formulas.product quoted x z)) y)) refl

-- two isometries, one after the other, are one
metric_composed : (g a b : Matrix) → KeepsMetric g a → KeepsMetric g b → KeepsMetric g (product b a)
metric_composed g a b h k = metric_twice g a b ∙ ap (λ (m : Matrix). product (transposed a) (product m a)) k ∙ h

-- where two operations keep a crystal, so does the one that does both
pub keeps_composed : (c : Structure) (a b r : Operation) → IsComposed c.n a b r → KeepsBy c a → KeepsBy c b → KeepsBy c r
keeps_composed c a b r h j k = record {
  metric = subst (KeepsMetric c.metric) (sym h.matrix) (metric_composed c.metric a.matrix b.matrix j.metric k.metric);
  crystal = λ s p m. (
    (λ o. nearer c s (position_after r.matrix r.translation p) h.translation.cells (moment_after c.kind r.matrix (sign_factor r.sign) m)
        (subst (λ (v : Triple). Occupied c s v (moment_after c.kind r.matrix (sign_factor r.sign) m)) (composed_position c.n a b r h p)
        (subst (λ (v : Triple). Occupied c s (position_after b.matrix b.translation (position_after a.matrix a.translation p)) v) (composed_moment c.kind c.n a b r h m)
        ((k.crystal s (position_after a.matrix a.translation p) (moment_after c.kind a.matrix (sign_factor a.sign) m)).0 ((j.crystal s p m).0 o))))),
    (λ o. (j.crystal s p m).1 ((k.crystal s (position_after a.matrix a.translation p) (moment_after c.kind a.matrix (sign_factor a.sign) m)).1
        (subst (λ (v : Triple). Occupied c s (position_after b.matrix b.translation (position_after a.matrix a.translation p)) v) (sym (composed_moment c.kind c.n a b r h m))
        (subst (λ (v : Triple). Occupied c s v (moment_after c.kind r.matrix (sign_factor r.sign) m)) (sym (composed_position c.n a b r h p))
        (farther c s (position_after r.matrix r.translation p) h.translation.cells (moment_after c.kind r.matrix (sign_factor r.sign) m) o))))),
  );
}

-- ---- the identity

stays : (p : Triple) → position_after identity (record { x = pos 0; y = pos 0; z = pos 0 }) p ≡ p
stays p =
    let x = vector_of_variables 0 in
    by_triples (coordinates p) (formulas.sum_of quoted (formulas.image quoted (formulas.scalar quoted (con (pos 1))) x) (record { x = con (pos 0); y = con (pos 0); z = con (pos 0) })) x refl

metric_stays : (g : Matrix) → KeepsMetric g identity
metric_stays g =
    let x = matrix_of_variables 0 in
    let i = formulas.scalar quoted (con (pos 1)) in
    by_matrices (entries g) (formulas.product quoted (formulas.transposed i) (formulas.product quoted x i)) x refl

keeps_identity : (c : Structure) → KeepsBy c identity_operation
keeps_identity c = record {
  metric = metric_stays c.metric;
  crystal = λ s p m. (
    (λ o. subst (λ (v : Triple). Occupied c s v (moment_after c.kind identity (pos 1) m)) (sym (stays p)) (subst (Occupied c s p) (sym (moment_after-identity c.kind m)) o)),
    (λ o. subst (Occupied c s p) (moment_after-identity c.kind m) (subst (λ (v : Triple). Occupied c s v (moment_after c.kind identity (pos 1) m)) (stays p) o)),
  );
}

-- ---- inverses

-- an isometry's inverse is one
metric_inverse : (g a b : Matrix) → product a b ≡ identity → KeepsMetric g a → KeepsMetric g b
metric_inverse g a b e k =
    ap (λ (m : Matrix). product (transposed b) (product m b)) (sym k) ∙ sym (metric_twice g b a) ∙ ap (λ (m : Matrix). product (transposed m) (product g m)) e ∙ metric_stays g

-- where an operation keeps a crystal, so does the one that undoes it
pub keeps_inverse : (c : Structure) (a b : Operation) → IsInverseModulo c.n a b → KeepsBy c a → KeepsBy c b
keeps_inverse c a b h k = record {
  metric = metric_inverse c.metric a.matrix b.matrix (sym h.before.matrix) k.metric;
  crystal = λ s p m. ((λ o. (k.crystal s (position_after b.matrix b.translation p) (moment_after c.kind b.matrix (sign_factor b.sign) m)).1 (there s p m o)), (λ o. back s p m ((k.crystal s (position_after b.matrix b.translation p) (moment_after c.kind b.matrix (sign_factor b.sign) m)).0 o)));
}
  where
    where_to : (p : Triple) → position_after a.matrix a.translation (position_after b.matrix b.translation p) ≡ sum_of p (multiple (pos c.n) h.before.translation.cells)
    where_to p = composed_position c.n b a identity_operation h.before p ∙ ap (λ (v : Triple). sum_of v (multiple (pos c.n) h.before.translation.cells)) (stays p)

    what : (m : Triple) → moment_after c.kind a.matrix (sign_factor a.sign) (moment_after c.kind b.matrix (sign_factor b.sign) m) ≡ m
    what m = composed_moment c.kind c.n b a identity_operation h.before m ∙ moment_after-identity c.kind m

    there : (s : ℕ) (p m : Triple) → Occupied c s p m → Occupied c s (position_after a.matrix a.translation (position_after b.matrix b.translation p)) (moment_after c.kind a.matrix (sign_factor a.sign) (moment_after c.kind b.matrix (sign_factor b.sign) m))
    there s p m o =
        subst (λ (v : Triple). Occupied c s v (moment_after c.kind a.matrix (sign_factor a.sign) (moment_after c.kind b.matrix (sign_factor b.sign) m))) (sym (where_to p))
        (subst (Occupied c s (sum_of p (multiple (pos c.n) h.before.translation.cells))) (sym (what m)) (farther c s p h.before.translation.cells m o))

    back : (s : ℕ) (p m : Triple) → Occupied c s (position_after a.matrix a.translation (position_after b.matrix b.translation p)) (moment_after c.kind a.matrix (sign_factor a.sign) (moment_after c.kind b.matrix (sign_factor b.sign) m)) → Occupied c s p m
    back s p m o =
        nearer c s p h.before.translation.cells m
        (subst (Occupied c s (sum_of p (multiple (pos c.n) h.before.translation.cells))) (what m)
        (subst (λ (v : Triple). Occupied c s v (moment_after c.kind a.matrix (sign_factor a.sign) (moment_after c.kind b.matrix (sign_factor b.sign) m))) (where_to p) o))

-- ---- the lists of all operations, and of all that do not reverse time

-- the sign of what does both, or undoes one
sign_of_composition : (n : ℕ) (a b : Operation) → a.sign ≡ Same → b.sign ≡ Same → (composition n a b).sign ≡ Same
unfolding composition sign_product
sign_of_composition n a b p q = ap₂ sign_product p q

sign_of_inversion : (n : ℕ) (a : Operation) → a.sign ≡ Same → (inversion n a).sign ≡ Same
unfolding inversion
sign_of_inversion n a p = p

module _ (c : Structure) (positive : IsPositive c.metric) (h : 1 ≤ c.n) where
  identity_symmetry : IsSymmetryOperation c identity_operation
  identity_symmetry = record { translation = origin_within c.n h; keeps = keeps_identity c }

  composed_symmetry : (a b : Operation) → IsSymmetryOperation c a → IsSymmetryOperation c b → IsSymmetryOperation c (composition c.n a b)
  composed_symmetry a b j k =
      let r = composition_is c.n a b h in
      record { translation = r.translation.within; keeps = keeps_composed c a b (composition c.n a b) r j.keeps k.keeps }

  undone : (a : Operation) → IsSymmetryOperation c a → IsInverseModulo c.n a (inversion c.n a)
  undone a j = inversion_is c.n a h (determinant-isometry c.metric a.matrix positive j.keeps.metric)

  inverse_symmetry : (a : Operation) → IsSymmetryOperation c a → IsSymmetryOperation c (inversion c.n a)
  inverse_symmetry a j =
      let r = undone a j in
      record { translation = r.within; keeps = keeps_inverse c a (inversion c.n a) r j.keeps }

  -- the symmetry operations of a crystal are a group modulo whole cells
  pub group_of_all : (os : List Operation) → ListsAll c os → IsGroupModulo c.n os
  group_of_all os all = record {
    within_cell = λ o m. ((all.exact o).0 m).translation;
    identity = (all.exact identity_operation).1 identity_symmetry;
    composed = λ a b j k. (composition c.n a b, ((all.exact (composition c.n a b)).1 (composed_symmetry a b ((all.exact a).0 j) ((all.exact b).0 k)), composition_is c.n a b h));
    inverses = λ a j. (inversion c.n a, ((all.exact (inversion c.n a)).1 (inverse_symmetry a ((all.exact a).0 j)), undone a ((all.exact a).0 j)));
  }

  -- so are those that do not reverse time
  pub group_of_same : (os : List Operation) → ListsAllSame c os → IsGroupModulo c.n os
  group_of_same os same = record {
    within_cell = λ o m. ((same.exact o).0 m).0.translation;
    identity = (same.exact identity_operation).1 (identity_symmetry, refl);
    composed = λ a b j k. let p = (same.exact a).0 j in
        let q = (same.exact b).0 k in
        (composition c.n a b, ((same.exact (composition c.n a b)).1 (composed_symmetry a b p.0 q.0, sign_of_composition c.n a b p.1 q.1), composition_is c.n a b h));
    inverses = λ a j. let p = (same.exact a).0 j in
        (inversion c.n a, ((same.exact (inversion c.n a)).1 (inverse_symmetry a p.0, sign_of_inversion c.n a p.1), undone a p.0));
  }
