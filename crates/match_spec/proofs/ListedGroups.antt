-- Lists that are groups modulo n, as groups before translation parts are reduced; and the matrix S of a symbol's group.
use Rattle.std.proofs.Common.{◌≡◌, ℕ, ℤ, pos, ◌+ℤ◌, ◌*ℤ◌, neg_ℤ, ◌≤ℤ◌, ◌<ℤ◌, ◌*◌, ◌≤◌, List, [], ◌∷◌, ◌++◌, refl, sym, ◌∙◌, ap, subst, arith}
use Rattle.std.proofs.lemmas.Int.{ints}
use Rattle.ring.specs.Ring.{var, con, quoted, ◌:+◌, ◌:*◌, ◌:-◌}
use Rattle.ring.specs.Size.{AtMost}
use Rattle.ring.proofs.IntOrder.{mul_pos, mul_nonneg, le_by}
use Rattle.lists.specs.Increasing.{IsMember}
use Rattle.matrix3.specs.Matrices.{coordinates, entries, vector_of_variables, matrix_of_variables, EachEntry}
use Rattle.matrix3.specs.Matrices as formulas
use Rattle.crystal_spec.specs.declared.Sign.{Sign}
use Rattle.crystal_spec.specs.declared.Sign.TheVariants.{Same, Reversed}
use Rattle.crystal_spec.specs.Matrices.{Triple, Matrix, product, image, determinant, identity, multiple, sum_of, difference}
use Rattle.crystal_spec.specs.Operations.{Operation, sign_factor}
use Rattle.crystal_spec.proofs.Identities.{by_integers, by_triples, by_matrices}
use Rattle.crystal_spec.specs.Cells.{DiffersByCells}
use Rattle.positions.specs.Positions.{origin, modulo, IsModulo}
use Rattle.basis_spec.specs.Translations.{pure_translation}
use Rattle.basis_spec.specs.StepBases.{InLattice, IsClosed, IsSteps}
use Rattle.basis_spec.specs.Bases.{IsBack}
use Rattle.positions.proofs.Residues.{modulo_away, modulo_within}
use Rattle.basis_spec.proofs.PureTranslations.{translations_same}
use Rattle.basis_spec.proofs.StepLists.{list_lattice}
use Rattle.basis_spec.proofs.StepIndex.{step_back}
use Rattle.basis_spec.proofs.StepEntries.{found_is, back_entries}
use Rattle.op_group.specs.Composition.{IsComposed, identity_operation}
use Rattle.op_group.specs.Groups.{IsGroupModulo}
use Rattle.mag_type.specs.MagneticTypes.{HasOnlyZeroTranslation}
use Rattle.match_spec.specs.Points.{IsWhole}
use Rattle.match_spec.specs.FirstMap.{IsStepMatrix}
use Rattle.match_spec.proofs.Groups.{both, then, Agrees, IsGroup, IsPrimitive}
use Rattle.match_spec.proofs.Wholes.{whole_is, whole_times}
use Rattle.match_spec.proofs.Members.{unique}
use Rattle.match_spec.proofs.Homs.{TakesPure}

-- ---- groups

-- n is at least 1
pub some_cells : (n : ℕ) (os : List Operation) → IsGroupModulo n os → pos 0 <ℤ pos n
some_cells n os g = (g.within_cell identity_operation g.identity).x.1

reduced_whole : (n : ℕ) (p q : Triple) → IsModulo n p q → IsWhole (pos n) (difference p q)
reduced_whole n p q h = record { quotient = h.cells; is = ap (λ v. difference v q) h.same ∙ off q (multiple (pos n) h.cells) }
  where
    off : (q c : Triple) → difference (sum_of q c) q ≡ c
    off q c = by_triples (coordinates q ++ coordinates c) (formulas.difference quoted (formulas.sum_of quoted (vector_of_variables 0) (vector_of_variables 3)) (vector_of_variables 0)) (vector_of_variables 3) refl

differs : (n : ℕ) (p q : Triple) → IsWhole (pos n) (difference p q) → DiffersByCells n p q
differs n p q w = record { cells = w.quotient; is = back_on p q ∙ ap (sum_of q) w.is }
  where
    back_on : (p q : Triple) → p ≡ sum_of q (difference p q)
    back_on p q = by_triples (coordinates p ++ coordinates q) (vector_of_variables 0) (formulas.sum_of quoted (vector_of_variables 3) (formulas.difference quoted (vector_of_variables 0) (vector_of_variables 3))) refl

same_sign : (r s t : Sign) → sign_factor r ≡ sign_factor s *ℤ sign_factor t → both s t ≡ r
same_sign Same Same Same e = refl
same_sign Same Same Reversed e = absurd (cc e)
same_sign Same Reversed Same e = absurd (cc e)
same_sign Same Reversed Reversed e = refl
same_sign Reversed Same Same e = absurd (cc e)
same_sign Reversed Same Reversed e = refl
same_sign Reversed Reversed Same e = refl
same_sign Reversed Reversed Reversed e = absurd (cc e)

composed_agrees : (n : ℕ) (a b r : Operation) → IsComposed n a b r → Agrees (pos n) (then a b) r
composed_agrees n a b r c = record {
  matrix = sym c.matrix;
  translation = reduced_whole n _ _ c.translation;
  sign = same_sign r.sign b.sign a.sign c.sign;
}

itself : (n : ℕ) (p : Operation) → Agrees (pos n) p p
itself n p = record {
  matrix = refl;
  translation = whole_is (pos n) _ _ (none (pos n) p.translation) (whole_times (pos n) origin);
  sign = refl;
}
  where
    none : (n : ℤ) (t : Triple) → difference t t ≡ multiple n origin
    none n t = by_triples (n ∷ coordinates t) (formulas.difference quoted (vector_of_variables 1) (vector_of_variables 1)) (formulas.multiple quoted (var 0) (record { x = con (pos 0); y = con (pos 0); z = con (pos 0) })) refl

-- a listed group is a group
pub group_of : (n : ℕ) (os : List Operation) → IsGroupModulo n os → IsGroup (pos n) os
group_of n os g = record {
  one = record { found = identity_operation; member = g.identity; agrees = itself n identity_operation };
  products = λ p q hp hq. (let r = g.composed p q hp hq in record { found = r.0; member = r.1.0; agrees = composed_agrees n p q r.0 r.1.1 });
  inverses = λ p hp. (let q = g.inverses p hp in (q.0, (q.1.0, record { before = composed_agrees n p q.0 identity_operation q.1.1.after; after = composed_agrees n q.0 p identity_operation q.1.1.before })));
}

-- its only pure translation is 0
pub primitive_of : (n : ℕ) (os : List Operation) → HasOnlyZeroTranslation os → IsPrimitive (pos n) os
primitive_of n os pr p hp em es =
    whole_is (pos n) _ _ (pr p.translation (subst (λ o. IsMember o os) same hp) ∙ none (pos n)) (whole_times (pos n) origin)
  where
    same : p ≡ pure_translation p.translation
    same = λ k. record { matrix = em k; translation = p.translation; sign = es k }

    none : (n : ℤ) → origin ≡ multiple n origin
    none n = by_triples (n ∷ []) (record { x = con (pos 0); y = con (pos 0); z = con (pos 0) }) (formulas.multiple quoted (var 0) (record { x = con (pos 0); y = con (pos 0); z = con (pos 0) })) refl

-- a member of such a group is known by its matrix and sign
pub same_member : (n : ℕ) (os : List Operation) → IsGroupModulo n os → HasOnlyZeroTranslation os → (p q : Operation) → IsMember p os → IsMember q os → p.matrix ≡ q.matrix → p.sign ≡ q.sign → p ≡ q
same_member n os g pr p q hp hq em es =
    let w = unique (pos n) os (group_of n os g) (primitive_of n os pr) p q hp hq em es in
    let et = translations_same n p.translation q.translation (g.within_cell p hp) (g.within_cell q hq) (differs n p.translation q.translation w) in
    (λ k. record { matrix = em k; translation = et k; sign = es k })

-- ---- the symbol's translations

module _ (n : ℕ) (h : List Operation) (g : IsGroupModulo n h) where
  -- the pure translations are closed under sums
  pub closed_of : IsClosed n h
  closed_of = record { zero_in = g.identity; sums = sums }
    where
      ones : product identity identity ≡ identity
      ones = by_matrices [] (formulas.product quoted (formulas.scalar quoted (con (pos 1))) (formulas.scalar quoted (con (pos 1)))) (formulas.scalar quoted (con (pos 1))) refl

      plain : (u : Triple) → image identity u ≡ u
      plain u = by_triples (coordinates u) (formulas.image quoted (formulas.scalar quoted (con (pos 1))) (vector_of_variables 0)) (vector_of_variables 0) refl

      sums : (t u : Triple) → IsMember (pure_translation t) h → IsMember (pure_translation u) h → IsMember (pure_translation (modulo n (sum_of t u))) h
      sums t u ht hu =
          let r = g.composed (pure_translation t) (pure_translation u) ht hu in
          let c = r.1.1 in
          let is : sum_of (image identity t) u ≡ sum_of t u = ap (λ v. sum_of v u) (plain t) in
          let away : DiffersByCells n (sum_of t u) r.0.translation = record { cells = c.translation.cells; is = sym is ∙ c.translation.same } in
          let et : r.0.translation ≡ modulo n (sum_of t u) =
          translations_same n r.0.translation (modulo n (sum_of t u)) c.translation.within (modulo_within n (sum_of t u) (some_cells n h g)) (apart_by n (sum_of t u) r.0.translation (modulo n (sum_of t u)) away (modulo_away n (sum_of t u) (some_cells n h g))) in
          subst (λ o. IsMember o h) (λ k. record { matrix = (c.matrix ∙ ones) k; translation = et k; sign = sym (same_sign r.0.sign Same Same c.sign) k }) r.1.0
        where
          apart_by : (n : ℕ) (p q r : Triple) → DiffersByCells n p q → DiffersByCells n p r → DiffersByCells n q r
          apart_by n p q r a b = record { cells = difference b.cells a.cells; is = over q r a.cells b.cells (pos n) (sym a.is ∙ b.is) }
            where
              over : (q r x y : Triple) (n : ℤ) → sum_of q (multiple n x) ≡ sum_of r (multiple n y) → q ≡ sum_of r (multiple n (difference y x))
              over q r x y n e =
                  by_triples (n ∷ (coordinates q ++ coordinates x)) (vector_of_variables 1) (formulas.difference quoted (formulas.sum_of quoted (vector_of_variables 1) (formulas.multiple quoted (var 0) (vector_of_variables 4))) (formulas.multiple quoted (var 0) (vector_of_variables 4))) refl ∙ (ap (λ v. difference v (multiple n x)) e ∙ by_triples (n ∷ (coordinates r ++ coordinates x ++ coordinates y)) (formulas.difference quoted (formulas.sum_of quoted (vector_of_variables 1) (formulas.multiple quoted (var 0) (vector_of_variables 7))) (formulas.multiple quoted (var 0) (vector_of_variables 4))) (formulas.sum_of quoted (vector_of_variables 1) (formulas.multiple quoted (var 0) (formulas.difference quoted (vector_of_variables 7) (vector_of_variables 4)))) refl)

-- what is used of S
pub record IsStep (h : List Operation) (s : Matrix) : Type 0 where
  pub above : pos 0 <ℤ determinant s
  pub small : EachEntry (AtMost 1728) s
  pub takes_pure : TakesPure s h

-- an index is at most n³
pub index_most : (index : ℕ) (p : ℤ) (c : ℕ) → pos 0 <ℤ p → pos index *ℤ p ≡ pos c → index ≤ c
index_most index p c pp e = as_numbers (le_by (pos index) (pos c) (pos index *ℤ (p +ℤ neg_ℤ (pos 1))) (sym e ∙ split (pos index) p) (mul_nonneg _ _ natural (less p pp)))
  where
    as_numbers : pos index ≤ℤ pos c → index ≤ c
    as_numbers h = omega (arith, ints)

    natural : pos 0 ≤ℤ pos index
    natural = omega (arith, ints)

    less : (p : ℤ) → pos 0 <ℤ p → pos 0 ≤ℤ (p +ℤ neg_ℤ (pos 1))
    less p h = omega (arith, ints)

    split : (i p : ℤ) → i *ℤ p ≡ i +ℤ i *ℤ (p +ℤ neg_ℤ (pos 1))
    split i p = by_integers (i ∷ p ∷ []) (var 0 :* var 1) (var 0 :+ var 0 :* (var 1 :- con (pos 1))) refl

pub index_small : (n : ℕ) (in_it : Triple → Type 0) (index : ℕ) (s fore : Matrix) → IsSteps n in_it index s fore → index ≤ n * (n * n)
index_small n in_it index s fore k =
    index_most index (k.basis.a11 *ℤ (k.basis.a22 *ℤ k.basis.a33)) (n * (n * n)) (mul_pos _ _ k.is_basis.first.positive (mul_pos _ _ k.is_basis.second.positive k.is_basis.third.positive)) (k.index_is ∙ cube)
  where
    cube : pos n *ℤ (pos n *ℤ pos n) ≡ pos (n * (n * n))
    cube = omega (arith, ints)

larger : (index c : ℕ) (z : ℤ) → index ≤ c → AtMost index z → AtMost c z
larger index c z h a = record { size = omega (arith, a.size, h) }

pub step_facts : (h : List Operation) (s : Matrix) → IsGroupModulo 12 h → IsStepMatrix h s → IsStep h s
unfolding InLattice
step_facts h s g k =
    let some = some_cells 12 h g in
    let l = list_lattice 12 h some (closed_of 12 h g) in
    let is = found_is 12 (InLattice 12 h) l some k.index s k.fore k.steps in
    let e = back_entries 12 (InLattice 12 h) l some k.index s k.fore k.steps in
    let few = index_small 12 (InLattice 12 h) k.index s k.fore k.steps in
    let b = subst (IsBack 12 (InLattice 12 h)) is (step_back 12 (InLattice 12 h) l k.steps.basis k.steps.is_basis some) in
    record {
      above = at_least (determinant s) b.determinant_positive;
      small = record {
        a11 = larger _ _ _ few e.a11;
        a12 = larger _ _ _ few e.a12;
        a13 = larger _ _ _ few e.a13;
        a21 = larger _ _ _ few e.a21;
        a22 = larger _ _ _ few e.a22;
        a23 = larger _ _ _ few e.a23;
        a31 = larger _ _ _ few e.a31;
        a32 = larger _ _ _ few e.a32;
        a33 = larger _ _ _ few e.a33;
      };
      takes_pure = λ o ho em es. (let w = (b.exact o.translation).0 (in_it o ho em es) in record { quotient = w.cells; is = w.is });
    }
  where
    at_least : (d : ℤ) → pos 1 ≤ℤ d → pos 0 <ℤ d
    at_least d h = omega (arith, ints)

    in_it : (o : Operation) → IsMember o h → o.matrix ≡ identity → o.sign ≡ Same → InLattice 12 h o.translation
    in_it o ho em es =
        let some = some_cells 12 h g in
        let et = translations_same 12 o.translation (modulo 12 o.translation) (g.within_cell o ho) (modulo_within 12 o.translation some) (modulo_away 12 o.translation some) in
        subst (λ p. IsMember p h) (λ j. record { matrix = em j; translation = et j; sign = es j }) ho
