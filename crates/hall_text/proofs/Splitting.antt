-- The operations that stand for the matrices, each with the products (I, t, s) after it, are all products.
--   difference_product    the difference of two products of one matrix is a product
--   carried_product       an (I, t, s) carried by an operation is a product
--   exactly_split         these are exactly the products
use Rattle.std.proofs.Common.{◌≡◌, List, [], ◌∷◌, ◌++◌, refl, sym, ap, ap₂, subst, subst₂, ◌∙◌}
use Rattle.std.specs.Prelude.{pos, negsuc, ◌*ℤ◌}
use Rattle.ring.specs.Ring.{quoted, con}
use Rattle.lists.specs.Increasing.{IsMember}
use Rattle.matrix3.specs.Matrices.{entries, coordinates, matrix_of_variables, vector_of_variables}
use Rattle.matrix3.specs.Matrices as formulas
use Rattle.crystal_spec.specs.declared.Sign.{Sign}
use Rattle.crystal_spec.specs.declared.Sign.TheVariants.{Same, Reversed}
use Rattle.crystal_spec.specs.Matrices.{Triple, Matrix, product, identity, image, multiple, sum_of, difference}
use Rattle.crystal_spec.specs.Crystals.{position_after}
use Rattle.crystal_spec.specs.Operations.{Operation, IsWithinCell, sign_factor}
use Rattle.crystal_spec.proofs.Identities.{by_triples, by_matrices}
use Rattle.positions.specs.Positions.{origin}
use Rattle.op_group.specs.Composition.{identity_operation, IsComposed}
use Rattle.hall_symbol.specs.Compositions.{both, reduced, then}
use Rattle.hall_text.specs.Products.{product_of, AreAmong, IsProduct}
use Rattle.hall_text.specs.Splits.{pure, HasInverses, IsSplit, Splits}
use Rattle.hall_symbol.proofs.Compositions.{then_sign, both_factor, both_swapped, reduces_12, reduced_same, reduced_within, reduced_is, then_composed, composed_then, then_within, then_assoc, identity_then, then_identity}
use Rattle.hall_text.proofs.ProductLemmas.{product_of_within, product_then, generator_product}
use Rattle.hall_text.proofs.Inverses.{undone}

-- ---- operations by their parts

pub operation_same : {a b : Operation} → a.matrix ≡ b.matrix → a.translation ≡ b.translation → a.sign ≡ b.sign → a ≡ b
operation_same m t s = λ i. record { matrix = m i; translation = t i; sign = s i }

pub one-product : (w : Matrix) → product identity w ≡ w
one-product w = by_matrices (entries w) (formulas.product quoted (formulas.scalar quoted (con (pos 1))) (matrix_of_variables 0)) (matrix_of_variables 0) refl

product-one : (w : Matrix) → product w identity ≡ w
product-one w = by_matrices (entries w) (formulas.product quoted (matrix_of_variables 0) (formulas.scalar quoted (con (pos 1)))) (matrix_of_variables 0) refl

-- ---- differences

-- w u + o where w u + s = 0 + 12 c and o - s = d + 12 e: it is d + 12 (c + e)
undone_difference : (w : Matrix) (u s o d c e : Triple) → position_after w s u ≡ sum_of origin (multiple (pos 12) c) → difference o s ≡ sum_of d (multiple (pos 12) e) → position_after w o u ≡ sum_of d (multiple (pos 12) (sum_of c e))
undone_difference w u s o d c e p q =
    let m = matrix_of_variables 0 in
    let x = vector_of_variables 9 in
    let y = vector_of_variables 12 in
    let z = vector_of_variables 15 in
    by_triples (entries w ++ coordinates u ++ coordinates s ++ coordinates o)
    (formulas.sum_of quoted (formulas.image quoted m x) z)
    (formulas.sum_of quoted (formulas.sum_of quoted (formulas.image quoted m x) y) (formulas.difference quoted z y)) refl
    ∙ ap₂ sum_of p q
    ∙ by_triples (coordinates c ++ coordinates d ++ coordinates e)
    (formulas.sum_of quoted (formulas.sum_of quoted (record { x = con (pos 0); y = con (pos 0); z = con (pos 0) }) (formulas.multiple quoted (con (pos 12)) (vector_of_variables 0))) (formulas.sum_of quoted (vector_of_variables 3) (formulas.multiple quoted (con (pos 12)) (vector_of_variables 6))))
    (formulas.sum_of quoted (vector_of_variables 3) (formulas.multiple quoted (con (pos 12)) (formulas.sum_of quoted (vector_of_variables 0) (vector_of_variables 6)))) refl

-- the sign that undoes a sign is that sign
sign_undone : (u s : Sign) → both s u ≡ Same → u ≡ s
sign_undone Same Same e = refl
sign_undone Same Reversed e = absurd (cc e)
sign_undone Reversed Same e = absurd (cc e)
sign_undone Reversed Reversed e = refl

-- the operation that undoes s, and after it o of the same matrix, is their difference
undone_then : (u s o : Operation) → then u s ≡ identity_operation → o.matrix ≡ s.matrix → then u o ≡ pure (reduced (difference o.translation s.translation)) (both o.sign s.sign)
undone_then u s o e m =
    let k : IsComposed 12 u s identity_operation = subst (IsComposed 12 u s) e (then_composed u s) in
    let r = reduces_12 (difference o.translation s.translation) in
    let back : u.sign ≡ s.sign = sign_undone u.sign s.sign (sym (then_sign u s) ∙ ap (λ (p : Operation). p.sign) e) in
    sym (composed_then u o (pure (reduced (difference o.translation s.translation)) (both o.sign s.sign)) (record {
      matrix = k.matrix ∙ ap (λ (w : Matrix). product w u.matrix) (sym m);
      translation = record {
        within = r.within;
        cells = sum_of k.translation.cells r.cells;
        same = ap (λ (w : Matrix). position_after w o.translation u.translation) m ∙ undone_difference s.matrix u.translation s.translation o.translation (reduced (difference o.translation s.translation)) k.translation.cells r.cells k.translation.same r.same;
      };
      sign = both_factor o.sign s.sign ∙ ap (λ (t : Sign). sign_factor o.sign *ℤ sign_factor t) (sym back);
    }))

pub difference_product : (gens : List Operation) → HasInverses gens → (o s : Operation) → IsProduct gens o → IsProduct gens s → o.matrix ≡ s.matrix → IsProduct gens (pure (reduced (difference o.translation s.translation)) (both o.sign s.sign))
difference_product gens h o s a b m =
    let u = undone gens h s b in
    subst (IsProduct gens) (undone_then u.undo s o u.after m) (product_then gens u.undo o u.product a)

-- ---- sums

-- I t + u = s + 12 c where t + u = s + 12 c
pure_then : (t u : Triple) (r s : Sign) → then (pure t r) (pure u s) ≡ pure (reduced (sum_of t u)) (both r s)
pure_then t u r s =
    let k = reduces_12 (sum_of t u) in
    sym (composed_then (pure t r) (pure u s) (pure (reduced (sum_of t u)) (both r s)) (record {
      matrix = refl;
      translation = record {
        within = k.within;
        cells = k.cells;
        same = by_triples (coordinates t ++ coordinates u) (formulas.sum_of quoted (formulas.image quoted (formulas.scalar quoted (con (pos 1))) (vector_of_variables 0)) (vector_of_variables 3)) (formulas.sum_of quoted (vector_of_variables 0) (vector_of_variables 3)) refl ∙ k.same;
      };
      sign = ap sign_factor (both_swapped r s) ∙ both_factor s r;
    }))

pub sum_product : (gens : List Operation) (t u : Triple) (r s : Sign) → IsProduct gens (pure t r) → IsProduct gens (pure u s) → IsProduct gens (pure (reduced (sum_of t u)) (both r s))
sum_product gens t u r s a b = subst (IsProduct gens) (pure_then t u r s) (product_then gens (pure t r) (pure u s) a b)

-- ---- carried

-- w (u + t) + x where w u + x = 0 + 12 c and w t = d + 12 e, and u' = u + t - 12 f
carried_same : (w : Matrix) (u x t d c e : Triple) → position_after w x u ≡ sum_of origin (multiple (pos 12) c) → image w t ≡ sum_of d (multiple (pos 12) e) → sum_of (image w t) (position_after w x u) ≡ sum_of d (multiple (pos 12) (sum_of c e))
carried_same w u x t d c e p q =
    ap₂ sum_of q p
    ∙ by_triples (coordinates c ++ coordinates d ++ coordinates e)
    (formulas.sum_of quoted (formulas.sum_of quoted (vector_of_variables 3) (formulas.multiple quoted (con (pos 12)) (vector_of_variables 6))) (formulas.sum_of quoted (record { x = con (pos 0); y = con (pos 0); z = con (pos 0) }) (formulas.multiple quoted (con (pos 12)) (vector_of_variables 0))))
    (formulas.sum_of quoted (vector_of_variables 3) (formulas.multiple quoted (con (pos 12)) (formulas.sum_of quoted (vector_of_variables 0) (vector_of_variables 6)))) refl

-- (I, t, s) and after it x is x and after it (I, x t, s), so what undoes x, (I, t, s) and x together are (I, x t, s)
carried_then : (u x : Operation) (t : Triple) (s : Sign) → then u x ≡ identity_operation → then (then u (pure t s)) x ≡ pure (reduced (image x.matrix t)) s
carried_then u x t s e =
    let k : IsComposed 12 u x identity_operation = subst (IsComposed 12 u x) e (then_composed u x) in
    let f = then_composed u (pure t s) in
    let r = reduces_12 (image x.matrix t) in
    let back : u.sign ≡ x.sign = sign_undone u.sign x.sign (sym (then_sign u x) ∙ ap (λ (p : Operation). p.sign) e) in
    sym (composed_then (then u (pure t s)) x (pure (reduced (image x.matrix t)) s) (record {
      matrix = k.matrix ∙ ap (product x.matrix) (sym (f.matrix ∙ one-product u.matrix));
      translation = record {
        within = r.within;
        cells = difference (sum_of k.translation.cells r.cells) (image x.matrix f.translation.cells);
        same = together x.matrix (then u (pure t s)).translation x.translation u.translation t (reduced (image x.matrix t)) f.translation.cells k.translation.cells r.cells f.translation.same k.translation.same r.same;
      };
      sign = signs (then u (pure t s)).sign u.sign x.sign s (then_sign u (pure t s)) back;
    }))
  where
    signs : (q u x s : Sign) → q ≡ both s u → u ≡ x → sign_factor s ≡ sign_factor x *ℤ sign_factor q
    signs q u x s e f = by u s ∙ ap₂ (λ (a b : Sign). sign_factor a *ℤ sign_factor b) f (sym e)
      where
        by : (u s : Sign) → sign_factor s ≡ sign_factor u *ℤ sign_factor (both s u)
        by Same Same = refl
        by Same Reversed = refl
        by Reversed Same = refl
        by Reversed Reversed = refl

    -- I u + t = q + 12 f, w u + x = 0 + 12 c, w t = d + 12 e: w q + x = d + 12 (c + e - w f)
    together : (w : Matrix) (q x u t d f c e : Triple) → position_after identity t u ≡ sum_of q (multiple (pos 12) f) → position_after w x u ≡ sum_of origin (multiple (pos 12) c) → image w t ≡ sum_of d (multiple (pos 12) e) →
        position_after w x q ≡ sum_of d (multiple (pos 12) (difference (sum_of c e) (image w f)))
    together w q x u t d f c e g h i =
        let m = matrix_of_variables 0 in
        let v9 = vector_of_variables 9 in
        let v12 = vector_of_variables 12 in
        let v15 = vector_of_variables 15 in
        let v18 = vector_of_variables 18 in
        by_triples (entries w ++ coordinates q ++ coordinates x ++ coordinates f)
        (formulas.sum_of quoted (formulas.image quoted m v9) v12)
        (formulas.difference quoted (formulas.sum_of quoted (formulas.image quoted m (formulas.sum_of quoted v9 (formulas.multiple quoted (con (pos 12)) v15))) v12) (formulas.multiple quoted (con (pos 12)) (formulas.image quoted m v15))) refl
        ∙ ap (λ (v : Triple). difference (position_after w x v) (multiple (pos 12) (image w f))) (sym g)
        ∙ by_triples (entries w ++ coordinates u ++ coordinates x ++ coordinates t ++ coordinates f)
        (formulas.difference quoted (formulas.sum_of quoted (formulas.image quoted m (formulas.sum_of quoted (formulas.image quoted (formulas.scalar quoted (con (pos 1))) v9) v15)) v12) (formulas.multiple quoted (con (pos 12)) (formulas.image quoted m v18)))
        (formulas.difference quoted (formulas.sum_of quoted (formulas.image quoted m v15) (formulas.sum_of quoted (formulas.image quoted m v9) v12)) (formulas.multiple quoted (con (pos 12)) (formulas.image quoted m v18))) refl
        ∙ ap (λ (v : Triple). difference v (multiple (pos 12) (image w f))) (carried_same w u x t d c e h i)
        ∙ by_triples (entries w ++ coordinates d ++ coordinates c ++ coordinates e ++ coordinates f)
        (formulas.difference quoted (formulas.sum_of quoted v9 (formulas.multiple quoted (con (pos 12)) (formulas.sum_of quoted v12 v15))) (formulas.multiple quoted (con (pos 12)) (formulas.image quoted m v18)))
        (formulas.sum_of quoted v9 (formulas.multiple quoted (con (pos 12)) (formulas.difference quoted (formulas.sum_of quoted v12 v15) (formulas.image quoted m v18)))) refl

pub carried_product : (gens : List Operation) → HasInverses gens → (x : Operation) → IsMember x gens → (t : Triple) (s : Sign) → IsProduct gens (pure t s) → IsProduct gens (pure (reduced (image x.matrix t)) s)
carried_product gens h x m t s a =
    let u = h.each x m in
    subst (IsProduct gens) (carried_then u.undo x t s u.after) (product_then gens (then u.undo (pure t s)) x (product_then gens u.undo (pure t s) u.product a) (generator_product gens x m (h.within x m)))

-- ---- all products

-- the translation part of first o and then x, less that of s, where o - r = p + 12 a, w o + x = q + 12 b,
-- w r + x = v + 12 c and w p = y + 12 d: it is y + (v - s) and whole translations
moved_on : (w : Matrix) (o r x p q v y s a b c d : Triple) → difference o r ≡ sum_of p (multiple (pos 12) a) → position_after w x o ≡ sum_of q (multiple (pos 12) b) → position_after w x r ≡ sum_of v (multiple (pos 12) c) → image w p ≡ sum_of y (multiple (pos 12) d) →
    difference q s ≡ sum_of (sum_of y (difference v s)) (multiple (pos 12) (difference (sum_of (sum_of d c) (image w a)) b))
moved_on w o r x p q v y s a b c d e f g h =
    let m = matrix_of_variables 0 in
    let u9 = vector_of_variables 9 in
    let u12 = vector_of_variables 12 in
    let u15 = vector_of_variables 15 in
    let u18 = vector_of_variables 18 in
    let u21 = vector_of_variables 21 in
    let twelve = con (pos 12) in
    by_triples (entries w ++ coordinates q ++ coordinates s ++ coordinates b)
    (formulas.difference quoted u9 u12)
    (formulas.difference quoted (formulas.difference quoted (formulas.sum_of quoted u9 (formulas.multiple quoted twelve u15)) u12) (formulas.multiple quoted twelve u15)) refl
    ∙ ap (λ (z : Triple). difference (difference z s) (multiple (pos 12) b)) (sym f)
    ∙ by_triples (entries w ++ coordinates o ++ coordinates r ++ coordinates x ++ coordinates s ++ coordinates b)
    (formulas.difference quoted (formulas.difference quoted (formulas.sum_of quoted (formulas.image quoted m u9) u15) u18) (formulas.multiple quoted twelve u21))
    (formulas.difference quoted (formulas.difference quoted (formulas.sum_of quoted (formulas.image quoted m (formulas.difference quoted u9 u12)) (formulas.sum_of quoted (formulas.image quoted m u12) u15)) u18) (formulas.multiple quoted twelve u21)) refl
    ∙ ap₂ (λ (z t : Triple). difference (difference (sum_of (image w z) t) s) (multiple (pos 12) b)) e g
    ∙ by_triples (entries w ++ coordinates p ++ coordinates a ++ coordinates v ++ coordinates c ++ coordinates s ++ coordinates b)
    (formulas.difference quoted (formulas.difference quoted (formulas.sum_of quoted (formulas.image quoted m (formulas.sum_of quoted u9 (formulas.multiple quoted twelve u12))) (formulas.sum_of quoted u15 (formulas.multiple quoted twelve u18))) u21) (formulas.multiple quoted twelve (vector_of_variables 24)))
    (formulas.difference quoted (formulas.difference quoted (formulas.sum_of quoted (formulas.sum_of quoted (formulas.image quoted m u9) (formulas.multiple quoted twelve (formulas.image quoted m u12))) (formulas.sum_of quoted u15 (formulas.multiple quoted twelve u18))) u21) (formulas.multiple quoted twelve (vector_of_variables 24))) refl
    ∙ ap (λ (z : Triple). difference (difference (sum_of (sum_of z (multiple (pos 12) (image w a))) (sum_of v (multiple (pos 12) c))) s) (multiple (pos 12) b)) h
    ∙ by_triples (coordinates y ++ coordinates d ++ coordinates (image w a) ++ coordinates v ++ coordinates c ++ coordinates s ++ coordinates b)
    (formulas.difference quoted (formulas.difference quoted (formulas.sum_of quoted (formulas.sum_of quoted (formulas.sum_of quoted (vector_of_variables 0) (formulas.multiple quoted twelve (vector_of_variables 3))) (formulas.multiple quoted twelve (vector_of_variables 6))) (formulas.sum_of quoted u9 (formulas.multiple quoted twelve u12))) u15) (formulas.multiple quoted twelve u18))
    (formulas.sum_of quoted (formulas.sum_of quoted (vector_of_variables 0) (formulas.difference quoted u9 u15)) (formulas.multiple quoted twelve (formulas.difference quoted (formulas.sum_of quoted (formulas.sum_of quoted (vector_of_variables 3) u12) (vector_of_variables 6)) u18))) refl

-- the signs: first o and then x, and s, where o is r and p
signs_moved : (o r x s p q v : Sign) → p ≡ both o r → q ≡ both x o → v ≡ both x r → both p (both v s) ≡ both q s
signs_moved o r x s p q v e f g =
    ap₂ (λ (a b : Sign). both a (both b s)) e g ∙ by o r x s ∙ ap (λ (a : Sign). both a s) (sym f)
  where
    by : (o r x s : Sign) → both (both o r) (both (both x r) s) ≡ both (both x o) s
    by Same Same x s = ap (λ (a : Sign). both a s) refl
    by Same Reversed Same Same = refl
    by Same Reversed Same Reversed = refl
    by Same Reversed Reversed Same = refl
    by Same Reversed Reversed Reversed = refl
    by Reversed Same Same Same = refl
    by Reversed Same Same Reversed = refl
    by Reversed Same Reversed Same = refl
    by Reversed Same Reversed Reversed = refl
    by Reversed Reversed Same Same = refl
    by Reversed Reversed Same Reversed = refl
    by Reversed Reversed Reversed Same = refl
    by Reversed Reversed Reversed Reversed = refl

module _ (gens rs : List Operation) (T : Triple → Sign → Type 0) (c : IsSplit gens rs T) where
  splits_next : (o x : Operation) → IsMember x gens → Splits rs T o → Splits rs T (then o x)
  splits_next o x m h =
      let r = h.rep in
      let k = c.step r x h.member m in
      let f = then_composed o x in
      let g = then_composed r x in
      let p = reduces_12 (difference o.translation r.translation) in
      let y = reduces_12 (image x.matrix (reduced (difference o.translation r.translation))) in
      let turned : T (reduced (image x.matrix (reduced (difference o.translation r.translation)))) (both o.sign r.sign) = c.turns x m (reduced (difference o.translation r.translation)) (both o.sign r.sign) p.within h.pure_part in
      let added = k.adds (reduced (image x.matrix (reduced (difference o.translation r.translation)))) (both o.sign r.sign) y.within turned in
      record {
        rep = k.rep;
        member = k.member;
        matrix = f.matrix ∙ ap (product x.matrix) h.matrix ∙ sym g.matrix ∙ k.matrix;
        pure_part = subst₂ T
            (sym (reduced_same (difference (then o x).translation k.rep.translation) (sum_of (reduced (image x.matrix (reduced (difference o.translation r.translation)))) (difference (then r x).translation k.rep.translation)) (difference (sum_of (sum_of y.cells g.translation.cells) (image x.matrix p.cells)) f.translation.cells) (moved_on x.matrix o.translation r.translation x.translation (reduced (difference o.translation r.translation)) (then o x).translation (then r x).translation (reduced (image x.matrix (reduced (difference o.translation r.translation)))) k.rep.translation p.cells f.translation.cells g.translation.cells y.cells p.same f.translation.same g.translation.same y.same)))
            (signs_moved o.sign r.sign x.sign k.rep.sign (both o.sign r.sign) (then o x).sign (then r x).sign refl (then_sign o x) (then_sign r x))
            added;
      }

  splits_all : (fs : List Operation) → AreAmong gens fs → (o : Operation) → IsWithinCell 12 o.translation → Splits rs T o → Splits rs T (then o (product_of fs))
  splits_all [] k o w s = subst (Splits rs T) (sym (then_identity o w)) s
  splits_all (x ∷ fs) k o w s = subst (Splits rs T) (sym (then_assoc o x (product_of fs))) (splits_all fs k.1 (then o x) (then_within o x) (splits_next o x k.0 s))

  identity_splits : Splits rs T identity_operation
  identity_splits = record {
    rep = identity_operation;
    member = c.one;
    matrix = refl;
    pure_part = subst (λ (t : Triple). T t Same) (sym nothing) c.zero;
  }
    where
      nothing : reduced (difference origin origin) ≡ origin
      nothing = reduced_is origin (product_of_within [])

  pub product_splits : (o : Operation) → IsProduct gens o → Splits rs T o
  product_splits o k =
      subst (Splits rs T) (identity_then (product_of k.factors) (product_of_within k.factors) ∙ sym k.is) (splits_all k.factors k.among identity_operation (product_of_within []) identity_splits)

  -- s and after it the difference of o and s is o
  joined : (o s : Operation) → IsWithinCell 12 o.translation → o.matrix ≡ s.matrix → o ≡ then s (pure (reduced (difference o.translation s.translation)) (both o.sign s.sign))
  joined o s w m =
      let r = reduces_12 (difference o.translation s.translation) in
      composed_then s (pure (reduced (difference o.translation s.translation)) (both o.sign s.sign)) o (record {
        matrix = m ∙ sym (one-product s.matrix);
        translation = record { within = w; cells = multiple (negsuc 0) r.cells; same = back o.translation s.translation (reduced (difference o.translation s.translation)) r.cells r.same };
        sign = signs o.sign s.sign;
      })
    where
      back : (o s d e : Triple) → difference o s ≡ sum_of d (multiple (pos 12) e) → position_after identity d s ≡ sum_of o (multiple (pos 12) (multiple (negsuc 0) e))
      back o s d e h =
          by_triples (coordinates s ++ coordinates d ++ coordinates e) (formulas.sum_of quoted (formulas.image quoted (formulas.scalar quoted (con (pos 1))) (vector_of_variables 0)) (vector_of_variables 3))
          (formulas.difference quoted (formulas.sum_of quoted (vector_of_variables 0) (formulas.sum_of quoted (vector_of_variables 3) (formulas.multiple quoted (con (pos 12)) (vector_of_variables 6)))) (formulas.multiple quoted (con (pos 12)) (vector_of_variables 6))) refl
          ∙ ap (λ (v : Triple). difference (sum_of s v) (multiple (pos 12) e)) (sym h)
          ∙ by_triples (coordinates o ++ coordinates s ++ coordinates e) (formulas.difference quoted (formulas.sum_of quoted (vector_of_variables 3) (formulas.difference quoted (vector_of_variables 0) (vector_of_variables 3))) (formulas.multiple quoted (con (pos 12)) (vector_of_variables 6)))
          (formulas.sum_of quoted (vector_of_variables 0) (formulas.multiple quoted (con (pos 12)) (formulas.multiple quoted (con (negsuc 0)) (vector_of_variables 6)))) refl

      signs : (o s : Sign) → sign_factor o ≡ sign_factor (both o s) *ℤ sign_factor s
      signs Same Same = refl
      signs Same Reversed = refl
      signs Reversed Same = refl
      signs Reversed Reversed = refl

  pub splits_product : (o : Operation) → IsWithinCell 12 o.translation → Splits rs T o → IsProduct gens o
  splits_product o w h =
      subst (IsProduct gens) (sym (joined o h.rep w h.matrix))
      (product_then gens h.rep (pure (reduced (difference o.translation h.rep.translation)) (both o.sign h.rep.sign)) (c.rs_made.each h.rep h.member) (c.pure_made (reduced (difference o.translation h.rep.translation)) (both o.sign h.rep.sign) (reduced_within (difference o.translation h.rep.translation)) h.pure_part))
