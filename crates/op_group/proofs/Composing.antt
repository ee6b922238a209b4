-- What doing one operation after the other comes to.
--   composed_position     positions go where the one map and then the other takes them, but for whole cells
--   composed_moment       moments become what the one and then the other makes of them
--   composed_once         there is one such operation
--   composed_associates   of three it does not matter which two are taken first
--   identity_first, identity_next    the identity before or after changes nothing
--   inverse_is            the inverse matrix, with the opposite of the translation part that it turns, undoes an operation
--   inverse_once          there is one operation that undoes it
use Rattle.std.proofs.Common.{◌≡◌, refl, sym, ap, ap₂, ◌∙◌, ℕ, ◌≤◌, [], ◌∷◌, ◌++◌, arith}
use Rattle.std.specs.Prelude.{ℤ, pos, negsuc, ◌*ℤ◌}
use Rattle.std.proofs.lemmas.Int.{ints}
use Rattle.ring.specs.Ring.{int_ops, quoted, var, con, ◌:*◌}
use Rattle.matrix3.specs.Matrices.{entries, coordinates, matrix_of_variables, vector_of_variables}
use Rattle.matrix3.specs.Matrices as formulas
use Rattle.matrix3.specs.Inverse.{IsInverse}
use Rattle.crystal_spec.specs.declared.Sign.{Sign}
use Rattle.crystal_spec.specs.declared.Sign.TheVariants.{Same, Reversed}
use Rattle.crystal_spec.specs.declared.MomentKind.{MomentKind}
use Rattle.crystal_spec.specs.Matrices.{Matrix, Triple, identity, image, multiple, product, sum_of, difference}
use Rattle.crystal_spec.specs.Crystals.{position_after, moment_after}
use Rattle.crystal_spec.specs.Operations.{Operation, IsWithinCell, sign_factor}
use Rattle.crystal_spec.proofs.Identities.{by_integers, by_triples, by_matrices}
use Rattle.crystal_spec.proofs.Isometries.{sign_squared}
use Rattle.crystal_spec.proofs.Moments.{moment_after-product}
use Rattle.op_group.specs.Composition.{identity_operation, IsComposed, IsInverseModulo}
use Rattle.positions.specs.Positions.{IsModulo, modulo}
use Rattle.positions.proofs.Residues.{modulo_once, is_modulo}

-- ---- positions and moments

sum_associates : (u v w : Triple) → sum_of u (sum_of v w) ≡ sum_of (sum_of u v) w
sum_associates u v w =
    let x = vector_of_variables 0 in
    let y = vector_of_variables 3 in
    let z = vector_of_variables 6 in
    by_triples (coordinates u ++ coordinates v ++ coordinates w) (formulas.sum_of quoted x (formulas.sum_of quoted y z)) (formulas.sum_of quoted (formulas.sum_of quoted x y) z) refl

-- v (w p + t) + u = (v w) p + (v t + u)
after_position : (w v : Matrix) (t u p : Triple) → position_after v u (position_after w t p) ≡ sum_of (image (product v w) p) (position_after v u t)
after_position w v t u p =
    let a = matrix_of_variables 0 in
    let b = matrix_of_variables 9 in
    let x = vector_of_variables 18 in
    let y = vector_of_variables 21 in
    let z = vector_of_variables 24 in
    by_triples (entries w ++ entries v ++ coordinates t ++ coordinates u ++ coordinates p)
    (formulas.sum_of quoted (formulas.image quoted b (formulas.sum_of quoted (formulas.image quoted a z) x)) y)
    (formulas.sum_of quoted (formulas.image quoted (formulas.product quoted b a) z) (formulas.sum_of quoted (formulas.image quoted b x) y)) refl

-- the operation takes each position where first the one and then the other takes it, but for the same whole cells
pub composed_position : (n : ℕ) (a b r : Operation) (h : IsComposed n a b r) (p : Triple) →
    position_after b.matrix b.translation (position_after a.matrix a.translation p) ≡ sum_of (position_after r.matrix r.translation p) (multiple (pos n) h.translation.cells)
composed_position n a b r h p =
    after_position a.matrix b.matrix a.translation b.translation p
    ∙ ap (sum_of (image (product b.matrix a.matrix) p)) h.translation.same
    ∙ sum_associates (image (product b.matrix a.matrix) p) r.translation (multiple (pos n) h.translation.cells)
    ∙ ap (λ (m : Matrix). sum_of (sum_of (image m p) r.translation) (multiple (pos n) h.translation.cells)) (sym h.matrix)

-- the operation makes of each moment what first the one and then the other makes of it
pub composed_moment : (kind : MomentKind) (n : ℕ) (a b r : Operation) → IsComposed n a b r → (m : Triple) →
    moment_after kind b.matrix (sign_factor b.sign) (moment_after kind a.matrix (sign_factor a.sign) m) ≡ moment_after kind r.matrix (sign_factor r.sign) m
composed_moment kind n a b r h m =
    moment_after-product kind b.matrix a.matrix (sign_factor b.sign) (sign_factor a.sign) m
    ∙ ap₂ (λ (s : ℤ) (w : Matrix). moment_after kind w s m) (sym h.sign) (sym h.matrix)

-- ---- one operation

sign_of_factor : (s t : Sign) → sign_factor s ≡ sign_factor t → s ≡ t
sign_of_factor Same Same e = refl
sign_of_factor Same Reversed e = absurd (cc e)
sign_of_factor Reversed Same e = absurd (cc e)
sign_of_factor Reversed Reversed e = refl

-- there is one operation that does the one and then the other
pub composed_once : (n : ℕ) (a b q r : Operation) → IsComposed n a b q → IsComposed n a b r → q ≡ r
composed_once n a b q r h k =
    let m = h.matrix ∙ sym k.matrix in
    let t = modulo_once n (position_after b.matrix b.translation a.translation) q.translation r.translation h.translation k.translation in
    let s = sign_of_factor q.sign r.sign (h.sign ∙ sym k.sign) in
    λ i. record { matrix = m i; translation = t i; sign = s i }

-- ---- three operations

product_associates : (a b c : Matrix) → product c (product b a) ≡ product (product c b) a
product_associates a b c =
    let x = matrix_of_variables 0 in
    let y = matrix_of_variables 9 in
    let z = matrix_of_variables 18 in
    by_matrices (entries a ++ entries b ++ entries c) (formulas.product quoted z (formulas.product quoted y x)) (formulas.product quoted (formulas.product quoted z y) x) refl

-- (c b) t + y = ((c b) t + (y + n k)) - n k
add_cells : (u y k : Triple) (n : ℤ) → sum_of u y ≡ difference (sum_of u (sum_of y (multiple n k))) (multiple n k)
add_cells u y k n =
    let x = vector_of_variables 0 in
    let v = vector_of_variables 3 in
    let l = formulas.multiple quoted (var 9) (vector_of_variables 6) in
    by_triples (coordinates u ++ coordinates y ++ coordinates k ++ n ∷ []) (formulas.sum_of quoted x v) (formulas.difference quoted (formulas.sum_of quoted x (formulas.sum_of quoted v l)) l) refl

-- c (x + n j) + z - n k = ((c x + z) + n (c j)) - n k
carry_cells : (c : Matrix) (x z j k : Triple) (n : ℤ) → difference (position_after c z (sum_of x (multiple n j))) (multiple n k) ≡ difference (sum_of (position_after c z x) (multiple n (image c j))) (multiple n k)
carry_cells c x z j k n =
    let m = matrix_of_variables 0 in
    let u = vector_of_variables 9 in
    let v = vector_of_variables 12 in
    let d = vector_of_variables 15 in
    let l = formulas.multiple quoted (var 21) (vector_of_variables 18) in
    by_triples (entries c ++ coordinates x ++ coordinates z ++ coordinates j ++ coordinates k ++ n ∷ [])
    (formulas.difference quoted (formulas.sum_of quoted (formulas.image quoted m (formulas.sum_of quoted u (formulas.multiple quoted (var 21) d))) v) l)
    (formulas.difference quoted (formulas.sum_of quoted (formulas.sum_of quoted (formulas.image quoted m u) v) (formulas.multiple quoted (var 21) (formulas.image quoted m d))) l) refl

-- ((x + n i) + n j) - n k = x + n ((i + j) - k)
gather_cells : (x i j k : Triple) (n : ℤ) → difference (sum_of (sum_of x (multiple n i)) (multiple n j)) (multiple n k) ≡ sum_of x (multiple n (difference (sum_of i j) k))
gather_cells x i j k n =
    let u = vector_of_variables 0 in
    let p = vector_of_variables 3 in
    let q = vector_of_variables 6 in
    let r = vector_of_variables 9 in
    by_triples (coordinates x ++ coordinates i ++ coordinates j ++ coordinates k ++ n ∷ [])
    (formulas.difference quoted (formulas.sum_of quoted (formulas.sum_of quoted u (formulas.multiple quoted (var 12) p)) (formulas.multiple quoted (var 12) q)) (formulas.multiple quoted (var 12) r))
    (formulas.sum_of quoted u (formulas.multiple quoted (var 12) (formulas.difference quoted (formulas.sum_of quoted p q) r))) refl

-- first a and then b and c together is first a and b together and then c
pub composed_associates : (n : ℕ) (a b c ab bc r : Operation) → IsComposed n a b ab → IsComposed n b c bc → IsComposed n ab c r → IsComposed n a bc r
composed_associates n a b c ab bc r f g h = record {
  matrix = h.matrix ∙ ap (product c.matrix) f.matrix ∙ product_associates a.matrix b.matrix c.matrix ∙ ap (λ (m : Matrix). product m a.matrix) (sym g.matrix);
  translation = record {
    within = h.translation.within;
    cells = difference (sum_of h.translation.cells (image c.matrix f.translation.cells)) g.translation.cells;
    same = ap (λ (m : Matrix). position_after m bc.translation a.translation) g.matrix
        ∙ add_cells (image (product c.matrix b.matrix) a.translation) bc.translation g.translation.cells (pos n)
        ∙ ap (λ (v : Triple). difference (sum_of (image (product c.matrix b.matrix) a.translation) v) (multiple (pos n) g.translation.cells)) (sym g.translation.same)
        ∙ ap (λ (v : Triple). difference v (multiple (pos n) g.translation.cells)) (sym (after_position b.matrix c.matrix b.translation c.translation a.translation))
        ∙ ap (λ (v : Triple). difference (position_after c.matrix c.translation v) (multiple (pos n) g.translation.cells)) f.translation.same
        ∙ carry_cells c.matrix ab.translation c.translation f.translation.cells g.translation.cells (pos n)
        ∙ ap (λ (v : Triple). difference (sum_of v (multiple (pos n) (image c.matrix f.translation.cells))) (multiple (pos n) g.translation.cells)) h.translation.same
        ∙ gather_cells r.translation h.translation.cells (image c.matrix f.translation.cells) g.translation.cells (pos n);
  };
  sign = h.sign ∙ ap (λ (s : ℤ). sign_factor c.sign *ℤ s) f.sign ∙ by_integers (sign_factor a.sign ∷ sign_factor b.sign ∷ sign_factor c.sign ∷ []) (var 2 :* (var 1 :* var 0)) ((var 2 :* var 1) :* var 0) refl ∙ ap (λ (s : ℤ). s *ℤ sign_factor a.sign) (sym g.sign);
}

-- ---- the identity

-- the origin
abbrev pub origin : Triple
origin = record { x = pos 0; y = pos 0; z = pos 0 }

-- the identity first changes nothing
pub identity_first : (n : ℕ) (o : Operation) → IsWithinCell n o.translation → IsComposed n identity_operation o o
identity_first n o within = record {
  matrix = by_matrices (entries o.matrix) (matrix_of_variables 0) (formulas.product quoted (matrix_of_variables 0) (formulas.scalar quoted (con (pos 1)))) refl;
  translation = record {
    within = within;
    cells = origin;
    same = by_triples (entries o.matrix ++ coordinates o.translation ++ pos n ∷ [])
        (formulas.sum_of quoted (formulas.image quoted (matrix_of_variables 0) (record { x = con (pos 0); y = con (pos 0); z = con (pos 0) })) (vector_of_variables 9))
        (formulas.sum_of quoted (vector_of_variables 9) (formulas.multiple quoted (var 12) (record { x = con (pos 0); y = con (pos 0); z = con (pos 0) }))) refl;
  };
  sign = by_integers (sign_factor o.sign ∷ []) (var 0) (var 0 :* con (pos 1)) refl;
}

-- the identity next changes nothing
pub identity_next : (n : ℕ) (o : Operation) → IsWithinCell n o.translation → IsComposed n o identity_operation o
identity_next n o within = record {
  matrix = by_matrices (entries o.matrix) (matrix_of_variables 0) (formulas.product quoted (formulas.scalar quoted (con (pos 1))) (matrix_of_variables 0)) refl;
  translation = record {
    within = within;
    cells = origin;
    same = by_triples (coordinates o.translation ++ pos n ∷ [])
        (formulas.sum_of quoted (formulas.image quoted (formulas.scalar quoted (con (pos 1))) (vector_of_variables 0)) (record { x = con (pos 0); y = con (pos 0); z = con (pos 0) }))
        (formulas.sum_of quoted (vector_of_variables 0) (formulas.multiple quoted (var 3) (record { x = con (pos 0); y = con (pos 0); z = con (pos 0) }))) refl;
  };
  sign = by_integers (sign_factor o.sign ∷ []) (var 0) (con (pos 1) :* var 0) refl;
}

-- ---- inverses

-- the origin is within the cell
pub origin_within : (n : ℕ) → 1 ≤ n → IsWithinCell n origin
origin_within n h = record { x = (omega (arith, ints), omega (arith, ints)); y = (omega (arith, ints), omega (arith, ints)); z = (omega (arith, ints), omega (arith, ints)) }

-- x + r = r - (-x)
opposites_differ : (x r : Triple) → sum_of x r ≡ difference r (multiple (negsuc 0) x)
opposites_differ x r =
    let u = vector_of_variables 0 in
    let v = vector_of_variables 3 in
    by_triples (coordinates x ++ coordinates r) (formulas.sum_of quoted u v) (formulas.difference quoted v (formulas.multiple quoted (con (negsuc 0)) u)) refl

-- 0 - x = -x
none_less : (x : Triple) → difference origin x ≡ multiple (negsuc 0) x
none_less x =
    let u = vector_of_variables 0 in
    by_triples (coordinates x) (formulas.difference quoted (record { x = con (pos 0); y = con (pos 0); z = con (pos 0) }) u) (formulas.multiple quoted (con (negsuc 0)) u) refl

-- r - (r + n k) = 0 + n (-k)
cells_left : (r k : Triple) (n : ℤ) → difference r (sum_of r (multiple n k)) ≡ sum_of origin (multiple n (multiple (negsuc 0) k))
cells_left r k n =
    let v = vector_of_variables 0 in
    let l = vector_of_variables 3 in
    by_triples (coordinates r ++ coordinates k ++ n ∷ [])
    (formulas.difference quoted v (formulas.sum_of quoted v (formulas.multiple quoted (var 6) l)))
    (formulas.sum_of quoted (record { x = con (pos 0); y = con (pos 0); z = con (pos 0) }) (formulas.multiple quoted (var 6) (formulas.multiple quoted (con (negsuc 0)) l))) refl

-- w r + t = w ((r + n k) - n k) + t
with_cells : (w : Matrix) (r t k : Triple) (n : ℤ) → position_after w t r ≡ position_after w t (difference (sum_of r (multiple n k)) (multiple n k))
with_cells w r t k n =
    let m = matrix_of_variables 0 in
    let u = vector_of_variables 9 in
    let v = vector_of_variables 12 in
    let l = formulas.multiple quoted (var 18) (vector_of_variables 15) in
    by_triples (entries w ++ coordinates r ++ coordinates t ++ coordinates k ++ n ∷ [])
    (formulas.sum_of quoted (formulas.image quoted m u) v)
    (formulas.sum_of quoted (formulas.image quoted m (formulas.difference quoted (formulas.sum_of quoted u l) l)) v) refl

-- w (-(v t) - n k) + t = (t - (w v) t) + n (-(w k))
turned_twice : (w v : Matrix) (t k : Triple) (n : ℤ) → position_after w t (difference (multiple (negsuc 0) (image v t)) (multiple n k)) ≡ sum_of (difference t (image (product w v) t)) (multiple n (multiple (negsuc 0) (image w k)))
turned_twice w v t k n =
    let a = matrix_of_variables 0 in
    let b = matrix_of_variables 9 in
    let x = vector_of_variables 18 in
    let l = vector_of_variables 21 in
    by_triples (entries w ++ entries v ++ coordinates t ++ coordinates k ++ n ∷ [])
    (formulas.sum_of quoted (formulas.image quoted a (formulas.difference quoted (formulas.multiple quoted (con (negsuc 0)) (formulas.image quoted b x)) (formulas.multiple quoted (var 24) l))) x)
    (formulas.sum_of quoted (formulas.difference quoted x (formulas.image quoted (formulas.product quoted a b) x)) (formulas.multiple quoted (var 24) (formulas.multiple quoted (con (negsuc 0)) (formulas.image quoted a l)))) refl

-- t - I t = 0
nothing_left : (t : Triple) → difference t (image identity t) ≡ origin
nothing_left t =
    let x = vector_of_variables 0 in
    by_triples (coordinates t) (formulas.difference quoted x (formulas.image quoted (formulas.scalar quoted (con (pos 1))) x)) (record { x = con (pos 0); y = con (pos 0); z = con (pos 0) }) refl

-- the inverse matrix, with the opposite of the translation part that it turns and the same sign, undoes an operation
pub inverse_is : (n : ℕ) (a b : Operation) → 1 ≤ n → IsInverse int_ops a.matrix b.matrix → IsModulo n (multiple (negsuc 0) (image b.matrix a.translation)) b.translation → b.sign ≡ a.sign → IsInverseModulo n a b
inverse_is n a b h m f s = record {
  within = f.within;
  after = record {
    matrix = sym m.left;
    translation = record {
      within = origin_within n h;
      cells = multiple (negsuc 0) f.cells;
      same = opposites_differ (image b.matrix a.translation) b.translation ∙ ap (difference b.translation) f.same ∙ cells_left b.translation f.cells (pos n);
    };
    sign = sym (ap (λ (t : Sign). sign_factor t *ℤ sign_factor a.sign) s ∙ sign_squared a.sign);
  };
  before = record {
    matrix = sym m.right;
    translation = record {
      within = origin_within n h;
      cells = multiple (negsuc 0) (image a.matrix f.cells);
      same = with_cells a.matrix b.translation a.translation f.cells (pos n)
          ∙ ap (λ (v : Triple). position_after a.matrix a.translation (difference v (multiple (pos n) f.cells))) (sym f.same)
          ∙ turned_twice a.matrix b.matrix a.translation f.cells (pos n)
          ∙ ap (λ (w : Matrix). sum_of (difference a.translation (image w a.translation)) (multiple (pos n) (multiple (negsuc 0) (image a.matrix f.cells)))) m.right
          ∙ ap (λ (v : Triple). sum_of v (multiple (pos n) (multiple (negsuc 0) (image a.matrix f.cells)))) (nothing_left a.translation);
    };
    sign = sym (ap (λ (t : Sign). sign_factor a.sign *ℤ sign_factor t) s ∙ sign_squared a.sign);
  };
}

-- the same of the translation part that the inverse matrix carries onto the origin
pub inverse_onto : (n : ℕ) (a b : Operation) → 1 ≤ n → IsInverse int_ops a.matrix b.matrix → b.translation ≡ modulo n (difference origin (image b.matrix a.translation)) → b.sign ≡ a.sign → IsInverseModulo n a b
inverse_onto n a b h m e s = inverse_is n a b h m (is_modulo n (multiple (negsuc 0) (image b.matrix a.translation)) b.translation h (e ∙ ap (modulo n) (none_less (image b.matrix a.translation)))) s

-- there is one operation that undoes an operation
pub inverse_once : (n : ℕ) (a b d : Operation) → IsInverseModulo n a b → IsInverseModulo n a d → b ≡ d
inverse_once n a b d h k =
    composed_once n d identity_operation b d
    (composed_associates n d a b identity_operation identity_operation b k.before h.after (identity_first n b h.within))
    (identity_next n d k.within)
