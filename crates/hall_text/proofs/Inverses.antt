-- Products undo products, where the matrix of each operation has the 12th power I.
--   undone         a product is undone by a product, where each operation is
--   has_inverses   each operation is, where the 12th power of its matrix is I
use Rattle.std.proofs.Common.{◌≡◌, ℕ, zero, suc, List, [], ◌∷◌, ◌++◌, refl, sym, ap, subst, ◌∙◌, arith}
use Rattle.std.specs.Prelude.{ℤ, pos, ◌+ℤ◌}
use Rattle.std.proofs.lemmas.Int.{ints}
use Rattle.ring.specs.Ring.{quoted, var, con, ◌:+◌}
use Rattle.numbers.specs.Residue.{residue}
use Rattle.lists.specs.Increasing.{IsMember}
use Rattle.matrix3.specs.Matrices.{coordinates, vector_of_variables}
use Rattle.matrix3.specs.Matrices as formulas
use Rattle.crystal_spec.specs.declared.Sign.{Sign}
use Rattle.crystal_spec.specs.declared.Sign.TheVariants.{Same}
use Rattle.crystal_spec.specs.Matrices.{Triple, Matrix, product, identity, image, multiple, sum_of, difference}
use Rattle.crystal_spec.specs.Operations.{Operation, IsWithinCell}
use Rattle.crystal_spec.proofs.Identities.{by_triples}
use Rattle.positions.specs.Positions.{origin}
use Rattle.op_group.specs.Composition.{identity_operation}
use Rattle.hall_symbol.specs.Compositions.{both, reduced, then}
use Rattle.hall_symbol.proofs.RotationMatrices.{matrix_power}
use Rattle.hall_text.specs.Products.{product_of, AreAmong, IsProduct}
use Rattle.hall_text.specs.Splits.{pure, Undone, HasInverses}
use Rattle.hall_symbol.proofs.Compositions.{both_same, both_assoc, both_twice, reduces_12, reduced_same, reduced_within, then_composed, then_sign, composed_then, then_within, then_assoc, identity_then, then_identity}
use Rattle.hall_text.proofs.ProductLemmas.{product_of_within, product_within, identity_product, product_then, generator_product}

-- ---- undone products

module _ (gens : List Operation) where
  undone_factors : HasInverses gens → (fs : List Operation) → AreAmong gens fs → Undone gens (product_of fs)
  undone_factors u [] k = record { undo = identity_operation; product = identity_product gens; after = identity_then identity_operation (product_of_within []) }
  undone_factors u (f ∷ fs) k =
      let a = u.each f k.0 in
      let b = undone_factors u fs k.1 in
      record {
        undo = then b.undo a.undo;
        product = product_then gens b.undo a.undo b.product a.product;
        after = sym (then_assoc b.undo a.undo (then f (product_of fs)))
            ∙ ap (then b.undo) (then_assoc a.undo f (product_of fs) ∙ ap (λ (o : Operation). then o (product_of fs)) a.after ∙ identity_then (product_of fs) (product_of_within fs))
            ∙ b.after;
      }

  pub undone : HasInverses gens → (p : Operation) → IsProduct gens p → Undone gens p
  undone u p k = subst (Undone gens) (sym k.is) (undone_factors u k.factors k.among)

  -- what is undone after x and g together is undone after g
  undone_last : (x g : Operation) → IsProduct gens x → Undone gens (then x g) → Undone gens g
  undone_last x g k u = record {
    undo = then u.undo x;
    product = product_then gens u.undo x u.product k;
    after = sym (then_assoc u.undo x g) ∙ u.after;
  }

-- ---- powers

-- k times the operation
abbrev pub power : ℕ → Operation → Operation
power zero g = identity_operation
power (suc k) g = then g (power k g)

power_within : (k : ℕ) (g : Operation) → IsWithinCell 12 (power k g).translation
power_within zero g = product_of_within []
power_within (suc k) g = then_within g (power k g)

-- the last factor apart
power_last : (k : ℕ) (g : Operation) → IsWithinCell 12 g.translation → then (power k g) g ≡ power (suc k) g
power_last zero g w = identity_then g w ∙ sym (then_identity g w)
power_last (suc k) g w = sym (then_assoc g (power k g) g) ∙ ap (then g) (power_last k g w)

power_product : (gens : List Operation) (k : ℕ) (g : Operation) → IsProduct gens g → IsProduct gens (power k g)
power_product gens zero g h = identity_product gens
power_product gens (suc k) g h = product_then gens g (power k g) h (power_product gens k g h)

-- an operation of which a power is the identity is undone
undone_by_power : (gens : List Operation) (k : ℕ) (g : Operation) → IsProduct gens g → power (suc k) g ≡ identity_operation → Undone gens g
undone_by_power gens k g h e = record {
  undo = power k g;
  product = power_product gens k g h;
  after = power_last k g (product_within gens g h) ∙ e;
}

-- ---- powers of translations

-- t + k t, all reduced
add_multiple : (t c : Triple) (k : ℤ) → sum_of (image identity t) (multiple k t) ≡ sum_of (multiple (pos 1 +ℤ k) t) (multiple (pos 12) (record { x = pos 0; y = pos 0; z = pos 0 }))
add_multiple t c k =
    let x = vector_of_variables 0 in
    by_triples (coordinates t ++ k ∷ []) (formulas.sum_of quoted (formulas.image quoted (formulas.scalar quoted (con (pos 1))) x) (formulas.multiple quoted (var 3) x))
    (formulas.sum_of quoted (formulas.multiple quoted (con (pos 1) :+ var 3) x) (formulas.multiple quoted (con (pos 12)) (record { x = con (pos 0); y = con (pos 0); z = con (pos 0) }))) refl

-- t + r where k t = r + 12 c and (k + 1) t = q + 12 d: it is q + 12 (d - c)
added : (t r q c d : Triple) (k : ℤ) → multiple k t ≡ sum_of r (multiple (pos 12) c) → multiple (pos 1 +ℤ k) t ≡ sum_of q (multiple (pos 12) d) → sum_of (image identity t) r ≡ sum_of q (multiple (pos 12) (difference d c))
added t r q c d k e f =
    let x = vector_of_variables 0 in
    let y = vector_of_variables 3 in
    let z = vector_of_variables 6 in
    let u = vector_of_variables 9 in
    by_triples (coordinates t ++ coordinates r ++ coordinates c) (formulas.sum_of quoted (formulas.image quoted (formulas.scalar quoted (con (pos 1))) x) y)
    (formulas.difference quoted (formulas.sum_of quoted x (formulas.sum_of quoted y (formulas.multiple quoted (con (pos 12)) z))) (formulas.multiple quoted (con (pos 12)) z)) refl
    ∙ ap (λ (v : Triple). difference (sum_of t v) (multiple (pos 12) c)) (sym e)
    ∙ by_triples (coordinates t ++ coordinates c ++ k ∷ []) (formulas.difference quoted (formulas.sum_of quoted x (formulas.multiple quoted (var 6) x)) (formulas.multiple quoted (con (pos 12)) y))
    (formulas.difference quoted (formulas.multiple quoted (con (pos 1) :+ var 6) x) (formulas.multiple quoted (con (pos 12)) y)) refl
    ∙ ap (λ (v : Triple). difference v (multiple (pos 12) c)) f
    ∙ by_triples (coordinates q ++ coordinates d ++ coordinates c) (formulas.difference quoted (formulas.sum_of quoted x (formulas.multiple quoted (con (pos 12)) y)) (formulas.multiple quoted (con (pos 12)) z))
    (formulas.sum_of quoted x (formulas.multiple quoted (con (pos 12)) (formulas.difference quoted y z))) refl

no_times : (t : Triple) → reduced (multiple (pos 0) t) ≡ origin
unfolding residue
no_times t = ap reduced (by_triples (coordinates t) (formulas.multiple quoted (con (pos 0)) (vector_of_variables 0)) (record { x = con (pos 0); y = con (pos 0); z = con (pos 0) }) refl)

power_pure : (k : ℕ) (t : Triple) → power k (pure t Same) ≡ pure (reduced (multiple (pos k) t)) Same
power_pure zero t = ap (λ (v : Triple). pure v Same) (sym (no_times t))
power_pure (suc k) t =
    ap (then (pure t Same)) (power_pure k t)
    ∙ sym (composed_then (pure t Same) (pure (reduced (multiple (pos k) t)) Same) (pure (reduced (multiple (pos (suc k)) t)) Same) (record {
      matrix = refl;
      translation = record {
        within = reduced_within (multiple (pos (suc k)) t);
        cells = difference (reduces_12 (multiple (pos (suc k)) t)).cells (reduces_12 (multiple (pos k) t)).cells;
        same = added t (reduced (multiple (pos k) t)) (reduced (multiple (pos (suc k)) t)) (reduces_12 (multiple (pos k) t)).cells (reduces_12 (multiple (pos (suc k)) t)).cells (pos k) (reduces_12 (multiple (pos k) t)).same (ap (λ (n : ℤ). multiple n t) (one_more k) ∙ (reduces_12 (multiple (pos (suc k)) t)).same);
      };
      sign = refl;
    }))
  where
    one_more : (k : ℕ) → pos 1 +ℤ pos k ≡ pos (suc k)
    one_more k = omega (arith, ints)

whole_times : (t : Triple) → reduced (multiple (pos 12) t) ≡ origin
unfolding residue
whole_times t = reduced_same (multiple (pos 12) t) origin t (by_triples (coordinates t) (formulas.multiple quoted (con (pos 12)) (vector_of_variables 0)) (formulas.sum_of quoted (record { x = con (pos 0); y = con (pos 0); z = con (pos 0) }) (formulas.multiple quoted (con (pos 12)) (vector_of_variables 0))) refl)

-- twelve times a translation by twelfths
twelve_times : (t : Triple) → power 12 (pure t Same) ≡ identity_operation
twelve_times t = power_pure 12 t ∙ ap (λ (v : Triple). pure v Same) (whole_times t)

-- ---- powers of matrices and signs

power_matrix : (k : ℕ) (g : Operation) → (power k g).matrix ≡ matrix_power k g.matrix
power_matrix zero g = refl
power_matrix (suc k) g = (then_composed g (power k g)).matrix ∙ ap (λ (w : Matrix). product w g.matrix) (power_matrix k g)

power_sign : (k : ℕ) (g : Operation) → (power (suc (suc k)) g).sign ≡ (power k g).sign
power_sign k g =
    then_sign g (power (suc k) g) ∙ ap (λ (s : Sign). both s g.sign) (then_sign g (power k g))
    ∙ sym (both_assoc (power k g).sign g.sign g.sign) ∙ ap (both (power k g).sign) (both_twice g.sign) ∙ both_same (power k g).sign

twelfth_sign : (g : Operation) → (power 12 g).sign ≡ Same
twelfth_sign g = power_sign 10 g ∙ power_sign 8 g ∙ power_sign 6 g ∙ power_sign 4 g ∙ power_sign 2 g ∙ power_sign 0 g

twelfth_power : (g : Operation) → matrix_power 12 g.matrix ≡ identity → power 12 g ≡ pure (power 12 g).translation Same
twelfth_power g e =
    let m : (power 12 g).matrix ≡ identity = power_matrix 12 g ∙ e in
    let s = twelfth_sign g in
    λ i. record { matrix = m i; translation = (power 12 g).translation; sign = s i }

-- ---- the inverses

undone_operation : (gens : List Operation) (g : Operation) → IsMember g gens → IsWithinCell 12 g.translation → matrix_power 12 g.matrix ≡ identity → Undone gens g
undone_operation gens g m w e =
    let made = generator_product gens g m w in
    let q = twelfth_power g e in
    undone_last gens (power 11 g) g (power_product gens 11 g made)
    (subst (Undone gens) (sym (power_last 11 g w ∙ q))
    (undone_by_power gens 11 (pure (power 12 g).translation Same) (subst (IsProduct gens) q (power_product gens 12 g made)) (twelve_times (power 12 g).translation)))

-- the matrix of each has the 12th power I
pub record HaveTwelfthPowers (gens : List Operation) : Type 0 where
  pub within : (g : Operation) → IsMember g gens → IsWithinCell 12 g.translation
  pub each : (g : Operation) → IsMember g gens → matrix_power 12 g.matrix ≡ identity

pub has_inverses : (gens : List Operation) → HaveTwelfthPowers gens → HasInverses gens
has_inverses gens h = record {
  within = h.within;
  each = λ g m. undone_operation gens g m (h.within g m) (h.each g m);
}
