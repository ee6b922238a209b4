-- A positive metric tensor is definite: no vector but 0 has a squared length of at most 0.
--   IsZero x y z          the three coordinates are 0
--   IsDefinite s          only 0 has a squared length of at most 0
--   definite              a metric with three positive leading minors is definite
--   squared_length-carried, definite-congruent    a basis change keeps squared lengths, and definiteness
--   aa_positive ..        squared lengths of the axes are positive
--   bc_most ..            twice a scalar product is at most the sum of the two squared lengths
--
-- Definiteness is what passes from one basis to the next, since the inverse basis change exists: the leading minors
-- themselves are not invariants. That a positive metric is definite is Cauchy's identity: with D = aa bb - ab²,
-- E = aa bc - ab ac, h the determinant and q the squared length of (x, y, z),
--   aa D q = D (aa x + ab y + ac z)² + (D y + E z)² + aa h z².
use Rattle.std.proofs.Common.{◌≡◌, zero, suc, [], ◌∷◌, ◌++◌, ℤ, pos, negsuc, ◌+ℤ◌, ◌*ℤ◌, neg_ℤ, unsigned_abs, ◌≤ℤ◌, ◌<ℤ◌, refl, sym, ◌∙◌, ap, subst, arith}
use Rattle.std.proofs.lemmas.Int.{ints, by_lt_z}
use Rattle.ring.specs.Ring.{Ops, int_ops, var, con, opposite, quoted, ◌:+◌, ◌:*◌, ◌:-◌}
use Rattle.ring.proofs.IntOrder.{mul_pos, mul_nonneg, sq_nonneg, add_nonneg, nonneg_of_mul, le_by_sub}
use Rattle.matrix3.specs.declared.matrix.Mat3.{Mat3}
use Rattle.matrix3.specs.Matrices.{product, determinant, entries, matrix_of_variables}
use Rattle.crystal_spec.specs.Matrices.{Matrix, identity}
use Rattle.crystal_spec.specs.Crystals.{IsPositive}
use Rattle.crystal_spec.proofs.Identities.{by_integers}
use Rattle.lattice_spec.specs.Tensor.{Tensor, tensor_matrix, squared_length}
use Rattle.lattice_spec.proofs.Steps.{tensor_of_variables, tensor_entries, congruent}

-- ---- Cauchy's identity

module _ {R : Type 0} (o : Ops R) where
  open o use {◌⊕◌, ◌⊗◌, opp, int}

  -- D = aa bb - ab²
  abbrev pub minor_d : Tensor R → R
  minor_d s = s.aa ⊗ s.bb ⊕ opp (s.ab ⊗ s.ab)

  -- E = aa bc - ab ac
  abbrev pub minor_e : Tensor R → R
  minor_e s = s.aa ⊗ s.bc ⊕ opp (s.ab ⊗ s.ac)

  abbrev square : R → R
  square x = x ⊗ x

  abbrev cauchy_left : Tensor R → R → R → R → R
  cauchy_left s x y z = s.aa ⊗ minor_d s ⊗ squared_length o s x y z

  abbrev two_squares : Tensor R → R → R → R → R
  two_squares s x y z =
      minor_d s ⊗ square (s.aa ⊗ x ⊕ s.ab ⊗ y ⊕ s.ac ⊗ z) ⊕ square (minor_d s ⊗ y ⊕ minor_e s ⊗ z)

  abbrev cauchy_right : Tensor R → R → R → R → R
  cauchy_right s x y z = two_squares s x y z ⊕ s.aa ⊗ determinant o (tensor_matrix s) ⊗ square z

  -- D q - h z²
  abbrev excess : Tensor R → R → R → R → R
  excess s x y z = minor_d s ⊗ squared_length o s x y z ⊕ opp (determinant o (tensor_matrix s) ⊗ (z ⊗ z))

  abbrev excess_times : Tensor R → R → R → R → R
  excess_times s x y z = s.aa ⊗ excess s x y z

cauchy : (s : Tensor ℤ) (x y z : ℤ) → cauchy_left int_ops s x y z ≡ cauchy_right int_ops s x y z
cauchy s x y z =
    by_integers (tensor_entries s ++ x ∷ y ∷ z ∷ []) (cauchy_left quoted tensor_of_variables (var 6) (var 7) (var 8)) (cauchy_right quoted tensor_of_variables (var 6) (var 7) (var 8)) refl

excess-squares : (s : Tensor ℤ) (x y z : ℤ) → excess_times int_ops s x y z ≡ two_squares int_ops s x y z
excess-squares s x y z =
    by_integers (tensor_entries s ++ x ∷ y ∷ z ∷ []) (excess_times quoted tensor_of_variables (var 6) (var 7) (var 8)) (two_squares quoted tensor_of_variables (var 6) (var 7) (var 8)) refl

-- h z² ≤ D q
pub height_bound : (s : Tensor ℤ) (x y z : ℤ) → pos 0 <ℤ s.aa → pos 0 ≤ℤ minor_d int_ops s → (determinant int_ops (tensor_matrix s) *ℤ (z *ℤ z)) ≤ℤ (minor_d int_ops s *ℤ squared_length int_ops s x y z)
height_bound s x y z ha hd =
    let k : pos 0 ≤ℤ two_squares int_ops s x y z = add_nonneg _ _ (mul_nonneg _ _ hd (sq_nonneg _)) (sq_nonneg _) in
    le_by_sub _ _ (nonneg_of_mul s.aa (excess int_ops s x y z) ha (rw (excess-squares s x y z) k))

-- ---- definiteness

-- the three coordinates are 0
pub record IsZero (x y z : ℤ) : Type 0 where
  pub x_zero : x ≡ pos 0
  pub y_zero : y ≡ pos 0
  pub z_zero : z ≡ pos 0

-- only 0 has a squared length of at most 0
abbrev pub IsDefinite : Tensor ℤ → Type 0
IsDefinite s = (x y z : ℤ) → squared_length int_ops s x y z ≤ℤ pos 0 → IsZero x y z

mul_zero : (a x : ℤ) → pos 0 <ℤ a → (a *ℤ x) ≤ℤ pos 0 → pos 0 ≤ℤ (a *ℤ x) → x ≡ pos 0
mul_zero a (pos zero) p h k = refl
mul_zero (pos zero) (pos (suc n)) p h k = absurd p.lt
mul_zero (pos (suc a)) (pos (suc n)) p h k = absurd (omega (arith, ints))
mul_zero (negsuc a) (pos (suc n)) p h k = absurd p.lt
mul_zero (pos zero) (negsuc n) p h k = absurd p.lt
mul_zero (pos (suc a)) (negsuc n) p h k = absurd (omega (arith, ints))
mul_zero (negsuc a) (negsuc n) p h k = absurd p.lt

sq_zero : (x : ℤ) → (x *ℤ x) ≤ℤ pos 0 → x ≡ pos 0
sq_zero (pos zero) h = refl
sq_zero (pos (suc n)) h = absurd (omega (arith, ints))
sq_zero (negsuc n) h = absurd (omega (arith, ints))

mul_most : (a x : ℤ) → pos 0 ≤ℤ a → x ≤ℤ pos 0 → (a *ℤ x) ≤ℤ pos 0
mul_most a x h k =
    let p : pos 0 ≤ℤ neg_ℤ x = omega (arith, ints) in
    flip _ _ (by_integers (a ∷ x ∷ []) (var 0 :* opposite (var 1)) (opposite (var 0 :* var 1)) refl) (mul_nonneg a (neg_ℤ x) h p)
  where
    flip : (a b : ℤ) → b ≡ neg_ℤ a → pos 0 ≤ℤ b → a ≤ℤ pos 0
    flip a b e h = omega (arith, ints)

-- each of three numbers that are not negative is 0 where their sum is
each : (a b c : ℤ) → pos 0 ≤ℤ a → pos 0 ≤ℤ b → pos 0 ≤ℤ c → (a +ℤ b +ℤ c) ≤ℤ pos 0 → (a ≤ℤ pos 0) × (b ≤ℤ pos 0) × (c ≤ℤ pos 0)
each a b c h k l m = (omega (arith, ints), omega (arith, ints), omega (arith, ints))

last_zero : (d y e z : ℤ) → z ≡ pos 0 → d *ℤ y +ℤ e *ℤ z ≡ d *ℤ y
last_zero d y e z h = subst (λ (t : ℤ). d *ℤ y +ℤ e *ℤ t ≡ d *ℤ y) (sym h) (by_integers (d ∷ y ∷ e ∷ []) (var 0 :* var 1 :+ var 2 :* con (pos 0)) (var 0 :* var 1) refl)

zero_factor : (d y : ℤ) → pos 0 <ℤ d → d *ℤ y ≡ pos 0 → y ≡ pos 0
zero_factor d y h e = mul_zero d y h (omega (arith, ints, e)) (omega (arith, ints, e))

-- a metric with three positive leading minors is definite
pub definite : (s : Tensor ℤ) → IsPositive (tensor_matrix s) → IsDefinite s
definite s p x y z h =
    let ha : pos 0 ≤ℤ s.aa = omega (arith, ints, p.first) in
    let hd : pos 0 ≤ℤ minor_d int_ops s = weaken _ p.second in
    let hh : pos 0 ≤ℤ determinant int_ops (tensor_matrix s) = weaken _ p.third in
    let left : cauchy_left int_ops s x y z ≤ℤ pos 0 = mul_most _ _ (mul_nonneg _ _ ha hd) h in
    let right : cauchy_right int_ops s x y z ≤ℤ pos 0 = subst (λ (t : ℤ). t ≤ℤ pos 0) (cauchy s x y z) left in
    let u = s.aa *ℤ x +ℤ s.ab *ℤ y +ℤ s.ac *ℤ z in
    let v = minor_d int_ops s *ℤ y +ℤ minor_e int_ops s *ℤ z in
    let n = mul_nonneg _ _ hd (sq_nonneg u) in
    let m = sq_nonneg v in
    let l = mul_nonneg _ _ (mul_nonneg _ _ ha hh) (sq_nonneg z) in
    let e = each _ _ _ n m l right in
    let z_zero = sq_zero z (nonpos_factor _ _ (mul_pos _ _ p.first p.third) e.2) in
    let v_zero = sq_zero v e.1 in
    let y_zero = zero_factor _ _ p.second (sym (last_zero _ y _ z z_zero) ∙ v_zero) in
    let u_zero = sq_zero u (nonpos_factor _ _ p.second e.0) in
    let x_zero = zero_factor _ _ p.first (sym (last_two s.aa x s.ab y s.ac z y_zero z_zero) ∙ u_zero) in
    record { x_zero = x_zero; y_zero = y_zero; z_zero = z_zero }
  where
    weaken : (a : ℤ) → pos 0 <ℤ a → pos 0 ≤ℤ a
    weaken a h = omega (arith, ints)

    nonpos_factor : (a x : ℤ) → pos 0 <ℤ a → (a *ℤ x) ≤ℤ pos 0 → x ≤ℤ pos 0
    nonpos_factor a (pos zero) p h = omega (arith, ints)
    nonpos_factor (pos zero) (pos (suc n)) p h = absurd p.lt
    nonpos_factor (pos (suc a)) (pos (suc n)) p h = absurd (omega (arith, ints))
    nonpos_factor (negsuc a) (pos (suc n)) p h = absurd p.lt
    nonpos_factor a (negsuc n) p h = omega (arith, ints)

    last_two : (a x b y c z : ℤ) → y ≡ pos 0 → z ≡ pos 0 → a *ℤ x +ℤ b *ℤ y +ℤ c *ℤ z ≡ a *ℤ x
    last_two a x b y c z e f =
        subst (λ (t : ℤ). a *ℤ x +ℤ b *ℤ t +ℤ c *ℤ z ≡ a *ℤ x) (sym e)
        (subst (λ (t : ℤ). a *ℤ x +ℤ b *ℤ pos 0 +ℤ c *ℤ t ≡ a *ℤ x) (sym f)
        (by_integers (a ∷ x ∷ b ∷ c ∷ []) (var 0 :* var 1 :+ var 2 :* con (pos 0) :+ var 3 :* con (pos 0)) (var 0 :* var 1) refl))

-- ---- the squared length of v in the metric WᵀGW is that of Wv in G

module _ {R : Type 0} (o : Ops R) where
  open o use {◌⊕◌, ◌⊗◌}

  -- a row times a column
  abbrev pub row : R → R → R → R → R → R → R
  row a b c x y z = a ⊗ x ⊕ b ⊗ y ⊕ c ⊗ z

  -- vᵀ m v
  abbrev pub bilinear : Mat3 R → R → R → R → R
  bilinear m x y z = x ⊗ row m.a11 m.a12 m.a13 x y z ⊕ y ⊗ row m.a21 m.a22 m.a23 x y z ⊕ z ⊗ row m.a31 m.a32 m.a33 x y z

  -- the squared length of w v
  abbrev pub carried : Mat3 R → Tensor R → R → R → R → R
  carried w g x y z = squared_length o g (row w.a11 w.a12 w.a13 x y z) (row w.a21 w.a22 w.a23 x y z) (row w.a31 w.a32 w.a33 x y z)

squared_length-bilinear : (s : Tensor ℤ) (x y z : ℤ) → squared_length int_ops s x y z ≡ bilinear int_ops (tensor_matrix s) x y z
squared_length-bilinear s x y z =
    by_integers (tensor_entries s ++ x ∷ y ∷ z ∷ []) (squared_length quoted tensor_of_variables (var 6) (var 7) (var 8)) (bilinear quoted (tensor_matrix tensor_of_variables) (var 6) (var 7) (var 8)) refl

carried-bilinear : (g : Tensor ℤ) (w : Matrix) (x y z : ℤ) → bilinear int_ops (congruent int_ops w (tensor_matrix g)) x y z ≡ carried int_ops w g x y z
carried-bilinear g w x y z =
    by_integers (tensor_entries g ++ entries w ++ x ∷ y ∷ z ∷ []) (bilinear quoted (congruent quoted (matrix_of_variables 6) (tensor_matrix tensor_of_variables)) (var 15) (var 16) (var 17)) (carried quoted (matrix_of_variables 6) tensor_of_variables (var 15) (var 16) (var 17)) refl

-- the squared length in the metric of another basis
pub squared_length-carried : (g s : Tensor ℤ) (w : Matrix) (x y z : ℤ) → congruent int_ops w (tensor_matrix g) ≡ tensor_matrix s → squared_length int_ops s x y z ≡ carried int_ops w g x y z
squared_length-carried g s w x y z e =
    squared_length-bilinear s x y z ∙ ap (λ (m : Matrix). bilinear int_ops m x y z) (sym e) ∙ carried-bilinear g w x y z

-- V (Wv) = (VW)v

back-row : (a b c : ℤ) (w : Matrix) (x y z : ℤ) →
    row int_ops a b c (row int_ops w.a11 w.a12 w.a13 x y z) (row int_ops w.a21 w.a22 w.a23 x y z) (row int_ops w.a31 w.a32 w.a33 x y z)
    ≡ row int_ops (row int_ops a b c w.a11 w.a21 w.a31) (row int_ops a b c w.a12 w.a22 w.a32) (row int_ops a b c w.a13 w.a23 w.a33) x y z
back-row a b c w x y z =
    by_integers (entries w ++ a ∷ b ∷ c ∷ x ∷ y ∷ z ∷ [])
    (row quoted (var 9) (var 10) (var 11) (row quoted (var 0) (var 1) (var 2) (var 12) (var 13) (var 14)) (row quoted (var 3) (var 4) (var 5) (var 12) (var 13) (var 14)) (row quoted (var 6) (var 7) (var 8) (var 12) (var 13) (var 14)))
    (row quoted (row quoted (var 9) (var 10) (var 11) (var 0) (var 3) (var 6)) (row quoted (var 9) (var 10) (var 11) (var 1) (var 4) (var 7)) (row quoted (var 9) (var 10) (var 11) (var 2) (var 5) (var 8)) (var 12) (var 13) (var 14)) refl

row_zero : (a b c p q r : ℤ) → IsZero p q r → row int_ops a b c p q r ≡ pos 0
row_zero a b c p q r h =
    subst (λ (t : ℤ). row int_ops a b c t q r ≡ pos 0) (sym h.x_zero)
    (subst (λ (t : ℤ). row int_ops a b c (pos 0) t r ≡ pos 0) (sym h.y_zero)
    (subst (λ (t : ℤ). row int_ops a b c (pos 0) (pos 0) t ≡ pos 0) (sym h.z_zero)
    (by_integers (a ∷ b ∷ c ∷ []) (row quoted (var 0) (var 1) (var 2) (con (pos 0)) (con (pos 0)) (con (pos 0))) (con (pos 0)) refl)))

row-x : (x y z : ℤ) → row int_ops (pos 1) (pos 0) (pos 0) x y z ≡ x
row-x x y z = by_integers (x ∷ y ∷ z ∷ []) (row quoted (con (pos 1)) (con (pos 0)) (con (pos 0)) (var 0) (var 1) (var 2)) (var 0) refl

row-y : (x y z : ℤ) → row int_ops (pos 0) (pos 1) (pos 0) x y z ≡ y
row-y x y z = by_integers (x ∷ y ∷ z ∷ []) (row quoted (con (pos 0)) (con (pos 1)) (con (pos 0)) (var 0) (var 1) (var 2)) (var 1) refl

row-z : (x y z : ℤ) → row int_ops (pos 0) (pos 0) (pos 1) x y z ≡ z
row-z x y z = by_integers (x ∷ y ∷ z ∷ []) (row quoted (con (pos 0)) (con (pos 0)) (con (pos 1)) (var 0) (var 1) (var 2)) (var 2) refl

-- a metric in another basis is definite
pub definite-congruent : (g s : Tensor ℤ) (w v : Matrix) → congruent int_ops w (tensor_matrix g) ≡ tensor_matrix s → product int_ops v w ≡ identity → IsDefinite g → IsDefinite s
definite-congruent g s w v e i d x y z h =
    let q = d (row int_ops w.a11 w.a12 w.a13 x y z) (row int_ops w.a21 w.a22 w.a23 x y z) (row int_ops w.a31 w.a32 w.a33 x y z) (subst (λ (t : ℤ). t ≤ℤ pos 0) (squared_length-carried g s w x y z e) h) in
    record {
      x_zero = sym (ap (λ (m : Matrix). row int_ops m.a11 m.a12 m.a13 x y z) i ∙ row-x x y z) ∙ sym (back-row v.a11 v.a12 v.a13 w x y z) ∙ row_zero _ _ _ _ _ _ q;
      y_zero = sym (ap (λ (m : Matrix). row int_ops m.a21 m.a22 m.a23 x y z) i ∙ row-y x y z) ∙ sym (back-row v.a21 v.a22 v.a23 w x y z) ∙ row_zero _ _ _ _ _ _ q;
      z_zero = sym (ap (λ (m : Matrix). row int_ops m.a31 m.a32 m.a33 x y z) i ∙ row-z x y z) ∙ sym (back-row v.a31 v.a32 v.a33 w x y z) ∙ row_zero _ _ _ _ _ _ q;
    }

-- ---- the entries of a definite metric

-- a vector other than 0 has a positive squared length
pub length_positive : (s : Tensor ℤ) → IsDefinite s → (x y z : ℤ) → ¬ (IsZero x y z) → pos 0 <ℤ squared_length int_ops s x y z
length_positive s d x y z n = by_lt_z (pos 0) (squared_length int_ops s x y z) (λ h. h) (λ h. absurd (n (d x y z h)))

-- the squared lengths of the axes are positive
pub aa_positive : (s : Tensor ℤ) → IsDefinite s → pos 0 <ℤ s.aa
aa_positive s d =
    let e : squared_length int_ops s (pos 1) (pos 0) (pos 0) ≡ s.aa = by_integers (tensor_entries s) (squared_length quoted tensor_of_variables (con (pos 1)) (con (pos 0)) (con (pos 0))) (var 0) refl in
    subst (λ (t : ℤ). pos 0 <ℤ t) e (length_positive s d (pos 1) (pos 0) (pos 0) (λ h. absurd (omega (arith, ints, h.x_zero))))

-- likewise
pub bb_positive : (s : Tensor ℤ) → IsDefinite s → pos 0 <ℤ s.bb
bb_positive s d =
    let e : squared_length int_ops s (pos 0) (pos 1) (pos 0) ≡ s.bb = by_integers (tensor_entries s) (squared_length quoted tensor_of_variables (con (pos 0)) (con (pos 1)) (con (pos 0))) (var 1) refl in
    subst (λ (t : ℤ). pos 0 <ℤ t) e (length_positive s d (pos 0) (pos 1) (pos 0) (λ h. absurd (omega (arith, ints, h.y_zero))))

-- likewise
pub cc_positive : (s : Tensor ℤ) → IsDefinite s → pos 0 <ℤ s.cc
cc_positive s d =
    let e : squared_length int_ops s (pos 0) (pos 0) (pos 1) ≡ s.cc = by_integers (tensor_entries s) (squared_length quoted tensor_of_variables (con (pos 0)) (con (pos 0)) (con (pos 1))) (var 2) refl in
    subst (λ (t : ℤ). pos 0 <ℤ t) e (length_positive s d (pos 0) (pos 0) (pos 1) (λ h. absurd (omega (arith, ints, h.z_zero))))

between : (a x b : ℤ) → pos 0 <ℤ (a +ℤ b +ℤ (x +ℤ x)) → pos 0 <ℤ (a +ℤ b +ℤ neg_ℤ (x +ℤ x)) → pos (unsigned_abs (x +ℤ x)) ≤ℤ (a +ℤ b)
between a x b h k = omega (arith, ints)

-- twice a scalar product is at most the sum of the two squared lengths
pub bc_most : (s : Tensor ℤ) → IsDefinite s → pos (unsigned_abs (s.bc +ℤ s.bc)) ≤ℤ (s.bb +ℤ s.cc)
bc_most s d =
    let e : squared_length int_ops s (pos 0) (pos 1) (pos 1) ≡ s.bb +ℤ s.cc +ℤ (s.bc +ℤ s.bc) = by_integers (tensor_entries s) (squared_length quoted tensor_of_variables (con (pos 0)) (con (pos 1)) (con (pos 1))) (var 1 :+ var 2 :+ (var 3 :+ var 3)) refl in
    let f : squared_length int_ops s (pos 0) (pos 1) (negsuc 0) ≡ s.bb +ℤ s.cc +ℤ neg_ℤ (s.bc +ℤ s.bc) = by_integers (tensor_entries s) (squared_length quoted tensor_of_variables (con (pos 0)) (con (pos 1)) (con (negsuc 0))) (var 1 :+ var 2 :- (var 3 :+ var 3)) refl in
    between s.bb s.bc s.cc (subst (λ (t : ℤ). pos 0 <ℤ t) e (length_positive s d (pos 0) (pos 1) (pos 1) (λ h. absurd (omega (arith, ints, h.y_zero)))))
    (subst (λ (t : ℤ). pos 0 <ℤ t) f (length_positive s d (pos 0) (pos 1) (negsuc 0) (λ h. absurd (omega (arith, ints, h.y_zero)))))

-- likewise
pub ac_most : (s : Tensor ℤ) → IsDefinite s → pos (unsigned_abs (s.ac +ℤ s.ac)) ≤ℤ (s.aa +ℤ s.cc)
ac_most s d =
    let e : squared_length int_ops s (pos 1) (pos 0) (pos 1) ≡ s.aa +ℤ s.cc +ℤ (s.ac +ℤ s.ac) = by_integers (tensor_entries s) (squared_length quoted tensor_of_variables (con (pos 1)) (con (pos 0)) (con (pos 1))) (var 0 :+ var 2 :+ (var 4 :+ var 4)) refl in
    let f : squared_length int_ops s (pos 1) (pos 0) (negsuc 0) ≡ s.aa +ℤ s.cc +ℤ neg_ℤ (s.ac +ℤ s.ac) = by_integers (tensor_entries s) (squared_length quoted tensor_of_variables (con (pos 1)) (con (pos 0)) (con (negsuc 0))) (var 0 :+ var 2 :- (var 4 :+ var 4)) refl in
    between s.aa s.ac s.cc (subst (λ (t : ℤ). pos 0 <ℤ t) e (length_positive s d (pos 1) (pos 0) (pos 1) (λ h. absurd (omega (arith, ints, h.x_zero)))))
    (subst (λ (t : ℤ). pos 0 <ℤ t) f (length_positive s d (pos 1) (pos 0) (negsuc 0) (λ h. absurd (omega (arith, ints, h.x_zero)))))

-- likewise
pub ab_most : (s : Tensor ℤ) → IsDefinite s → pos (unsigned_abs (s.ab +ℤ s.ab)) ≤ℤ (s.aa +ℤ s.bb)
ab_most s d =
    let e : squared_length int_ops s (pos 1) (pos 1) (pos 0) ≡ s.aa +ℤ s.bb +ℤ (s.ab +ℤ s.ab) = by_integers (tensor_entries s) (squared_length quoted tensor_of_variables (con (pos 1)) (con (pos 1)) (con (pos 0))) (var 0 :+ var 1 :+ (var 5 :+ var 5)) refl in
    let f : squared_length int_ops s (pos 1) (negsuc 0) (pos 0) ≡ s.aa +ℤ s.bb +ℤ neg_ℤ (s.ab +ℤ s.ab) = by_integers (tensor_entries s) (squared_length quoted tensor_of_variables (con (pos 1)) (con (negsuc 0)) (con (pos 0))) (var 0 :+ var 1 :- (var 5 :+ var 5)) refl in
    between s.aa s.ab s.bb (subst (λ (t : ℤ). pos 0 <ℤ t) e (length_positive s d (pos 1) (pos 1) (pos 0) (λ h. absurd (omega (arith, ints, h.x_zero)))))
    (subst (λ (t : ℤ). pos 0 <ℤ t) f (length_positive s d (pos 1) (negsuc 0) (pos 0) (λ h. absurd (omega (arith, ints, h.x_zero)))))
