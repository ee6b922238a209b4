-- The translation parts that can keep a crystal, and that a lattice has one triangular basis, one index and one matrix to it
-- and back.
--
-- An operation brings an atom to one of its species, so its translation part is the difference of the two positions
-- modulo n.
use Rattle.std.proofs.Common.{◌≡◌, ℕ, ◌<◌, ℤ, pos, negsuc, ◌+ℤ◌, ◌*ℤ◌, ◌≤ℤ◌, ◌<ℤ◌, [], ◌∷◌, refl, sym, ap, subst, ◌∙◌, arith}
use Rattle.std.proofs.lemmas.Int.{ints}
use Rattle.ring.specs.Ring.{var, con, ◌:+◌, ◌:*◌}
use Rattle.ring.proofs.IntOrder.{≤ℤ_antisymm}
use Rattle.lists.specs.Increasing.{IsMember}
use Rattle.crystal_spec.specs.Matrices.{Triple, Matrix, product, determinant, identity, difference, image, multiple, sum_of}
use Rattle.crystal_spec.specs.Crystals.{Atom, Structure}
use Rattle.positions.specs.Positions.{modulo, triple}
use Rattle.crystal_spec.specs.Operations.{Operation, IsSymmetryOperation}
use Rattle.basis_spec.specs.Translations.{IsPureTranslation, pure_translation}
use Rattle.basis_spec.specs.StepBases.{IsLattice, IsStepBasis, IsSteps}
use Rattle.basis_spec.specs.Metrics.{matrix_multiple}
use Rattle.basis_spec.proofs.OperationBases.{at_least_one}
use Rattle.basis_spec.proofs.StepBases.{basis_above}
use Rattle.basis_spec.proofs.StepIndex.{step_back}
use Rattle.basis_spec.proofs.StepEntries.{back_once, found_is, index_found}
use Rattle.crystal_spec.proofs.Entrywise.{matrix_same}
use Rattle.basis_spec.proofs.MatrixLaws.{difference_is, image-identity, sum_comm, sum_swap, add_subtract}
use Rattle.basis_spec.proofs.Translations.{atom_away}
use Rattle.positions.proofs.Residues.{modulo_away, modulo_within}
use Rattle.basis_spec.proofs.PrimitiveCell.{differs_trans}
use Rattle.basis_spec.proofs.PureTranslations.{translations_same, same_number}
use Rattle.basis_spec.proofs.StepCount.{y_multiple, x_multiple, difference_in}
use Rattle.crystal_spec.proofs.Identities.{by_integers}
use Rattle.crystal_spec.proofs.Images.{occupied_itself}

-- an atom of a's species to which a translation brings what w makes of a
pub record Reaches (c : Structure) (w : Matrix) (translation : Triple) (a : Atom) : Type 0 where
  pub atom : Atom
  pub of_cell : IsMember atom c.atoms
  pub same_species : atom.species ≡ a.species
  pub is : translation ≡ modulo c.n (difference atom.position (image w a.position))

-- each operation brings each atom to one of its species, so its translation is one of as many
pub reaches : (c : Structure) (o : Operation) (a : Atom) → pos 0 <ℤ pos c.n → IsSymmetryOperation c o → IsMember a c.atoms → Reaches c o.matrix o.translation a
reaches c o a some k m =
    let h = (k.keeps.crystal a.species a.position a.moment).0 (occupied_itself c a m) in
    let from = image o.matrix a.position in
    let u = sum_of h.atom.position (multiple (negsuc 0) from) in
    let d = atom_away h in
    record {
      atom = h.atom;
      of_cell = h.of_cell;
      same_species = h.same_species;
      is = translations_same c.n o.translation (modulo c.n u) k.translation (modulo_within c.n u some) (differs_trans
          (record {
            cells = d.cells;
            is = sym (add_subtract o.translation from) ∙ ap (λ v. sum_of v (multiple (negsuc 0) from)) (sum_comm o.translation from ∙ d.is) ∙ sum_swap h.atom.position (multiple (pos c.n) d.cells) (multiple (negsuc 0) from);
          })
          (modulo_away c.n u some))
          ∙ ap (modulo c.n) (sym (difference_is h.atom.position from));
    }

-- a pure translation is the difference of the positions of two atoms of a species, of which the first may be chosen
pub pure_reaches : (c : Structure) (t : Triple) (a : Atom) → pos 0 <ℤ pos c.n → IsPureTranslation c t → IsMember a c.atoms → (b : Atom) × (IsMember b c.atoms × ((b.species ≡ a.species) × (t ≡ modulo c.n (difference b.position a.position))))
pure_reaches c t a some h m =
    let k = reaches c (pure_translation t) a some (record { translation = h.translation; keeps = h.keeps }) m in
    (k.atom, (k.of_cell, (k.same_species, k.is ∙ ap (λ (v : Triple). modulo c.n (difference k.atom.position v)) (image-identity a.position))))

below_step : (s a c k : ℤ) → (pos 0 ≤ℤ a) × (a <ℤ s) → (pos 0 ≤ℤ c) × (c <ℤ s) → a +ℤ negsuc 0 *ℤ c ≡ s *ℤ k → a ≡ c
below_step (negsuc n) a c k h l e = absurd (omega (arith, ints))
below_step (pos n) a c k h l e = same_number n a c k h l (apart a c (pos n *ℤ k) e)
  where
    apart : (a c v : ℤ) → a +ℤ negsuc 0 *ℤ c ≡ v → a ≡ c +ℤ v
    apart a c v e = by_integers (a ∷ c ∷ []) (var 0) (var 1 :+ (var 0 :+ con (negsuc 0) :* var 1)) refl ∙ ap (λ w. c +ℤ w) e

cancels : (a : ℤ) → a +ℤ negsuc 0 *ℤ a ≡ pos 0
cancels a = by_integers (a ∷ []) (var 0 :+ con (negsuc 0) :* var 0) (con (pos 0)) refl

-- a lattice has one step basis
pub one_basis : (n : ℕ) (in_it : Triple → Type 0) (l : IsLattice n in_it) (b c : Matrix) → 0 < n → IsStepBasis in_it b → IsStepBasis in_it c → b ≡ c
one_basis n in_it l b c some s t =
    let e11 = ≤ℤ_antisymm b.a11 c.a11 (s.first.least c.a11 t.first.positive t.first.it_holds) (t.first.least b.a11 s.first.positive s.first.it_holds) in
    let e22 = ≤ℤ_antisymm b.a22 c.a22 (s.second.least c.a22 t.second.positive t.second.it_holds) (t.second.least b.a22 s.second.positive s.second.it_holds) in
    let e33 = ≤ℤ_antisymm b.a33 c.a33 (s.third.least c.a33 t.third.positive t.third.it_holds) (t.third.least b.a33 s.third.positive s.third.it_holds) in
    let e12 = ≤ℤ_antisymm b.a12 c.a12 (s.second_least c.a12 t.second_from (subst (λ (v : ℤ). in_it (triple c.a12 v (pos 0))) (sym e22) t.second_in)) (t.second_least b.a12 s.second_from (subst (λ (v : ℤ). in_it (triple b.a12 v (pos 0))) e22 s.second_in)) in
    let d : in_it (sum_of (triple b.a13 b.a23 b.a33) (multiple (negsuc 0) (triple c.a13 c.a23 c.a33))) = difference_in n in_it l b s some (triple b.a13 b.a23 b.a33) (triple c.a13 c.a23 c.a33) s.third_in t.third_in in
    let z : b.a33 +ℤ negsuc 0 *ℤ c.a33 ≡ pos 0 = ap (λ v. v +ℤ negsuc 0 *ℤ c.a33) e33 ∙ cancels c.a33 in
    let y = y_multiple n in_it l b s (sum_of (triple b.a13 b.a23 b.a33) (multiple (negsuc 0) (triple c.a13 c.a23 c.a33))) d z in
    let e23 = below_step b.a22 b.a23 c.a23 y.0 s.third_y (t.third_y.0, subst (λ (v : ℤ). c.a23 <ℤ v) (sym e22) t.third_y.1) y.1 in
    let w : b.a23 +ℤ negsuc 0 *ℤ c.a23 ≡ pos 0 = ap (λ v. v +ℤ negsuc 0 *ℤ c.a23) e23 ∙ cancels c.a23 in
    let x = x_multiple n in_it l b s (sum_of (triple b.a13 b.a23 b.a33) (multiple (negsuc 0) (triple c.a13 c.a23 c.a33))) d z w in
    let e13 = below_step b.a11 b.a13 c.a13 x.0 s.third_x (t.third_x.0, subst (λ (v : ℤ). c.a13 <ℤ v) (sym e11) t.third_x.1) x.1 in
    matrix_same e11 e12 e13 (s.zeros.0 ∙ sym t.zeros.0) e22 e23 (s.zeros.1 ∙ sym t.zeros.1) (s.zeros.2 ∙ sym t.zeros.2) e33

-- a positive n, as a natural number
pub natural_above : (n : ℕ) → pos 0 <ℤ pos n → 0 < n
natural_above n h = omega (arith, ints)

-- two natural numbers are one where they are so as integers
pub same_natural : (m n : ℕ) → pos m ≡ pos n → m ≡ n
same_natural m n e = omega (arith, ints, e)

-- two answers to one question: the index and the two matrices are told by the lattice
pub record SameSteps (i j : ℕ) (q r f g : Matrix) : Type 0 where
  pub index : i ≡ j
  pub back : q ≡ r
  pub fore : f ≡ g

-- so are the index and the matrices to it and back
pub steps_once : (n : ℕ) (in_it : Triple → Type 0) (l : IsLattice n in_it) (some : pos 0 <ℤ pos n) (i j : ℕ) (q r f g : Matrix) → IsSteps n in_it i q f → IsSteps n in_it j r g → SameSteps i j q r f g
steps_once n in_it l some i j q r f g h k =
    let e : h.basis ≡ k.basis = one_basis n in_it l h.basis k.basis (natural_above n some) h.is_basis k.is_basis in
    let p : q ≡ r = back_once (pos n) k.basis q r (basis_above n in_it l k.basis k.is_basis) (subst (λ (b : Matrix). product q b ≡ matrix_multiple (pos n) identity) e h.back_is) k.back_is in
    let d : pos i ≡ pos j = index_found n in_it l some i q f h ∙ ap determinant p ∙ sym (index_found n in_it l some j r g k) in
    let above : pos 1 ≤ℤ determinant r = subst (λ (m : Matrix). pos 1 ≤ℤ determinant m) (found_is n in_it l some j r g k) (step_back n in_it l k.basis k.is_basis some).determinant_positive in
    record {
      index = same_natural i j d;
      back = p;
      fore = back_once (pos j) r f g (at_least_one (determinant r) above) (ap (product f) (sym p) ∙ h.fore_is ∙ ap (λ (m : ℤ). matrix_multiple m identity) d) k.fore_is;
    }
