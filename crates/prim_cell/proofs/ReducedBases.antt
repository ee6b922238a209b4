-- A reduced basis of the pure translations.
--
-- The triangular basis and after it the change of basis of the reduction are a basis of all translations. Where the metric
-- tensor of the triangular basis is reduced already the reduction changes nothing; and there is one triangular basis.
use Rattle.std.proofs.Common.{◌≡◌, ℕ, ◌*◌, ◌≤◌, ◌^◌, ℤ, pos, ◌*ℤ◌, ◌≤ℤ◌, ◌<ℤ◌, List, [], ◌∷◌, length, map, refl, sym, ap, subst, ◌∙◌, arith}
use Rattle.std.proofs.lemmas.Int.{ints}
use Rattle.ring.specs.Ring.{var, con, ◌:*◌}
use Rattle.lists.specs.Increasing.{IsMember}
use Rattle.lists.proofs.Members.{mapped_from}
use Rattle.crystal_spec.specs.Matrices.{Matrix, product, transposed, determinant, adjugate, identity}
use Rattle.crystal_spec.specs.Crystals.{Atom, Structure, IsPositive}
use Rattle.crystal_spec.specs.Operations.{Operation}
use Rattle.crystal_spec.specs.Cells.{IsCell}
use Rattle.crystal_spec.proofs.Entrywise.{matrix_same}
use Rattle.crystal_spec.proofs.Identities.{by_integers}
use Rattle.crystal_spec.proofs.Isometries.{determinant-product}
use Rattle.lattice_spec.specs.Tensor.{Tensor, tensor_matrix}
use Rattle.lattice_spec.specs.Niggli.{IsNiggli}
use Rattle.crystal.specs.declared.limits.TheConstants.{MOST_ATOMS}
use Rattle.matrix3.specs.Bounds.{EntriesAtMost}
use Rattle.op_group.specs.Lists.{OperationList}
use Rattle.basis_spec.specs.Metrics.{matrix_multiple, metric_in}
use Rattle.basis_spec.specs.Translations.{IsPrimitive, ListsPureTranslations}
use Rattle.basis_spec.specs.Bases.{IsBack, cell_in_basis, in_basis}
use Rattle.basis_spec.specs.StepBases.{IsSteps, InLattice}
use Rattle.basis_spec.proofs.MatrixLaws.{metric_in-product, metric_in-metric_in_adjugate, image-product, image-identity, same_images}
use Rattle.basis_spec.proofs.OperationBases.{at_least_one}
use Rattle.basis_spec.proofs.Positive.{positive_adjugate}
use Rattle.basis_spec.proofs.FirstAtoms.{member_of_firsts}
use Rattle.basis_spec.proofs.StepLists.{list_lattice}
use Rattle.basis_spec.proofs.StepEntries.{fore_is_adjugate}
use Rattle.basis_spec.proofs.Candidates.{steps_once}
use Rattle.basis_spec.proofs.TranslationLists.{pure_closed}
use Rattle.basis_spec.proofs.PrimitiveBases.{primitive_kept, fore_then}
use Rattle.prim_cell.specs.Primitives.{TakesToStepBasis, IsImageModulo, IsPrimitiveCell, IsReducedBasis}
use Rattle.prim_cell.proofs.FewTranslations.{few_pure}
use Rattle.prim_cell.proofs.Ranges.{back_small, fore_small}

-- what a reduction gives of the metric tensor g: the metric tensor m, the change of basis and its inverse
pub record IsReduction (g m base q : Matrix) : Type 0 where
  pub niggli : IsNiggli m
  pub metric : product (transposed base) (product g base) ≡ m
  pub unit_determinant : determinant base ≡ pos 1
  pub inverse : product base q ≡ identity
  pub inverse_left : product q base ≡ identity
  pub kept : IsNiggli g → base ≡ identity
  pub entries : EntriesAtMost (10 ^ 16) m

identity-product : (m : Matrix) → product identity m ≡ m
identity-product m = same_images (product identity m) m (λ v. image-product identity m v ∙ image-identity _)

-- the inverse of a matrix of determinant 1 has determinant 1
determinant_inverse : (base q : Matrix) → determinant base ≡ pos 1 → product q base ≡ identity → determinant q ≡ pos 1
determinant_inverse base q one e =
    by_integers (determinant q ∷ []) (var 0) (var 0 :* con (pos 1)) refl ∙ ap (λ (d : ℤ). determinant q *ℤ d) (sym one) ∙ sym (determinant-product q base) ∙ ap determinant e

at_least : (i : ℕ) (d : ℤ) → pos i ≡ d → pos 1 ≤ℤ d → 1 ≤ i
at_least i d e h = omega (arith, ints, e, h)

module _ (c : Structure) (cell : IsCell c) (few : length c.atoms ≤ MOST_ATOMS) (os : List Operation) (lists : ListsPureTranslations c os) (index : ℕ) (back fore : Matrix) (steps : IsSteps c.n (InLattice c.n os) index back fore)
    (s : Tensor ℤ) (base q : Matrix) (reduction : IsReduction (metric_in fore c.metric) (tensor_matrix s) base q) (small : EntriesAtMost (10 ^ 9) c.metric) where
  -- where the metric tensor is reduced already, the basis is the triangular one
  kept : TakesToStepBasis c os (product q back)
  kept i b f k niggli =
      let same = steps_once c.n (InLattice c.n os) (list_lattice c.n os cell.some_cells (pure_closed c os lists cell.some_cells)) cell.some_cells index i back b fore f steps k in
      let base_is = reduction.kept (subst (λ (m : Matrix). IsNiggli (metric_in m c.metric)) (sym same.fore) niggli) in
      let q_is : q ≡ identity = sym (identity-product q) ∙ ap (λ (m : Matrix). product m q) (sym base_is) ∙ reduction.inverse in
      ap (λ (m : Matrix). product m back) q_is ∙ identity-product back ∙ same.back

  -- the reduced basis
  pub reduced_basis : IsReducedBasis c os index (product q back) (product fore base) (tensor_matrix s)
  reduced_basis =
      let r = product q back in
      let p = primitive_kept c cell os lists index back fore steps base q (determinant_inverse base q reduction.unit_determinant reduction.inverse_left) reduction.inverse in
      let up = p.primitive.same.determinant_positive in
      let above : pos 0 <ℤ determinant r = at_least_one (determinant r) up in
      let inverse = fore_then (pos index) fore back base q steps.fore_is reduction.inverse in
      let fore_is : product fore base ≡ adjugate r = fore_is_adjugate index (product fore base) r above p.index_is inverse in
      let metric_is : tensor_matrix s ≡ metric_in (adjugate r) c.metric = sym reduction.metric ∙ sym (metric_in-product fore base c.metric) ∙ ap (λ (m : Matrix). metric_in m c.metric) fore_is in
      let most : index ≤ MOST_ATOMS = subst (λ (n : ℕ). n ≤ MOST_ATOMS) p.count (few_pure c cell few os lists) in
      let turned : metric_in r (tensor_matrix s) ≡ matrix_multiple (pos index *ℤ pos index) c.metric = ap (metric_in r) metric_is ∙ metric_in-metric_in_adjugate r c.metric ∙ ap (λ (d : ℤ). matrix_multiple (d *ℤ d) c.metric) (sym p.index_is) in
      let entries = back_small s c.metric r index reduction.niggli.main turned most small in
      record {
        primitive = p.primitive;
        lattice = p.is_back;
        determinant_is = p.index_is;
        count = p.count;
        inverse = inverse;
        fore_is = fore_is;
        metric_is = metric_is;
        niggli = reduction.niggli;
        positive = subst IsPositive (sym metric_is) (positive_adjugate r c.metric cell.symmetric cell.positive above);
        kept = kept;
        metric_entries = reduction.entries;
        back_entries = entries;
        fore_entries = subst (EntriesAtMost (5 * 10 ^ 15)) (sym fore_is) (fore_small r entries);
        at_least = at_least index (determinant r) p.index_is up;
        at_most = most;
      }

-- an atom of the cell in another basis is at the image of a position of an atom of the cell
position_image : (c : Structure) (r : Matrix) (a : Atom) → IsMember a (cell_in_basis c r).atoms → IsImageModulo c.n r a.position
unfolding cell_in_basis
position_image c r a m =
    let f = mapped_from (in_basis c.n c.kind r) a c.atoms (member_of_firsts a (map (in_basis c.n c.kind r) c.atoms) m) in
    record { old_position = f.item.position; position_is = ap (λ (s : Atom). s.position) f.is }

-- the cell in it is a primitive cell
pub is_primitive_cell : (c made : Structure) → IsCell c → EntriesAtMost (10 ^ 9) c.metric → (shifts : OperationList) (index : ℕ) (back fore metric : Matrix) → shifts.n ≡ c.n → ListsPureTranslations c shifts.operations → IsReducedBasis c shifts.operations index back fore metric → made ≡ cell_in_basis c back →
    IsPrimitiveCell (record { cell = made; back = back; fore = fore; index = index; shifts = shifts })
unfolding cell_in_basis
is_primitive_cell c made cell small shifts index back fore metric same lists b is = record {
  determinant_is = b.determinant_is;
  inverse = b.inverse;
  lattice = subst (λ (n : ℕ). IsBack n (InLattice n shifts.operations) back) (sym same) b.lattice;
  same_n = same ∙ sym (ap (λ (s : Structure). s.n) is);
  pure = λ o m. ((lists.exact o).0 m).0;
  primitive = subst IsPrimitive (sym is) b.primitive.primitive;
  niggli = subst IsNiggli (b.metric_is ∙ sym (ap (λ (s : Structure). s.metric) is)) b.niggli;
  back_entries = b.back_entries;
  fore_entries = b.fore_entries;
  positions = λ a m. subst (λ (n : ℕ). IsImageModulo n back a.position) (sym (ap (λ (s : Structure). s.n) is)) (position_image c back a (subst (λ (s : Structure). IsMember a s.atoms) is m));
  metric = record {
    old_metric = c.metric;
    symmetric = cell.symmetric;
    positive = cell.positive;
    entries = small;
    metric_is = ap (λ (s : Structure). metric_in back s.metric) is ∙ metric_in-metric_in_adjugate back c.metric ∙ ap (λ (d : ℤ). matrix_multiple (d *ℤ d) c.metric) (sym b.determinant_is);
  };
}

-- the metric tensor of that cell is reduced
pub cell_is_niggli : (c made : Structure) (os : List Operation) (index : ℕ) (back fore metric : Matrix) → IsReducedBasis c os index back fore metric → made ≡ cell_in_basis c back → IsNiggli made.metric
unfolding cell_in_basis
cell_is_niggli c made os index back fore metric b is = subst IsNiggli (b.metric_is ∙ sym (ap (λ (s : Structure). s.metric) is)) b.niggli

-- the matrix of its six entries is a symmetric matrix itself
pub six_entries : (m : Matrix) → transposed m ≡ m → record { a11 = m.a11; a12 = m.a12; a13 = m.a13; a21 = m.a12; a22 = m.a22; a23 = m.a23; a31 = m.a13; a32 = m.a23; a33 = m.a33 } ≡ m
six_entries m e = matrix_same refl refl refl (ap (λ (a : Matrix). a.a21) e) refl refl (ap (λ (a : Matrix). a.a31) e) (ap (λ (a : Matrix). a.a32) e) refl

module _ (c : Structure) (cell : IsCell c) (os : List Operation) (lists : ListsPureTranslations c os) (index : ℕ) (back fore : Matrix) (steps : IsSteps c.n (InLattice c.n os) index back fore) where
  step_up : pos 1 ≤ℤ determinant back
  step_up =
      let p = primitive_kept c cell os lists index back fore steps identity identity refl (identity-product identity) in
      subst (λ (m : Matrix). pos 1 ≤ℤ determinant m) (identity-product back) p.primitive.same.determinant_positive

  -- the metric tensor in the triangular basis is positive
  pub step_metric_positive : pos index ≡ determinant back → IsPositive (metric_in fore c.metric)
  step_metric_positive e =
      let above = at_least_one (determinant back) step_up in
      subst (λ (m : Matrix). IsPositive (metric_in m c.metric)) (sym (fore_is_adjugate index fore back above e steps.fore_is)) (positive_adjugate back c.metric cell.symmetric cell.positive above)
