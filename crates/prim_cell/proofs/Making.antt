-- A cell that is made name after name and atom after atom.
use Rattle.std.proofs.Common.{◌≡◌, ℕ, ◌<◌, ◌≤◌, List, [], ◌∷◌, length, map, take, sym, ap, subst, ◌∙◌, arith}
use Rattle.std.specs.Prelude.{ℤ, ◌*◌, ◌^◌, ◌*ℤ◌, slice_get, Some}
use Rattle.std.proofs.lemmas.List.{length-map}
use Rattle.lists.proofs.Walks.{taken_length, first_taken}
use Rattle.crystal_spec.specs.declared.MomentKind.{MomentKind}
use Rattle.crystal_spec.specs.Matrices.{Matrix, determinant, adjugate, image}
use Rattle.crystal_spec.specs.Moments.{IsOfKind}
use Rattle.crystal_spec.specs.Crystals.{Atom, Structure}
use Rattle.crystal_spec.specs.Operations.{IsWithinCell}
use Rattle.crystal_spec.proofs.Moments.{turn-of_kind}
use Rattle.crystal.specs.declared.limits.TheConstants.{MOST_ATOMS}
use Rattle.matrix3.specs.Bounds.{CoordinatesAtMost}
use Rattle.crystal.specs.Cells.{IsCellWithinLimits, IsCellAtom}
use Rattle.basis_spec.specs.Metrics.{metric_in}
use Rattle.basis_spec.specs.Bases.{cell_in_basis, first_at_each_position, in_basis}
use Rattle.positions.proofs.Residues.{modulo_within}
use Rattle.basis_spec.proofs.PrimitiveAtoms.{firsts_length}
use Rattle.prim_cell.specs.Rebasing.{with_atoms, started}
use Rattle.prim_cell.proofs.Moving.{some_cells}

-- fewer atoms than the cell has are there before the last
pub few_so_far : (f : Atom → Atom) (atoms : List Atom) (i : ℕ) → i < length atoms → length atoms ≤ MOST_ATOMS → length (first_at_each_position (map f (take i atoms))) < MOST_ATOMS
few_so_far f atoms i h k =
    let p = firsts_length (map f (take i atoms)) in
    let q = length-map (take i atoms) f in
    let r = taken_length i atoms in
    omega (arith, p, q, r)

-- ---- the cell
-- an atom in the other basis is one of the cell
pub atom_rebased : (c : Structure) → IsCellWithinLimits c → (m : ℕ) → m ≡ c.n → (r : Matrix) (a b : Atom) → IsCellAtom (length c.names) c.n c.kind a → b ≡ in_basis m c.kind r a → CoordinatesAtMost (2 * 10 ^ 27) b.moment → IsCellAtom (length c.names) c.n c.kind b
atom_rebased c cell m same r a b h e k = record {
  named = subst (λ (s : ℕ). s < length c.names) (sym (ap (λ (x : Atom). x.species) e)) h.named;
  within = subst (λ (x : Atom). IsWithinCell c.n x.position) (sym (e ∙ ap (λ (n : ℕ). in_basis n c.kind r a) same)) (modulo_within c.n (image r a.position) (some_cells c cell));
  moment = k;
  of_kind = subst (λ (x : Atom). IsOfKind c.kind x.moment) (sym e) (turn-of_kind c.kind r a.moment h.of_kind);
}

-- the cell of the first name and the first atom
pub started_is : (c : Structure) (r : Matrix) (name : List ℕ) (x first : Atom) (s : ℤ) (m : Matrix) (n k : ℕ) (kind : MomentKind) → slice_get c.names 0 ≡ Some name → slice_get c.atoms 0 ≡ Some x → s ≡ (determinant r *ℤ determinant r) *ℤ c.scale → m ≡ metric_in (adjugate r) c.metric → n ≡ c.n → k ≡ c.k → kind ≡ c.kind → first ≡ in_basis c.n c.kind r x →
    record { names = name ∷ []; scale = s; metric = m; n = n; k = k; kind = kind; atoms = first ∷ [] } ≡ started c r
unfolding cell_in_basis
started_is c r name x first s m n k kind is_name is_x es em en ek eh e =
    let names = first_taken c.names name is_name in
    let atoms : first ∷ [] ≡ first_at_each_position (map (in_basis c.n c.kind r) (take 1 c.atoms)) = ap (λ (a : Atom). a ∷ []) e ∙ ap (λ (l : List Atom). first_at_each_position (map (in_basis c.n c.kind r) l)) (first_taken c.atoms x is_x) in
    (λ i. record { names = names i; scale = es i; metric = em i; n = en i; k = ek i; kind = eh i; atoms = atoms i })

-- what the cell has of the cell of the first name and the first atom
pub record HasStarted (c made : Structure) (r : Matrix) : Type 0 where
  pub n : made.n ≡ c.n
  pub kind : made.kind ≡ c.kind
  pub names : made.names ≡ take 1 c.names
  pub atoms : made.atoms ≡ first_at_each_position (map (in_basis c.n c.kind r) (take 1 c.atoms))

pub has_started : (c made : Structure) (r : Matrix) → made ≡ started c r → HasStarted c made r
unfolding cell_in_basis
has_started c made r e = record { n = ap (λ (s : Structure). s.n) e; kind = ap (λ (s : Structure). s.kind) e; names = ap (λ (s : Structure). s.names) e; atoms = ap (λ (s : Structure). s.atoms) e }

-- all names and atoms are there
pub all_made : (c a b d : Structure) (r : Matrix) → a ≡ started c r → b ≡ record a { names = c.names } → d ≡ with_atoms b c r c.atoms → d ≡ cell_in_basis c r
unfolding cell_in_basis
all_made c a b d r e f g = g ∙ ap (λ (s : Structure). with_atoms s c r c.atoms) f ∙ ap (λ (s : Structure). with_atoms (record s { names = c.names }) c r c.atoms) e
