-- Cells with one name or one atom more, and what a cell's atoms are.
use Rattle.std.proofs.Common.{◌≡◌, refl, sym, ap, subst, ◌∙◌, inl, inr, ℕ, ◌+◌, ◌≤◌, ◌<◌, List, [], ◌∷◌, ◌++◌, length, arith}
use Rattle.std.specs.Prelude.{pos, ◌<ℤ◌, slice_get, Some}
use Rattle.std.proofs.lemmas.Int.{ints}
use Rattle.std.proofs.lemmas.List.{length_push}
use Rattle.lists.specs.Increasing.{IsMember, IsDistinct}
use Rattle.lists.proofs.Distinct.{IsDistinct-pushed}
use Rattle.crystal_spec.specs.declared.MomentKind.{MomentKind}
use Rattle.crystal_spec.specs.Matrices.{Triple, Matrix, transposed}
use Rattle.crystal_spec.specs.Crystals.{Atom, Structure}
use Rattle.crystal_spec.specs.Cells.{IsCell}
use Rattle.crystal_spec.proofs.Entrywise.{matrix_same}
use Rattle.crystal_spec.proofs.Images.{IsApart, one_atom_each_of_apart}
use Rattle.crystal.specs.declared.limits.TheConstants.{MOST_ATOMS, MOST_NAMES}
use Rattle.crystal.specs.Occupants.{NoneAt}
use Rattle.crystal.specs.Cells.{IsCellWithinLimits, IsCellAtom, IsSymmetric, AreCellAtoms, AreApart}

-- ---- one more
atoms_more : (m n : ℕ) (kind : MomentKind) (xs : List Atom) (x : Atom) → AreCellAtoms m n kind xs → IsCellAtom m n kind x → AreCellAtoms m n kind (xs ++ x ∷ [])
atoms_more m n kind [] x h k = (k, tt)
atoms_more m n kind (y ∷ ys) x h k = (h.0, atoms_more m n kind ys x h.1 k)

named_more : (m n : ℕ) (kind : MomentKind) (xs : List Atom) → AreCellAtoms m n kind xs → AreCellAtoms (m + 1) n kind xs
named_more m n kind [] h = tt
named_more m n kind (y ∷ ys) h = (record { named = omega (arith, h.0.named); within = h.0.within; moment = h.0.moment; of_kind = h.0.of_kind }, named_more m n kind ys h.1)

none_more : (p : Triple) (xs : List Atom) (x : Atom) → NoneAt p xs → (x.position ≡ p → ⊥) → NoneAt p (xs ++ x ∷ [])
none_more p [] x h k = (k, tt)
none_more p (y ∷ ys) x h k = (h.0, none_more p ys x h.1 k)

apart_more : (xs : List Atom) (x : Atom) → AreApart xs → NoneAt x.position xs → AreApart (xs ++ x ∷ [])
apart_more [] x h k = (tt, tt)
apart_more (y ∷ ys) x h k = (none_more y.position ys x h.0 (λ e. k.0 (sym e)), apart_more ys x h.1 k.1)

first_more : (xs : List Atom) (x s : Atom) → 1 ≤ length xs → slice_get (xs ++ x ∷ []) 0 ≡ Some s → slice_get xs 0 ≡ Some s
first_more [] x s h e = absurd (omega arith)
first_more (y ∷ ys) x s h e = e

-- a cell with one atom more
pub atom_more : (c : Structure) (x : Atom) → IsCellWithinLimits c → IsCellAtom (length c.names) c.n c.kind x → NoneAt x.position c.atoms → length c.atoms < MOST_ATOMS → IsCellWithinLimits (record c { atoms = c.atoms ++ x ∷ [] })
atom_more c x h k free few = record {
  positive = h.positive;
  symmetric = h.symmetric;
  entries = h.entries;
  scale_at_least = h.scale_at_least;
  scale_at_most = h.scale_at_most;
  n_at_least = h.n_at_least;
  n_at_most = h.n_at_most;
  k_at_least = h.k_at_least;
  k_at_most = h.k_at_most;
  names_differ = h.names_differ;
  few_names = h.few_names;
  some = omega (arith, length_push c.atoms x);
  few = omega (arith, length_push c.atoms x);
  first = λ s e. h.first s (first_more c.atoms x s h.some e);
  atoms = atoms_more (length c.names) c.n c.kind c.atoms x h.atoms k;
  apart = apart_more c.atoms x h.apart free;
}

-- a cell with one name more
pub name_more : (c : Structure) (name : List ℕ) → IsCellWithinLimits c → (IsMember name c.names → ⊥) → length c.names < MOST_NAMES → IsCellWithinLimits (record c { names = c.names ++ name ∷ [] })
name_more c name h new fewer = record {
  positive = h.positive;
  symmetric = h.symmetric;
  entries = h.entries;
  scale_at_least = h.scale_at_least;
  scale_at_most = h.scale_at_most;
  n_at_least = h.n_at_least;
  n_at_most = h.n_at_most;
  k_at_least = h.k_at_least;
  k_at_most = h.k_at_most;
  names_differ = IsDistinct-pushed c.names name h.names_differ new;
  few_names = omega (arith, length_push c.names name, fewer);
  some = h.some;
  few = h.few;
  first = h.first;
  atoms = subst (λ (m : ℕ). AreCellAtoms m c.n c.kind c.atoms) (sym (length_push c.names name)) (named_more (length c.names) c.n c.kind c.atoms h.atoms);
  apart = h.apart;
}

-- ---- the atoms
pub atom_member : (m n : ℕ) (kind : MomentKind) (xs : List Atom) (x : Atom) → AreCellAtoms m n kind xs → IsMember x xs → IsCellAtom m n kind x
atom_member m n kind [] x h k = absurd k
atom_member m n kind (y ∷ ys) x h (inl e) = subst (IsCellAtom m n kind) (sym e) h.0
atom_member m n kind (y ∷ ys) x h (inr k) = atom_member m n kind ys x h.1 k

pub none_member : (p : Triple) (xs : List Atom) (x : Atom) → NoneAt p xs → IsMember x xs → x.position ≡ p → ⊥
none_member p [] x h k e = k
none_member p (y ∷ ys) x h (inl f) e = h.0 (ap (λ (s : Atom). s.position) (sym f) ∙ e)
none_member p (y ∷ ys) x h (inr k) e = none_member p ys x h.1 k e

told : (xs : List Atom) (a b : Atom) → AreApart xs → IsMember a xs → IsMember b xs → a.position ≡ b.position → a ≡ b
told [] a b h j k e = absurd j
told (x ∷ xs) a b h (inl f) (inl g) e = f ∙ sym g
told (x ∷ xs) a b h (inl f) (inr k) e = absurd (none_member x.position xs b h.0 k (sym e ∙ ap (λ (s : Atom). s.position) f))
told (x ∷ xs) a b h (inr j) (inl g) e = absurd (none_member x.position xs a h.0 j (e ∙ ap (λ (s : Atom). s.position) g))
told (x ∷ xs) a b h (inr j) (inr k) e = told xs a b h.1 j k e

distinct : (xs : List Atom) → AreApart xs → IsDistinct xs
distinct [] h = tt
distinct (x ∷ xs) h = ((λ m. none_member x.position xs x h.0 m refl), distinct xs h.1)

-- a cell's atoms are within it and apart
pub apart_cell : (c : Structure) → IsCellWithinLimits c → IsApart c
apart_cell c h = record {
  within = λ a m. (atom_member (length c.names) c.n c.kind c.atoms a h.atoms m).within;
  told = λ a b j k e. told c.atoms a b h.apart j k e;
  distinct = distinct c.atoms h.apart;
}

-- ---- the definition of a cell
-- a symmetric metric tensor is its own transpose
symmetric_transposed : (g : Matrix) → IsSymmetric g → transposed g ≡ g
symmetric_transposed g h = matrix_same refl h.ab h.ac (sym h.ab) refl h.bc (sym h.ac) (sym h.bc) refl

record First (xs : List Atom) : Type 0 where
  atom : Atom
  of_list : IsMember atom xs

first_of : (xs : List Atom) → 1 ≤ length xs → First xs
first_of [] h = absurd (omega arith)
first_of (x ∷ xs) h = record { atom = x; of_list = inl refl }

some_of : (n : ℕ) → 1 ≤ n → pos 0 <ℤ pos n
some_of n h = omega (arith, ints, h)

-- what the code holds is a cell
pub is_cell : (c : Structure) → IsCellWithinLimits c → IsCell c
is_cell c h =
    let f = first_of c.atoms h.some in
    record {
      symmetric = symmetric_transposed c.metric h.symmetric;
      positive = h.positive;
      some_cells = some_of c.n h.n_at_least;
      first = f.atom;
      of_cell = f.of_list;
      named = λ a m. (atom_member (length c.names) c.n c.kind c.atoms a h.atoms m).named;
      within = λ a m. (atom_member (length c.names) c.n c.kind c.atoms a h.atoms m).within;
      one_atom_each = one_atom_each_of_apart c (apart_cell c h);
    }
