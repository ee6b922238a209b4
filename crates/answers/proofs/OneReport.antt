-- A report is one: for a command, a cell and a basis there is one text.
--
-- A strictly increasing list is told by its members, so each list of operations is one, and so is each site-symmetry group. The
-- first alike atom has the least number, a count is that of a list without repeats, and a magnetic space group has one type.
use Rattle.std.proofs.Common.{◌≡◌, ℕ, suc, ◌<◌, ℤ, pos, Bool, true, false, List, [], ◌∷◌, length, refl, sym, ap, subst, ◌∙◌, Some, get_or, arith}
use Rattle.std.specs.Prelude.{◌↔◌, slice_get}
use Rattle.std.specs.declared.option.Option.{Option}
use Rattle.std.proofs.lemmas.Option.{slice_get-get_or, slice_get_within}
use Rattle.lists.specs.Increasing.{IsIncreasing, IsMember}
use Rattle.lists.proofs.Increasing.{increasing_unique}
use Rattle.crystal_spec.specs.Matrices.{Triple, Matrix, image}
use Rattle.crystal_spec.specs.Crystals.{Atom, Structure}
use Rattle.crystal_spec.specs.Operations.{Operation, compare_of, ListsAll}
use Rattle.crystal_spec.specs.Cells.{IsCell}
use Rattle.crystal_spec.proofs.Ordered.{compare_total}
use Rattle.basis_spec.specs.Translations.{ListsPureTranslations}
use Rattle.basis_spec.specs.Bases.{cell_in_basis}
use Rattle.basis_spec.proofs.Candidates.{same_natural}
use Rattle.basis_spec.proofs.PrimitiveBases.{cell_in_basis_is_cell}
use Rattle.mag_type.specs.declared.classification.Kind.{Kind}
use Rattle.mag_type.specs.Families.{IsInFamily, IsUnprimed, IsNumberOf}
use Rattle.mag_type.specs.MagneticTypes.{HasOnlyZeroTranslation, IsMagneticType}
use Rattle.mag_type.proofs.Numbers.{one_number}
use Rattle.mag_type.proofs.OneType.{one_type}
use Rattle.mag_type.proofs.AllOperations.{group_of_all, primitive_of_all}
use Rattle.mag_ops.specs.Groups.{ListsGroup}
use Rattle.site_orbits.specs.Orbits.{IsInOrbit, IsFirstAlike, CountsOrbit}
use Rattle.site_orbits.specs.Entries.{AtomOrbit, IsOrbitOf, HaveOrbits}
use Rattle.operation_text.specs.Pages.{page_text}
use Rattle.report_text.specs.PrimitiveText.{cell_in_basis_text}
use Rattle.report_text.specs.DatasetText.{dataset_text}
use Rattle.report_text.specs.OrbitText.{orbit_text}
use Rattle.moments_text.specs.MomentsText.{moments_text}
use Rattle.command_words.specs.declared.command.Command.TheVariants.{Symmetry, Primitive, Dataset, Orbits, Hall, Identify, Standard, Compare, Moments, Fill, Selfrun}
use Rattle.report_basis.specs.declared.Kept.TheVariants.{NoBase, Back, Two}
use Rattle.answers.specs.SymmetryReports.{SymmetryReport}
use Rattle.answers.specs.PrimitiveReports.{IsPrimitiveReport}
use Rattle.answers.specs.DatasetReports.{IsDatasetReport}
use Rattle.answers.specs.OrbitReports.{IsOrbitReport}
use Rattle.answers.specs.MomentReports.{IsMomentsReport}
use Rattle.answers.specs.Reports.{HasOneReport}

-- ---- lists of operations

-- strictly increasing lists of the same operations are one
listed_once : {P : Operation → Type 0} (xs ys : List Operation) → IsIncreasing compare_of xs → IsIncreasing compare_of ys → ((o : Operation) → IsMember o xs ↔ P o) → ((o : Operation) → IsMember o ys ↔ P o) → xs ≡ ys
listed_once xs ys h k e f = increasing_unique compare_total xs ys h k (λ o. ((λ m. (f o).1 ((e o).0 m)), (λ m. (e o).1 ((f o).0 m))))

all_once : (c : Structure) (os us : List Operation) → ListsAll c os → ListsAll c us → os ≡ us
all_once c os us h k = listed_once os us h.increasing k.increasing h.exact k.exact

group_once : (time : Bool) (c : Structure) (os us : List Operation) → ListsGroup c time os → ListsGroup c time us → os ≡ us
group_once true c os us h k = all_once c os us h k
group_once false c os us h k = listed_once os us h.increasing k.increasing h.exact k.exact

-- any list of the pure translations has as many
pub pure_counted : (c : Structure) (os : List Operation) (index : ℕ) → ListsPureTranslations c os → length os ≡ index → (us : List Operation) → ListsPureTranslations c us → length us ≡ index
pure_counted c os index h e us k = ap length (listed_once us os k.increasing h.increasing k.exact h.exact) ∙ e

one_index : (i j : ℕ) (d : ℤ) → pos i ≡ d → pos j ≡ d → i ≡ j
one_index i j d e f = same_natural i j (e ∙ sym f)

-- ---- the type and the two orders

kind_once : (c : Structure) (os : List Operation) (j k : Kind) → IsCell c → ListsAll c os → HasOnlyZeroTranslation os →
    IsMagneticType os j.kind → IsMagneticType os k.kind → IsNumberOf (IsInFamily os) j.family → IsNumberOf (IsInFamily os) k.family → IsNumberOf (IsUnprimed os) j.unprimed → IsNumberOf (IsUnprimed os) k.unprimed → j ≡ k
kind_once c os j k cell all zero_alone a b f g u v = λ i. record {
  kind = one_type c.n os (group_of_all c os cell all) zero_alone j.kind k.kind a b i;
  family = one_number (IsInFamily os) j.family k.family f g i;
  unprimed = one_number (IsUnprimed os) j.unprimed k.unprimed u v i;
}

-- ---- orbits

first_once : (c : Structure) (r : Matrix) (os : List Operation) (p : Triple) (i j : ℕ) → IsFirstAlike c r os p i → IsFirstAlike c r os p j → i ≡ j
first_once c r os p i j h k =
    let up = h.least j k.atom k.is_atom k.alike in
    let down = k.least i h.atom h.is_atom h.alike in
    omega (arith, up, down)

size_once : (c : Structure) (os : List Operation) (p : Triple) (i j : ℕ) → CountsOrbit c os p i → CountsOrbit c os p j → i ≡ j
size_once c os p i j h k =
    one_number (IsInOrbit c os p) i j (record { all = h.atoms; once = h.once; exact = h.exact; count = sym h.is }) (record { all = k.atoms; once = k.once; exact = k.exact; count = sym k.is })

orbit_once : (c : Structure) (r : Matrix) (b : Structure) (os : List Operation) (p : Triple) (o u : AtomOrbit) → IsOrbitOf c r b os p o → IsOrbitOf c r b os p u → o ≡ u
orbit_once c r b os p o u h k = λ i. record {
  first = first_once c r os p o.first u.first h.first k.first i;
  size = size_once b os p o.size u.size h.size k.size i;
  site = record {
    n = (h.same_n ∙ sym k.same_n) i;
    operations = listed_once o.site.operations u.site.operations h.site.increasing k.site.increasing h.site.exact k.site.exact i;
  };
}

-- lists of one length that agree at each place are one
same_items : {X : Type 0} (xs ys : List X) → length xs ≡ length ys → ((i : ℕ) (x y : X) → slice_get xs i ≡ Some x → slice_get ys i ≡ Some y → x ≡ y) → xs ≡ ys
same_items [] [] e h = refl
same_items [] (y ∷ ys) e h = absurd (omega (arith, e))
same_items (x ∷ xs) [] e h = absurd (omega (arith, e))
same_items (x ∷ xs) (y ∷ ys) e h =
    let first = h 0 x y refl refl in
    let rest = same_items xs ys (omega (arith, e)) (λ i a b p q. h (suc i) a b p q) in
    λ i. first i ∷ rest i

-- some atom
no_atom : Atom
no_atom = record { species = 0; position = record { x = pos 0; y = pos 0; z = pos 0 }; moment = record { x = pos 0; y = pos 0; z = pos 0 } }

orbits_once : (c : Structure) (r : Matrix) (b : Structure) (os : List Operation) (xs ys : List AtomOrbit) → length xs ≡ length c.atoms → length ys ≡ length c.atoms → HaveOrbits c r b os xs → HaveOrbits c r b os ys → xs ≡ ys
orbits_once c r b os xs ys m n h k = same_items xs ys (m ∙ sym n) (λ i x y p q.
    let inside : i < length c.atoms = subst (λ (l : ℕ). i < l) m (slice_get_within xs i x p) in
    let a = get_or c.atoms i no_atom in
    let at = slice_get-get_or c.atoms i no_atom inside in
    orbit_once c r b os (image r a.position) x y (h i x p a at) (k i y q a at))

-- ---- the reports

symmetry_once : (c : Structure) (time : Bool) (skip : ℕ) (most : Option ℕ) (bytes others : List ℕ) → SymmetryReport c time skip most bytes → SymmetryReport c time skip most others → bytes ≡ others
symmetry_once c time skip most bytes others h k =
    let same = group_once time c h.operations k.operations h.all k.all in
    h.lines ∙ ap (λ (os : List Operation). page_text (record { n = c.n; operations = os }) skip most) same ∙ sym k.lines

primitive_once : (c : Structure) (q : Matrix) (bytes others : List ℕ) → IsPrimitiveReport c q bytes → IsPrimitiveReport c q others → bytes ≡ others
primitive_once c q bytes others h k = h.lines ∙ ap (λ (i : ℕ). cell_in_basis_text i q (cell_in_basis c q)) (one_index h.index k.index _ h.index_is k.index_is) ∙ sym k.lines

dataset_once : (c : Structure) (q : Matrix) (bytes others : List ℕ) → IsCell c → IsDatasetReport c q bytes → IsDatasetReport c q others → bytes ≡ others
dataset_once c q bytes others cell h k =
    let b = cell_in_basis c q in
    let os = h.operations in
    let same = all_once b os k.operations h.all k.all in
    let kinds = kind_once b os h.kind k.kind (cell_in_basis_is_cell c q cell h.primitive.same.determinant_positive) h.all (primitive_of_all b os h.primitive.primitive h.all)
    h.is_type (subst (λ (us : List Operation). IsMagneticType us k.kind.kind) (sym same) k.is_type)
    h.family (subst (λ (us : List Operation). IsNumberOf (IsInFamily us) k.kind.family) (sym same) k.family)
    h.unprimed (subst (λ (us : List Operation). IsNumberOf (IsUnprimed us) k.kind.unprimed) (sym same) k.unprimed) in
    let orbits = orbits_once c q b os h.orbits k.orbits h.of_each_atom k.of_each_atom h.are_orbits (subst (λ (us : List Operation). HaveOrbits c q b us k.orbits) (sym same) k.are_orbits) in
    let index = one_index h.index k.index _ h.index_is k.index_is in
    let of_cell = all_once c h.operations_of_cell k.operations_of_cell h.all_of_cell k.all_of_cell in
    h.lines ∙ (λ i. dataset_text (index i) q b (record { n = c.n; operations = same i }) (length (of_cell i)) (kinds i) (orbits i)) ∙ sym k.lines

orbits_report_once : (c : Structure) (q : Matrix) (bytes others : List ℕ) → IsOrbitReport c q bytes → IsOrbitReport c q others → bytes ≡ others
orbits_report_once c q bytes others h k =
    let b = cell_in_basis c q in
    let same = all_once b h.operations k.operations h.all k.all in
    let orbits = orbits_once c q b h.operations h.orbits k.orbits h.of_each_atom k.of_each_atom h.are_orbits (subst (λ (us : List Operation). HaveOrbits c q b us k.orbits) (sym same) k.are_orbits) in
    h.lines ∙ ap (orbit_text c.names c.atoms) orbits ∙ sym k.lines

moments_once : (c : Structure) (q : Matrix) (bytes others : List ℕ) → IsMomentsReport c q bytes → IsMomentsReport c q others → bytes ≡ others
moments_once c q bytes others h k =
    let b = cell_in_basis c q in
    let one = h.are_orbits in
    let other = k.are_orbits in
    let same = all_once b one.operations other.operations one.all other.all in
    let orbits = orbits_once c q b one.operations h.orbits k.orbits one.of_each_atom other.of_each_atom one.are_orbits (subst (λ (us : List Operation). HaveOrbits c q b us k.orbits) (sym same) other.are_orbits) in
    h.lines ∙ ap (moments_text q c) orbits ∙ sym k.lines

-- by cases on the command and the basis
pub one_report : (c : Structure) → IsCell c → HasOneReport c
one_report c cell (Symmetry time skip most) NoBase bytes others h k = symmetry_once c time skip most bytes others h k
one_report c cell (Symmetry time skip most) (Back q) bytes others h k = absurd h
one_report c cell (Symmetry time skip most) (Two q q') bytes others h k = absurd h
one_report c cell Primitive NoBase bytes others h k = absurd h
one_report c cell Primitive (Back q) bytes others h k = primitive_once c q bytes others h k
one_report c cell Primitive (Two q q') bytes others h k = absurd h
one_report c cell Dataset NoBase bytes others h k = absurd h
one_report c cell Dataset (Back q) bytes others h k = dataset_once c q bytes others cell h k
one_report c cell Dataset (Two q q') bytes others h k = absurd h
one_report c cell Orbits NoBase bytes others h k = absurd h
one_report c cell Orbits (Back q) bytes others h k = orbits_report_once c q bytes others h k
one_report c cell Orbits (Two q q') bytes others h k = absurd h
one_report c cell Hall kept bytes others h k = absurd h
one_report c cell Identify kept bytes others h k = absurd h
one_report c cell Standard kept bytes others h k = absurd h
one_report c cell Compare kept bytes others h k = absurd h
one_report c cell Moments NoBase bytes others h k = absurd h
one_report c cell Moments (Back q) bytes others h k = moments_once c q bytes others h k
one_report c cell Moments (Two q q') bytes others h k = absurd h
one_report c cell (Fill f) kept bytes others h k = absurd h
one_report c cell (Selfrun seed) kept bytes others h k = absurd h
