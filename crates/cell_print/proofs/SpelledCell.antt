-- A printed cell is spelled by its text.
use Rattle.std.proofs.Common.{◌≡◌, ℕ, zero, suc, ◌^◌, ◌<◌, ◌≤◌, true, List, [], ◌∷◌, ◌++◌, length, map, get_or, refl, sym, ap, subst, ◌∙◌, arith, append_assoc, length-append}
use Rattle.std.specs.Prelude.{ℤ, pos, negsuc, ◌≤ℤ◌, ◌<ℤ◌, unsigned_abs}
use Rattle.std.specs.List.{list_all, fold}
use Rattle.std.proofs.lemmas.Bool.{and_parts}
use Rattle.std.proofs.lemmas.Int.{ints}
use Rattle.numbers.specs.Residue.{residue}
use Rattle.numbers.proofs.ResidueRing.{residue_below}
use Rattle.crystal_spec.specs.declared.MomentKind.{MomentKind}
use Rattle.crystal_spec.specs.Matrices.{Triple}
use Rattle.crystal_spec.specs.Crystals.{Atom, Structure}
use Rattle.crystal.specs.declared.limits.TheConstants.{MOST_ATOMS}
use Rattle.crystal.specs.Names.{is_name}
use Rattle.crystal.specs.Occupants.{NoneAt}
use Rattle.crystal.specs.Cells.{IsCellWithinLimits, IsCellAtom, AreCellAtoms, AreApart}
use Rattle.plain_text.specs.NumberWords.{scaled, common_denominator}
use Rattle.cell_text.specs.Entries.{kind_of, positions, moments}
use Rattle.cell_text.specs.Rules.{first_fault, cell_fault}
use Rattle.cell_text.specs.CellFile.{with_name, names_of, number_of, part_of, atom_of, cell_with, cell_of, Spells}
use Rattle.cell_print.specs.CellFileText.{scalar_products, cell_file_text}
use Rattle.cell_print.specs.Printable.{all_positions, all_moments, AreAtMost, IsPrintable}
use Rattle.plain_text.proofs.NumberWords.{reduced}
use Rattle.cell_print.proofs.TextCuts.{AreSmall}
use Rattle.cell_print.proofs.CommonDenominators.{common_denominator-reduced, scaled-reduced}
use Rattle.cell_print.proofs.NamesRead.{number-of_name, names_behind, AreBelow, names-by_first_use}
use Rattle.cell_print.proofs.FirstLines.{kind-told}
use Rattle.cell_print.proofs.PrintedLines.{name_of, ArePlain, cell_file_text-lines}
use Rattle.cell_print.proofs.ReadLines.{IsPlainMetric, HasUnits, entry}
use Rattle.cell_print.proofs.JudgedText.{CanFollowAll, IsElsewhere, whole, positions-entries, moments-entries, lines-read}

-- ---- sizes

small_from : (zs : List ℤ) → AreAtMost (10 ^ 9) zs → AreSmall zs
small_from [] h = tt
small_from (z ∷ zs) h = (omega (arith, h.0), small_from zs h.1)

abs_within : (z : ℤ) (n : ℕ) → n ≤ 10 ^ 6 → (pos 0 ≤ℤ z) × (z <ℤ pos n) → unsigned_abs z < 10 ^ 18
abs_within (pos a) n small h = omega (arith, ints, small, h.1)
abs_within (negsuc a) n small h = absurd (omega (arith, ints, h.0))

some_abs : (z : ℤ) → pos 1 ≤ℤ z → 0 < unsigned_abs z
some_abs (pos a) h = omega (arith, ints, h)
some_abs (negsuc a) h = absurd (omega (arith, ints, h))

most_abs : (z : ℤ) → pos 1 ≤ℤ z → z ≤ℤ pos (10 ^ 9) → unsigned_abs z ≤ 10 ^ 9
most_abs (pos a) some h = omega (arith, ints, h)
most_abs (negsuc a) some h = absurd (omega (arith, ints, some))

same_abs : (z : ℤ) → pos 1 ≤ℤ z → pos (unsigned_abs z) ≡ z
same_abs (pos a) some = refl
same_abs (negsuc a) some = absurd (omega (arith, ints, some))

-- ---- what is known of a cell and its atoms

metric-plain : (c : Structure) → IsCellWithinLimits c → IsPrintable c → IsPlainMetric c
metric-plain c cell printable = record {
  some = some_abs c.scale cell.scale_at_least;
  small_scale = most_abs c.scale cell.scale_at_least printable.scale;
  small = small_from (scalar_products c.metric) printable.metric;
  at_most = printable.metric;
  least = printable.least_scale;
  same = cell.symmetric;
  positive = cell.positive;
}

has_units : (c : Structure) → IsCellWithinLimits c → HasUnits c
has_units c cell = record { some_n = cell.n_at_least; some_k = cell.k_at_least; small_n = cell.n_at_most; small_k = cell.k_at_most }

name_at : (names : List (List ℕ)) (i : ℕ) → list_all is_name names ≡ true → i < length names → is_name (get_or names i []) ≡ true
name_at [] i e h = absurd (omega arith)
name_at (x ∷ xs) zero e h = (and_parts (is_name x) (list_all is_name xs) e).0
name_at (x ∷ xs) (suc i) e h = name_at xs i (and_parts (is_name x) (list_all is_name xs) e).1 (omega arith)

atoms-plain : (c : Structure) (atoms : List Atom) → c.n ≤ 10 ^ 6 → list_all is_name c.names ≡ true → AreCellAtoms (length c.names) c.n c.kind atoms → AreAtMost (10 ^ 9) (all_moments atoms) → ArePlain c atoms
atoms-plain c [] small names h most = tt
atoms-plain c (s ∷ atoms) small names h most =
    let p = h.0.within in (
      record {
        name = name_at c.names s.species names h.0.named;
        position = (abs_within s.position.x c.n small p.x, (abs_within s.position.y c.n small p.y, (abs_within s.position.z c.n small p.z, tt)));
        moment = (omega (arith, most.0), (omega (arith, most.1.0), (omega (arith, most.1.1.0), tt)));
        of_kind = h.0.of_kind;
      },
      atoms-plain c atoms small names h.1 most.1.1.1,
    )

-- ---- each atom can follow those before it

not_there : (p : Triple) (before : List Atom) (s : Atom) (later : List Atom) → NoneAt p (before ++ s ∷ later) → s.position ≡ p → ⊥
not_there p [] s later h = h.0
not_there p (a ∷ before) s later h = not_there p before s later h.1

elsewhere : (c : Structure) (before : List Atom) (s : Atom) (later : List Atom) → AreCellAtoms (length c.names) c.n c.kind (before ++ s ∷ later) → AreApart (before ++ s ∷ later) → IsElsewhere c before s
elsewhere c [] s later h apart = tt
elsewhere c (a ∷ before) s later h apart = ((h.0.within, λ same. not_there a.position before s later apart.0 (sym same)), elsewhere c before s later h.1 apart.1)

moments-front : (before : List Atom) (s : Atom) (later : List Atom) → AreAtMost (10 ^ 9) (all_moments (before ++ s ∷ later)) → AreAtMost (10 ^ 9) (all_moments (before ++ s ∷ []))
moments-front [] s later h = (h.0, (h.1.0, (h.1.1.0, tt)))
moments-front (a ∷ before) s later h = (h.0, (h.1.0, (h.1.1.0, moments-front before s later h.1.1.1)))

all_follow : (c : Structure) (all before later : List Atom) → before ++ later ≡ all → length all ≤ MOST_ATOMS → AreCellAtoms (length c.names) c.n c.kind all → AreApart all → AreAtMost (10 ^ 9) (all_moments all) → AreCellAtoms (length c.names) c.n c.kind later → ArePlain c later → CanFollowAll c before later
all_follow c all before [] e few atoms apart most here plain = tt
all_follow c all before (s ∷ later) e few atoms apart most here plain = (
  record {
    fewer = omega (arith, few, ap length e, length-append before (s ∷ later));
    plain = plain.0;
    within = here.0.within;
    away = elsewhere c before s later (subst (AreCellAtoms (length c.names) c.n c.kind) (sym e) atoms) (subst AreApart (sym e) apart);
    moments = moments-front before s later (subst (λ (xs : List Atom). AreAtMost (10 ^ 9) (all_moments xs)) (sym e) most);
  },
  all_follow c all (before ++ s ∷ []) later (append_assoc before (s ∷ []) later ∙ e) few atoms apart most here.1 plain.1,
)

-- ---- the cell of the contents

names-fold : (c : Structure) (so_far : List (List ℕ)) (atoms : List Atom) → fold (λ names a. with_name names a.name) so_far (map (entry c) atoms) ≡ names_behind c.names so_far atoms
names-fold c so_far [] = refl
names-fold c so_far (s ∷ atoms) = names-fold c (with_name so_far (name_of c s)) atoms

below_from : (total n : ℕ) (kind : MomentKind) (atoms : List Atom) → AreCellAtoms total n kind atoms → AreBelow total atoms
below_from total n kind [] h = tt
below_from total n kind (s ∷ atoms) h = (h.0.named, below_from total n kind atoms h.1)

names-whole : (c : Structure) → IsCellWithinLimits c → IsPrintable c → names_of (map (entry c) c.atoms) ≡ c.names
unfolding names_of
names-whole c cell printable = names-fold c [] c.atoms ∙ names-by_first_use c.names 0 c.atoms cell.names_differ (below_from (length c.names) c.n c.kind c.atoms cell.atoms) printable.species

part-reduced : (n : ℕ) (z : ℤ) → 0 < n → (pos 0 ≤ℤ z) × (z <ℤ pos n) → part_of n (reduced n z) ≡ z
part-reduced n (pos a) some h = ap (residue n) (scaled-reduced n (pos a) some) ∙ residue_below n a (omega (arith, ints, h.1))
part-reduced n (negsuc a) some h = absurd (omega (arith, ints, h.0))

atom-whole : (c : Structure) (s : Atom) → IsCellWithinLimits c → IsCellAtom (length c.names) c.n c.kind s → atom_of c.names c.n c.k (entry c s) ≡ s
atom-whole c s cell h =
    let number : number_of c.names (name_of c s) ≡ s.species = number-of_name c.names s.species cell.names_differ h.named in
    let x : part_of c.n (reduced c.n s.position.x) ≡ s.position.x = part-reduced c.n s.position.x cell.n_at_least h.within.x in
    let y : part_of c.n (reduced c.n s.position.y) ≡ s.position.y = part-reduced c.n s.position.y cell.n_at_least h.within.y in
    let z : part_of c.n (reduced c.n s.position.z) ≡ s.position.z = part-reduced c.n s.position.z cell.n_at_least h.within.z in
    let ma : scaled c.k (reduced c.k s.moment.x) ≡ s.moment.x = scaled-reduced c.k s.moment.x cell.k_at_least in
    let mb : scaled c.k (reduced c.k s.moment.y) ≡ s.moment.y = scaled-reduced c.k s.moment.y cell.k_at_least in
    let mc : scaled c.k (reduced c.k s.moment.z) ≡ s.moment.z = scaled-reduced c.k s.moment.z cell.k_at_least in
    λ i. record { species = number i; position = record { x = x i; y = y i; z = z i }; moment = record { x = ma i; y = mb i; z = mc i } }

atoms-whole : (c : Structure) (atoms : List Atom) → IsCellWithinLimits c → AreCellAtoms (length c.names) c.n c.kind atoms → map (atom_of c.names c.n c.k) (map (entry c) atoms) ≡ atoms
atoms-whole c [] cell h = refl
atoms-whole c (s ∷ atoms) cell h =
    ap (λ (t : Atom). t ∷ map (atom_of c.names c.n c.k) (map (entry c) atoms)) (atom-whole c s cell h.0) ∙ ap (λ (ts : List Atom). s ∷ ts) (atoms-whole c atoms cell h.1)

cell_with-whole : (c : Structure) → IsCellWithinLimits c → IsPrintable c → cell_with (whole c) ≡ c
unfolding cell_with
cell_with-whole c cell printable =
    let names = names-whole c cell printable in
    let n = ap common_denominator (positions-entries c c.atoms) ∙ common_denominator-reduced c.n (all_positions c.atoms) cell.n_at_least printable.least_n in
    let k = ap common_denominator (moments-entries c c.atoms) ∙ common_denominator-reduced c.k (all_moments c.atoms) cell.k_at_least printable.least_k in
    let scale = same_abs c.scale cell.scale_at_least in
    ap (λ (ns : List (List ℕ)). made (pos (unsigned_abs c.scale)) ns (common_denominator (positions (map (entry c) c.atoms))) (common_denominator (moments (map (entry c) c.atoms))) (map (atom_of ns (common_denominator (positions (map (entry c) c.atoms))) (common_denominator (moments (map (entry c) c.atoms)))) (map (entry c) c.atoms))) names
    ∙ ap (λ (m : ℕ). made (pos (unsigned_abs c.scale)) c.names m (common_denominator (moments (map (entry c) c.atoms))) (map (atom_of c.names m (common_denominator (moments (map (entry c) c.atoms)))) (map (entry c) c.atoms))) n
    ∙ ap (λ (m : ℕ). made (pos (unsigned_abs c.scale)) c.names c.n m (map (atom_of c.names c.n m) (map (entry c) c.atoms))) k
    ∙ ap (λ (z : ℤ). made z c.names c.n c.k (map (atom_of c.names c.n c.k) (map (entry c) c.atoms))) scale
    ∙ ap (made c.scale c.names c.n c.k) (atoms-whole c c.atoms cell cell.atoms)
    ∙ ap (λ (kind : MomentKind). record c { kind = kind }) (kind-told c.kind)
  where
    made : ℤ → List (List ℕ) → ℕ → ℕ → List Atom → Structure
    made scale names n k atoms = record { names = names; scale = scale; metric = c.metric; n = n; k = k; kind = kind_of (whole c); atoms = atoms }

-- ---- the text spells the cell

-- A printable cell is the one that its text spells.
pub cell_file_text-spells : (c : Structure) → IsCellWithinLimits c → IsPrintable c → Spells (cell_file_text c) c
unfolding cell_fault
cell_file_text-spells c cell printable =
    let metric = metric-plain c cell printable in
    let units = has_units c cell in
    let plain = atoms-plain c c.atoms cell.n_at_most printable.names cell.atoms printable.moments in
    let follow = all_follow c c.atoms [] c.atoms refl cell.few cell.atoms cell.apart printable.moments cell.atoms plain in
    let read = lines-read c metric units cell.some follow in
    let text = cell_file_text-lines c (omega (arith, metric.small_scale)) (omega (arith, units.small_n)) (omega (arith, units.small_k)) metric.small plain in
    record {
      faultless = ap (first_fault []) text ∙ read.faultless;
      is = sym (ap cell_of text ∙ ap cell_with read.held ∙ cell_with-whole c cell printable);
    }
