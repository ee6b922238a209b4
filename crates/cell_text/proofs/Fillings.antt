-- A cell while its atoms are added.
use Rattle.std.proofs.Common.{◌≡◌, ℕ, zero, suc, ◌+◌, ◌<◌, ◌≤◌, List, [], ◌∷◌, ◌++◌, length, map, take, drop, get_or, refl, sym, ap, subst, ◌∙◌, arith, add-one, length-append, length-drop, ◌-◌}
use Rattle.std.specs.Prelude.{pos, false, ◌/◌}
use Rattle.std.proofs.Math.IntN.{zero-*ℤ}
use Rattle.std.proofs.lemmas.List.{map-append, length-map, take_rest, take_all}
use Rattle.lists.specs.Increasing.{IsMember}
use Rattle.crystal_spec.specs.declared.MomentKind.{MomentKind}
use Rattle.crystal_spec.specs.Moments.{axial_vectors, IsOfKind}
use Rattle.crystal_spec.specs.Matrices.{Triple}
use Rattle.crystal_spec.specs.Crystals.{Atom, Structure}
use Rattle.cell_text.specs.declared.atom_line.AtomLine.{AtomLine as CodeAtom}
use Rattle.crystal.specs.declared.limits.TheConstants.{MOST_ATOMS, MOST_NAMES}
use Rattle.crystal.specs.Occupants.{NoneAt}
use Rattle.plain_text.specs.NumberWords.{common_denominator, scaled}
use Rattle.cell_text.specs.Entries.{AtomLine, ScaledMetric, nothing, positions, moments}
use Rattle.cell_text.specs.CellFile.{with_name, names_of, number_of, atom_of, position_of, moment_of, cell_with}
use Rattle.cell_text.specs.Filling.{with_atom, filled, whole_of}
use Rattle.cell_text.specs.Views.{atom_view, AreApart, IsOfScalar, AreOfKind}
use Rattle.cell_text.proofs.Apart.{AllDivide, all_divide, none_before}
use Rattle.cell_text.proofs.NameLemmas.{old_name, new_name, new_member, number_below, with_most, names-more, number-final, names_at_most}

-- ---- one name

abbrev renamed : Structure → List (List ℕ) → Structure
renamed s names = record s { names = names }

pub kept_names : (s : Structure) (w : List ℕ) (i : ℕ) → i ≡ number_of s.names w → i < length s.names → s ≡ record s { names = with_name s.names w }
kept_names s w i e h = ap (renamed s) (sym (old_name s.names w (subst (λ (j : ℕ). j < length s.names) e h)))

past : (names : List (List ℕ)) (w : List ℕ) (i : ℕ) → i ≡ number_of names w → length names ≤ i → number_of names w < length names → ⊥
past names w i e h k = absurd (omega (arith, e, h, k))

pub more_names : (s new : Structure) (v w : List ℕ) (i : ℕ) → i ≡ number_of s.names w → length s.names ≤ i → v ≡ w → new ≡ record s { names = s.names ++ v ∷ [] } → new ≡ record s { names = with_name s.names w }
more_names s new v w i e h same is =
    is ∙ ap (renamed s) (ap (λ (u : List ℕ). s.names ++ u ∷ []) same ∙ sym (new_name s.names w (past s.names w i e h)))

pub is_new : (names : List (List ℕ)) (v w : List ℕ) (i : ℕ) → i ≡ number_of names w → length names ≤ i → v ≡ w → IsMember v names → ⊥
is_new names v w i e h same m = new_member names w (past names w i e h) (subst (λ (u : List ℕ). IsMember u names) same m)

-- ---- the atoms so far

pub split_at : (xs : List CodeAtom) (i : ℕ) (x : CodeAtom) → i < length xs → get_or xs i x ≡ x → map atom_view xs ≡ map atom_view (take i xs) ++ atom_view x ∷ map atom_view (drop (suc i) xs)
split_at [] i x h e = absurd (omega arith)
split_at (y ∷ ys) zero x h e = ap (λ (z : CodeAtom). atom_view z ∷ map atom_view ys) e
split_at (y ∷ ys) (suc i) x h e = ap (λ (zs : List AtomLine). atom_view y ∷ zs) (split_at ys i x (omega arith) e)

take_suc : (xs : List CodeAtom) (i : ℕ) (x : CodeAtom) → i < length xs → get_or xs i x ≡ x → map atom_view (take (suc i) xs) ≡ map atom_view (take i xs) ++ atom_view x ∷ []
take_suc [] i x h e = absurd (omega arith)
take_suc (y ∷ ys) zero x h e = ap (λ (z : CodeAtom). atom_view z ∷ []) e
take_suc (y ∷ ys) (suc i) x h e = ap (λ (zs : List AtomLine). atom_view y ∷ zs) (take_suc ys i x (omega arith) e)

-- one atom more: its species has the number that it has in the whole cell
atom-final : (n k : ℕ) (held : List AtomLine) (b : AtomLine) (later : List AtomLine) → atom_of (names_of held) n k b ≡ atom_of (names_of (held ++ b ∷ later)) n k b
atom-final n k held b later = ap (λ (i : ℕ). at i) (sym (number-final held b later))
  where
    at : ℕ → Atom
    at i = record { species = i; position = position_of n b; moment = moment_of k b }

abbrev made : MomentKind → ScaledMetric → ℕ → ℕ → List (List ℕ) → List Atom → Structure
made kind metric n k names atoms = record { names = names; scale = pos metric.scale; metric = metric.entries; n = n; k = k; kind = kind; atoms = atoms }

with_two : (kind : MomentKind) (metric : ScaledMetric) (n k : ℕ) (names ns : List (List ℕ)) (atoms ss : List Atom) → names ≡ ns → atoms ≡ ss → made kind metric n k names atoms ≡ made kind metric n k ns ss
with_two kind metric n k names ns atoms ss e f = ap (λ (xs : List (List ℕ)). made kind metric n k xs atoms) e ∙ ap (made kind metric n k ns) f

pub filled_more : (kind : MomentKind) (metric : ScaledMetric) (n k : ℕ) (all held : List AtomLine) (b : AtomLine) (later : List AtomLine) → all ≡ held ++ b ∷ later → with_atom (filled kind metric n k all held) b ≡ filled kind metric n k all (held ++ b ∷ [])
filled_more kind metric n k all held b later e =
    let names = sym (names-more held b) in
    let final = atom-final n k held b later ∙ ap (λ (xs : List AtomLine). atom_of (names_of xs) n k b) (sym e) in
    let atoms = ap (λ (s : Atom). map (atom_of (names_of all) n k) held ++ s ∷ []) final ∙ sym (map-append (atom_of (names_of all) n k) held (b ∷ [])) in
    with_two kind metric n k _ _ _ _ names atoms

-- ---- the number of a species

pub is_small : (names : List (List ℕ)) (w : List ℕ) (i : ℕ) → i ≡ number_of names w → length names < MOST_NAMES → i < 65536
is_small names w i e h = omega (arith, e, number_below names w, with_most names w, h)

pub is_named : (names more : List (List ℕ)) (w : List ℕ) (i : ℕ) → i ≡ number_of names w → more ≡ with_name names w → i < length more
is_named names more w i e f = omega (arith, e, number_below names w, ap length f)

-- ---- the cell of some of the atoms

-- what stands behind the first atom
pub rest_at : (atoms : List CodeAtom) (i : ℕ) (x : CodeAtom) → i < length (take (length atoms - 1) (drop 1 atoms)) → x ≡ get_or (take (length atoms - 1) (drop 1 atoms)) i x → (suc i < length atoms) × (get_or atoms (suc i) x ≡ x)
rest_at [] i x h e = absurd (omega arith)
rest_at (a ∷ atoms) i x h e =
    let rest : take (length (a ∷ atoms) - 1) (drop 1 (a ∷ atoms)) ≡ atoms = take_rest (a ∷ atoms) 1 in
    let below : i < length atoms = subst (λ (xs : List CodeAtom). i < length xs) rest h in
    (omega (arith, below), sym (subst (λ (xs : List CodeAtom). x ≡ get_or xs i x) rest e))

pub first_at : (atoms : List CodeAtom) (x : CodeAtom) → 0 < length atoms → x ≡ get_or atoms 0 x → (map atom_view (take 1 atoms) ≡ atom_view x ∷ []) × (map atom_view atoms ≡ atom_view x ∷ map atom_view (drop 1 atoms))
first_at [] x h e = absurd (omega arith)
first_at (a ∷ atoms) x h e = (ap (λ (z : CodeAtom). atom_view z ∷ []) (sym e), ap (λ (z : CodeAtom). atom_view z ∷ map atom_view atoms) (sym e))

pub next_at : (atoms : List CodeAtom) (i : ℕ) (x : CodeAtom) → (suc i < length atoms) × (get_or atoms (suc i) x ≡ x) → map atom_view (take (suc (i + 1)) atoms) ≡ map atom_view (take (suc i) atoms) ++ atom_view x ∷ []
next_at atoms i x h = ap (λ (j : ℕ). map atom_view (take (suc j) atoms)) (add-one i) ∙ take_suc atoms (suc i) x h.0 h.1

pub all_taken : (atoms : List CodeAtom) (i : ℕ) → length (take (length atoms - 1) (drop 1 atoms)) ≤ i → map atom_view atoms ≡ map atom_view (take (suc i) atoms)
all_taken atoms i h =
    let rest : take (length atoms - 1) (drop 1 atoms) ≡ drop 1 atoms = take_rest atoms 1 in
    ap (map atom_view) (sym (take_all (suc i) atoms (omega (arith, h, ap length rest, length-drop 1 atoms))))

pub filled_first : (kind : MomentKind) (metric : ScaledMetric) (n k : ℕ) (all : List AtomLine) (b : AtomLine) (later : List AtomLine) → all ≡ b ∷ later → made kind metric n k (b.name ∷ []) (record { species = 0; position = position_of n b; moment = moment_of k b } ∷ []) ≡ filled kind metric n k all (b ∷ [])
unfolding names_of
filled_first kind metric n k all b later e =
    let number : number_of (names_of all) b.name ≡ 0 = ap (λ (xs : List AtomLine). number_of (names_of xs) b.name) e ∙ number-final [] b later in
    with_two kind metric n k _ _ _ _ refl (ap (λ (s : Atom). s ∷ []) (ap at (sym number)))
  where
    at : ℕ → Atom
    at i = record { species = i; position = position_of n b; moment = moment_of k b }

-- no atom so far is at the position of the next
pub free_more : (kind : MomentKind) (metric : ScaledMetric) (n k : ℕ) (all held : List AtomLine) (b : AtomLine) (later : List AtomLine) (cell : Structure) → all ≡ held ++ b ∷ later → n ≡ common_denominator (positions all) → 1 ≤ n → AreApart all → cell ≡ filled kind metric n k all held → NoneAt (position_of cell.n b) cell.atoms
free_more kind metric n k all held b later cell e is some apart view =
    let divide : AllDivide n all = subst (λ (m : ℕ). AllDivide m all) (sym is) (all_divide 1 all) in
    subst (λ (s : Structure). NoneAt (position_of s.n b) s.atoms) (sym view) (none_before (names_of all) n k held b later some (subst (AllDivide n) e divide) (subst AreApart e apart))

pub fewer_atoms : (kind : MomentKind) (metric : ScaledMetric) (n k : ℕ) (all held : List AtomLine) (b : AtomLine) (later : List AtomLine) (cell : Structure) → all ≡ held ++ b ∷ later → length all ≤ MOST_ATOMS → cell ≡ filled kind metric n k all held → length cell.atoms < MOST_ATOMS
fewer_atoms kind metric n k all held b later cell e few view =
    omega (arith, ap (λ (s : Structure). length s.atoms) view, length-map held (atom_of (names_of all) n k), ap length e, length-append held (b ∷ later), few)

pub fewer_names : (kind : MomentKind) (metric : ScaledMetric) (n k : ℕ) (all held : List AtomLine) (b : AtomLine) (later : List AtomLine) (cell : Structure) → all ≡ held ++ b ∷ later → length all ≤ MOST_ATOMS → cell ≡ filled kind metric n k all held → length cell.names < MOST_NAMES
fewer_names kind metric n k all held b later cell e few view =
    omega (arith, ap (λ (s : Structure). length s.names) view, names_at_most held, ap length e, length-append held (b ∷ later), few)

pub filled_next : (kind : MomentKind) (metric : ScaledMetric) (n k : ℕ) (all held more : List AtomLine) (b : AtomLine) (later : List AtomLine) (cell new : Structure) → all ≡ held ++ b ∷ later → more ≡ held ++ b ∷ [] → cell ≡ filled kind metric n k all held → new ≡ with_atom cell b → new ≡ filled kind metric n k all more
filled_next kind metric n k all held more b later cell new e step view is =
    is ∙ ap (λ (s : Structure). with_atom s b) view ∙ filled_more kind metric n k all held b later e ∙ ap (filled kind metric n k all) (sym step)

pub names_next : (kind : MomentKind) (metric : ScaledMetric) (n k : ℕ) (all held more : List AtomLine) (b : AtomLine) (cell : Structure) (names : List (List ℕ)) → more ≡ held ++ b ∷ [] → cell ≡ filled kind metric n k all held → names ≡ with_name cell.names b.name → names ≡ names_of more
names_next kind metric n k all held more b cell names step view is =
    is ∙ ap (λ (s : Structure). with_name s.names b.name) view ∙ sym (names-more held b) ∙ ap names_of (sym step)

pub filled_all : (kinds : List MomentKind) (metric : ScaledMetric) (n k : ℕ) (all held : List AtomLine) (cell : Structure) → all ≡ held → n ≡ common_denominator (positions all) → k ≡ common_denominator (moments all) → cell ≡ filled (get_or kinds 0 axial_vectors) metric n k all held → cell ≡ cell_with (whole_of kinds metric all)
unfolding cell_with
filled_all kinds metric n k all held cell e f g view =
    let kind : MomentKind = get_or kinds 0 axial_vectors in
    view ∙ ap (filled kind metric n k all) (sym e) ∙ ap (λ (m : ℕ). filled kind metric m k all all) f ∙ ap (λ (m : ℕ). filled kind metric (common_denominator (positions all)) m all all) g

pub first_name : (b : AtomLine) → b.name ∷ [] ≡ names_of (b ∷ [])
unfolding names_of
first_name b = refl

-- ---- the moments are of one kind

none_scaled : (k : ℕ) → scaled k nothing ≡ pos 0
none_scaled k = zero-*ℤ (pos (k / 1))

-- the moment of an atom of scalars is a scalar
pub scalar_moment : (kind : MomentKind) (k : ℕ) (a : AtomLine) → (kind.vector ≡ false → IsOfScalar a) → IsOfKind kind (moment_of k a)
scalar_moment kind k a h scalar =
    let both = h scalar in
    (ap (scaled k) both.0 ∙ none_scaled k, ap (scaled k) both.1 ∙ none_scaled k)

pub kind_added : (kind other : MomentKind) (k l : ℕ) (a : AtomLine) (m : Triple) → other ≡ kind → l ≡ k → m ≡ moment_of l a → IsOfKind kind (moment_of k a) → IsOfKind other m
kind_added kind other k l a m e f g h =
    subst (λ (x : MomentKind). IsOfKind x m) (sym e) (subst (IsOfKind kind) (sym (g ∙ ap (λ (j : ℕ). moment_of j a) f)) h)

-- one of the atoms
pub kind_at : (kind : MomentKind) (xs : List CodeAtom) (i : ℕ) (x : CodeAtom) → i < length xs → get_or xs i x ≡ x → AreOfKind kind (map atom_view xs) → kind.vector ≡ false → IsOfScalar (atom_view x)
kind_at kind [] i x h e are = absurd (omega arith)
kind_at kind (y ∷ ys) zero x h e are = subst (λ (z : CodeAtom). kind.vector ≡ false → IsOfScalar (atom_view z)) e are.0
kind_at kind (y ∷ ys) (suc i) x h e are = kind_at kind ys i x (omega arith) e are.1
