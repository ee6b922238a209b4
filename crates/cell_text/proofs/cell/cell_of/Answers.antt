use Rattle.std.proofs.Common.{◌≤◌, ◌∷◌, [], ℕ, suc, List, refl, map, take, drop, length, sym, ap, subst, ◌∙◌, arith}
use Rattle.std.proofs.lemmas.List.{length-map}
use Rattle.crystal_spec.specs.declared.MomentKind.{MomentKind}
use Rattle.crystal_spec.specs.Moments.{IsOfKind}
use Rattle.crystal_spec.specs.Crystals.{Structure}
use Rattle.crystal.specs.declared.limits.TheConstants.{MOST_ATOMS}
use Rattle.cell_text.specs.CellFile.{names_of, moment_of}
use Rattle.cell_text.specs.Filling.{filled}
use Rattle.cell_text.specs.Views.{atom_view}
use Rattle.cell_text.specs.Readers.{metric_view, kinds_of, kind_or_default}
use Rattle.cell_text.proofs.Fillings.{split_at, rest_at, first_at, next_at, all_taken, scalar_moment, kind_added, kind_at, filled_first, first_name, free_more, fewer_atoms, fewer_names, filled_next, names_next, filled_all}
use Rattle.cell_text.proofs.cell.cell_of.Goals as goal

pub loop-atom-init : goal.loop-atom-init
loop-atom-init c =
    let m = metric_view c.args.metric.now in
    let all = map atom_view c.args.atoms.now in
    let b = atom_view c.first-item.result in
    let at = first_at c.args.atoms.now c.first-item.result c.requires.some c.first-item.is in
    record {
      cell = c.in_ok-cell.ensures ∙ filled_first c.kind_or_default.result m c.args.n c.args.k all b (map atom_view (drop 1 c.args.atoms.now)) at.1 ∙ ap (λ (x : MomentKind). filled x m c.args.n c.args.k all (b ∷ [])) c.kind_or_default.ensures ∙ ap (filled (kind_or_default c.args.kind.now) m c.args.n c.args.k all) (sym at.0);
      names = c.in_ok-names.ensures ∙ ap (λ (w : List ℕ). w ∷ []) c.as_bytes.ensures ∙ first_name b ∙ ap names_of (sym at.0);
    }

pub add_atom-requires-clause-names : goal.add_atom-requires-clause-names
add_atom-requires-clause-names c =
    c.loop-atom.invariant.names ∙ sym (ap (λ (s : Structure). s.names) c.loop-atom.invariant.cell)

pub add_atom-requires-clause-n_at_least : goal.add_atom-requires-clause-n_at_least
add_atom-requires-clause-n_at_least c = subst (λ (m : ℕ). 1 ≤ m) (sym (ap (λ (s : Structure). s.n) c.loop-atom.invariant.cell)) c.requires.n_at_least

pub add_atom-requires-clause-n_at_most : goal.add_atom-requires-clause-n_at_most
add_atom-requires-clause-n_at_most c = subst (λ (m : ℕ). m ≤ 1000000) (sym (ap (λ (s : Structure). s.n) c.loop-atom.invariant.cell)) c.requires.n_at_most

pub add_atom-requires-clause-k_at_most : goal.add_atom-requires-clause-k_at_most
add_atom-requires-clause-k_at_most c = subst (λ (m : ℕ). m ≤ 1000000) (sym (ap (λ (s : Structure). s.k) c.loop-atom.invariant.cell)) c.requires.k_at_most

pub first_cell-requires-clause-of_kind : goal.first_cell-requires-clause-of_kind
first_cell-requires-clause-of_kind c =
    let kind = kind_or_default c.args.kind.now in
    let a = atom_view c.first-item.result in
    subst (λ (x : MomentKind). IsOfKind x (moment_of c.args.k a)) (sym c.kind_or_default.ensures) (scalar_moment kind c.args.k a (kind_at kind c.args.atoms.now 0 c.first-item.result c.requires.some (sym c.first-item.is) c.requires.of_kind))

pub add_atom-requires-clause-of_kind : goal.add_atom-requires-clause-of_kind
add_atom-requires-clause-of_kind c =
    let kind = kind_or_default c.args.kind.now in
    let i = c.loop-atom.atom-index in
    let a = atom_view c.atom-item.result in
    let at = rest_at c.args.atoms.now i c.atom-item.result c.loop-atom-test.true c.atom-item.is in
    let here = c.loop-atom.invariant.cell in
    kind_added kind c.loop-atom.cell.kind c.args.k c.loop-atom.cell.k a (moment_of c.loop-atom.cell.k a) (ap (λ (s : Structure). s.kind) here) (ap (λ (s : Structure). s.k) here) refl (scalar_moment kind c.args.k a (kind_at kind c.args.atoms.now (suc i) c.atom-item.result at.0 at.1 c.requires.of_kind))

pub add_atom-requires-clause-free : goal.add_atom-requires-clause-free
add_atom-requires-clause-free c =
    let atoms = c.args.atoms.now in
    let i = c.loop-atom.atom-index in
    let at = rest_at atoms i c.atom-item.result c.loop-atom-test.true c.atom-item.is in
    free_more (kind_or_default c.args.kind.now) (metric_view c.args.metric.now) c.args.n c.args.k (map atom_view atoms) (map atom_view (take (suc i) atoms)) (atom_view c.atom-item.result) (map atom_view (drop (suc (suc i)) atoms)) c.loop-atom.cell (split_at atoms (suc i) c.atom-item.result at.0 at.1) c.requires.n c.requires.n_at_least c.requires.apart c.loop-atom.invariant.cell

pub add_atom-requires-clause-fewer_names : goal.add_atom-requires-clause-fewer_names
add_atom-requires-clause-fewer_names c =
    let atoms = c.args.atoms.now in
    let i = c.loop-atom.atom-index in
    let at = rest_at atoms i c.atom-item.result c.loop-atom-test.true c.atom-item.is in
    let few : length (map atom_view atoms) ≤ MOST_ATOMS = omega (arith, length-map atoms atom_view, c.requires.few) in
    fewer_names (kind_or_default c.args.kind.now) (metric_view c.args.metric.now) c.args.n c.args.k (map atom_view atoms) (map atom_view (take (suc i) atoms)) (atom_view c.atom-item.result) (map atom_view (drop (suc (suc i)) atoms)) c.loop-atom.cell (split_at atoms (suc i) c.atom-item.result at.0 at.1) few c.loop-atom.invariant.cell

pub add_atom-requires-clause-fewer : goal.add_atom-requires-clause-fewer
add_atom-requires-clause-fewer c =
    let atoms = c.args.atoms.now in
    let i = c.loop-atom.atom-index in
    let at = rest_at atoms i c.atom-item.result c.loop-atom-test.true c.atom-item.is in
    let few : length (map atom_view atoms) ≤ MOST_ATOMS = omega (arith, length-map atoms atom_view, c.requires.few) in
    fewer_atoms (kind_or_default c.args.kind.now) (metric_view c.args.metric.now) c.args.n c.args.k (map atom_view atoms) (map atom_view (take (suc i) atoms)) (atom_view c.atom-item.result) (map atom_view (drop (suc (suc i)) atoms)) c.loop-atom.cell (split_at atoms (suc i) c.atom-item.result at.0 at.1) few c.loop-atom.invariant.cell

pub loop-atom-preserved : goal.loop-atom-preserved
loop-atom-preserved c =
    let m = metric_view c.args.metric.now in
    let atoms = c.args.atoms.now in
    let all = map atom_view atoms in
    let i = c.loop-atom.atom-index in
    let b = atom_view c.atom-item.result in
    let held = map atom_view (take (suc i) atoms) in
    let at = rest_at atoms i c.atom-item.result c.loop-atom-test.true c.atom-item.is in
    let split = split_at atoms (suc i) c.atom-item.result at.0 at.1 in
    let step = next_at atoms i c.atom-item.result at in
    record {
      cell = filled_next (kind_or_default c.args.kind.now) m c.args.n c.args.k all held _ b _ c.loop-atom.cell c.add_atom.new.cell split step c.loop-atom.invariant.cell c.in_ok-add_atom.ensures.cell;
      names = names_next (kind_or_default c.args.kind.now) m c.args.n c.args.k all held _ b c.loop-atom.cell _ step c.loop-atom.invariant.cell c.in_ok-add_atom.ensures.names;
    }

pub returns : goal.returns
returns c =
    filled_all (kinds_of c.args.kind.now) (metric_view c.args.metric.now) c.args.n c.args.k (map atom_view c.args.atoms.now) _ c.loop-atom.cell (all_taken c.args.atoms.now c.loop-atom.atom-index (omega arith)) c.requires.n c.requires.k c.loop-atom.invariant.cell
