use Rattle.std.proofs.Common.{ℕ, ◌*◌, ◌⊎◌, pos, subst, ap, ◌∙◌}
use Rattle.std.specs.Prelude.{◌↔◌}
use Rattle.lists.specs.Increasing.{IsMember}
use Rattle.crystal_spec.specs.Matrices.{image, multiple, difference}
use Rattle.crystal_spec.specs.Crystals.{Structure}
use Rattle.crystal.specs.Views.{atom_of}
use Rattle.positions.specs.Positions.{IsModulo}
use Rattle.crystal_compare.specs.Steps.{operation_of}
use Rattle.crystal_compare.specs.declared.whole_map.WholeMap.{WholeMap}
use Rattle.crystal_compare.specs.Search.{IsMapAs}
use Rattle.crystal_compare.proofs.Finding.{onto_both}
use Rattle.crystal_compare.proofs.search.add_onto.Goals as goal

pub returns : goal.returns
returns c =
    let one = c.args.one.now in
    let s = c.args.other.now in
    let w = c.args.w.now in
    let a = atom_of c.args.from.now in
    let b = atom_of c.args.onto.now in
    let t = c.translation_onto-shift.result in
    let n = c.n.ensures in
    let m = c.n-2.ensures ∙ ap (λ (x : Structure). x.n) c.cell-2.ensures in
    let folds = subst (λ (k : ℕ). IsModulo (one.n * k) (difference (multiple (pos one.n) b.position) (multiple (pos k) (image w a.position))) t) m
    (subst (λ (k : ℕ). IsModulo (k * c.n-2.result) (difference (multiple (pos k) b.position) (multiple (pos c.n-2.result) (image w a.position))) t) n c.translation_onto-shift.ensures) in
    record {
      members = λ o. onto_both one s w t a b o _ _ _ folds
          (subst (λ (x : WholeMap). IsMember o c.add_map.new.found ↔ (IsMapAs one s (operation_of x) o ⊎ IsMember o c.args.found.now)) c.map_of-same.ensures (c.in_ok-add_map.ensures.members o))
          (subst (λ (x : WholeMap). IsMember o c.add_map-2.new.found ↔ (IsMapAs one s (operation_of x) o ⊎ IsMember o c.add_map.new.found)) c.map_of-reversed.ensures (c.in_ok-add_map-2.ensures.members o));
    }
