use Rattle.std.proofs.Common.{◌≡◌, ℕ, ◌+◌, ◌<◌, ◌≤◌, ◌∙◌, get_or, length, sym, subst, ap, arith, rules}
use Rattle.std.specs.Prelude.{slice_get, Some}
use Rattle.std.proofs.lemmas.Option.{same_Some, slice_get-get_or, slice_get_within}
use Rattle.lists.proofs.Members.{member_at}
use Rattle.crystal_spec.specs.Crystals.{Atom}
use Rattle.crystal_spec.specs.Species.{of_species}
use Rattle.crystal_spec.proofs.Species.{IsLeastSoFar, least_first, least_new, least_kept, least_all}
use Rattle.crystal.specs.Views.{atom_of}
use Rattle.crystal.proofs.cell.Cell.rarest.Goals as goal
use Rattle.crystal.proofs.cell.Cell.rarest.Goals.{then-count-least, else-count-least}

pub loop-i-init : goal.loop-i-init
loop-i-init c =
    let s = c.args.self.now in
    let x = atom_of c.atom-first.result.now in
    record {
      below = slice_get_within s.atoms 0 x c.atom-first.ensures.value;
      least = λ a at. least_first s c.count_of-least.result a at (member_at s.atoms 0 a at)
          (c.count_of-least.ensures ∙ ap (λ (y : Atom). length (of_species y.species s.atoms)) (same_Some x a (sym c.atom-first.ensures.value ∙ at)));
    }

pub loop-i-preserved : goal.loop-i-preserved
loop-i-preserved c =
    let s = c.args.self.now in
    let x = atom_of c.atom-atom.result.now in
    let at = c.atom-atom.ensures.value in
    let h = c.loop-i.invariant in
    elim c.if-count-least.branch [
      | then-count-least w ↦
          let fewer : c.count_of-count.result < c.loop-i.least = search rules in
          let rarest : c.if-count-least.rarest ≡ c.loop-i.i = search rules in
          let least : c.if-count-least.least ≡ c.count_of-count.result = search rules in
          let before : Atom = get_or s.atoms c.loop-i.rarest x in
          let so_far = h.least before (slice_get-get_or s.atoms c.loop-i.rarest x h.below) in
          let new = least_new s c.loop-i.i c.loop-i.least c.count_of-count.result before x so_far at (member_at s.atoms c.loop-i.i x at) c.count_of-count.ensures fewer in
          record {
            below = subst (λ (k : ℕ). k < length s.atoms) (sym rarest) (slice_get_within s.atoms c.loop-i.i x at);
            least = λ a here. subst (λ (n : ℕ). IsLeastSoFar s (c.loop-i.i + 1) n a) (sym least)
                (subst (IsLeastSoFar s (c.loop-i.i + 1) c.count_of-count.result) (same_Some x a (sym at ∙ ap (slice_get s.atoms) (sym rarest) ∙ here)) new);
          }
      | else-count-least w ↦
          let more : c.loop-i.least ≤ c.count_of-count.result = search rules in
          let rarest : c.if-count-least.rarest ≡ c.loop-i.rarest = search rules in
          let least : c.if-count-least.least ≡ c.loop-i.least = search rules in
          record {
            below = subst (λ (k : ℕ). k < length s.atoms) (sym rarest) h.below;
            least = λ a here. subst (λ (n : ℕ). IsLeastSoFar s (c.loop-i.i + 1) n a) (sym least)
                (least_kept s c.loop-i.i c.loop-i.least c.count_of-count.result a x (h.least a (ap (slice_get s.atoms) (sym rarest) ∙ here)) at c.count_of-count.ensures more);
          }
    ]

pub returns-clause-rarest : goal.returns-clause-rarest
returns-clause-rarest c a at =
    let s = c.args.self.now in
    let ended : length s.atoms ≤ c.loop-i.i = omega arith in
    least_all s c.loop-i.i c.loop-i.least a (c.loop-i.invariant.least a at) ended
