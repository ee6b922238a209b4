use Rattle.std.proofs.Common.{◌≡◌, ◌+◌, arith, rules}
use Rattle.crystal.specs.Views.{atom_of}
use Rattle.crystal_spec.proofs.Species.{of_species_at, of_another_at, counted_one, counted_none}
use Rattle.crystal.proofs.rarest.count_of.Goals as goal
use Rattle.crystal.proofs.rarest.count_of.Goals.{then-atom-species, else-atom-species}

pub loop-i-preserved : goal.loop-i-preserved
loop-i-preserved c =
    let atoms = c.args.cell.now.atoms in
    let x = atom_of c.atom.result.now in
    let h = c.loop-i.invariant in
    elim c.if-atom-species.branch [
      | then-atom-species w ↦
          let same : x.species ≡ c.args.species = search rules in
          let is : c.if-atom-species.count ≡ c.loop-i.count + 1 = search rules in
          record {
            counted = counted_one c.loop-i.count c.if-atom-species.count _ _ _ is (of_species_at c.args.species atoms c.loop-i.i x c.atom.ensures.value same) h.counted;
            at_most = omega (arith, is, h.at_most);
          }
      | else-atom-species w ↦
          let other : x.species ≡ c.args.species → ⊥ = search rules in
          let is : c.if-atom-species.count ≡ c.loop-i.count = search rules in
          record {
            counted = counted_none c.loop-i.count c.if-atom-species.count _ _ _ is (of_another_at c.args.species atoms c.loop-i.i x c.atom.ensures.value other) h.counted;
            at_most = omega (arith, is, h.at_most);
          }
    ]
