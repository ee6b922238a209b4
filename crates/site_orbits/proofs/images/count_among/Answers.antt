use Rattle.std.proofs.Common.{◌≡◌, ◌+◌, sym, ◌∙◌, true, length, map, arith, rules}
use Rattle.crystal.specs.Views.{atom_of}
use Rattle.positions.specs.Positions.{triple_of}
use Rattle.lists.specs.Increasing.{IsMember}
use Rattle.site_orbits.specs.Images.{atoms_at}
use Rattle.site_orbits.proofs.Counting.{counted_one, counted_none}
use Rattle.site_orbits.proofs.images.count_among.Goals as goal
use Rattle.site_orbits.proofs.images.count_among.Goals.{then-is_among, else-is_among}

pub loop-i-preserved : goal.loop-i-preserved
loop-i-preserved c =
    let atoms = c.args.cell.now.atoms in
    let images = map triple_of c.args.images.now in
    let x = atom_of c.atom.result.now in
    let h = c.loop-i.invariant in
    elim c.if-is_among.branch [
      | then-is_among w ↦
          let here : IsMember x.position images = c.is_among.ensures.0 w.if-is_among.true in
          let is : c.if-is_among.count ≡ c.loop-i.count + 1 = search rules in
          record {
            counted = counted_one images atoms c.loop-i.i c.loop-i.count c.if-is_among.count (length (atoms_at images atoms)) x c.atom.ensures.value here is h.counted;
            at_most = omega (arith, is, h.at_most);
          }
      | else-is_among w ↦
          let other : IsMember x.position images → ⊥ = λ m. (let yes : c.is_among.result ≡ true = c.is_among.ensures.1 m in cc (sym w.if-is_among.false ∙ yes)) in
          let is : c.if-is_among.count ≡ c.loop-i.count = search rules in
          record {
            counted = counted_none images atoms c.loop-i.i c.loop-i.count c.if-is_among.count (length (atoms_at images atoms)) x c.atom.ensures.value other is h.counted;
            at_most = omega (arith, is, h.at_most);
          }
    ]
