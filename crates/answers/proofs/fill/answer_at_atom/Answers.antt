use Rattle.std.proofs.Common.{◌<◌, ◌-◌, sym, length, arith}
use Rattle.answers.proofs.FillLemmas.{site_n, site_there}
use Rattle.answers.proofs.fill.answer_at_atom.Goals as goal

pub orbits-requires : goal.orbits-requires
orbits-requires c = record { primitive = c.requires.found.cell.primitive; same_cell = sym c.requires.found.cell.cell; n = c.requires.found.n; group = c.requires.found.group }

-- the group of the atom's site
pub answer_on_site-requires-clause-site_n : goal.answer_on_site-requires-clause-site_n
answer_on_site-requires-clause-site_n c =
    let p = c.args.found.now.made in
    let list = c.in_ok-orbit_list.orbit_list in
    let i = c.args.filling.now.atom - 1 in
    let below : i < length c.args.cell.now.atoms = omega (arith, c.requires.at_least, c.requires.at_most) in
    let few : i < length list = omega (arith, below, c.in_ok-orbit_list.ensures.count) in
    site_n c.args.cell.now p.back p.cell c.args.found.now.group.operations i list c.site.result.now c.in_ok-orbit_list.ensures.exact few c.site.ensures below

pub answer_on_site-requires-clause-site : goal.answer_on_site-requires-clause-site
answer_on_site-requires-clause-site c =
    let p = c.args.found.now.made in
    let list = c.in_ok-orbit_list.orbit_list in
    let i = c.args.filling.now.atom - 1 in
    let few : i < length list = omega (arith, c.requires.at_least, c.requires.at_most, c.in_ok-orbit_list.ensures.count) in
    site_there c.args.cell.now p.back p.cell c.args.found.now.group.operations i list c.site.result.now c.in_ok-orbit_list.ensures.exact few c.site.ensures
