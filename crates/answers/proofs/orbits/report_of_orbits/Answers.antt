use Rattle.std.proofs.Common.{sym, subst}
use Rattle.crystal_spec.specs.Crystals.{Structure}
use Rattle.crystal_spec.specs.Operations.{ListsAll}
use Rattle.site_orbits.specs.Entries.{HaveOrbits}
use Rattle.command_words.specs.declared.command.Command.TheVariants.{Orbits}
use Rattle.report_basis.specs.declared.Kept.{Kept}
use Rattle.answers.specs.OrbitReports.{IsOrbitReport}
use Rattle.answers.specs.Reports.{IsReport}
use Rattle.answers.proofs.orbits.report_of_orbits.Goals as goal

pub orbits-requires : goal.orbits-requires
orbits-requires c = record { primitive = c.requires.cell.primitive; same_cell = sym c.requires.cell.cell; n = c.requires.n; group = c.requires.group }

-- one orbit an atom
pub orbit_report-requires : goal.orbit_report-requires
orbit_report-requires c = record { same_atoms = c.in_ok-orbit_list.ensures.count }

-- in the basis that is kept
pub returns : goal.returns
returns c =
    let s = c.args.cell.now in
    let p = c.args.found.now.made in
    let os = c.args.found.now.group.operations in
    let made = c.requires.cell in
    let found = c.in_ok-orbit_list.ensures in
    let report : IsOrbitReport s p.back c.in_ok-text.text = record {
      primitive = made.primitive;
      niggli = made.niggli;
      operations = os;
      all = subst (λ (t : Structure). ListsAll t os) made.cell c.requires.group;
      orbits = c.in_ok-orbit_list.orbit_list;
      of_each_atom = found.count;
      are_orbits = subst (λ (t : Structure). HaveOrbits s p.back t os c.in_ok-orbit_list.orbit_list) made.cell found.exact;
      lines = c.in_ok-text.ensures;
    } in
    subst (λ (k : Kept). IsReport Orbits s k c.in_ok-text.text) (sym c.kept.ensures) report
