use Rattle.std.proofs.Common.{sym, subst}
use Rattle.crystal_spec.specs.Crystals.{Structure}
use Rattle.moments_text.specs.MomentsText.{AreOrbits}
use Rattle.command_words.specs.declared.command.Command.TheVariants.{Moments}
use Rattle.report_basis.specs.declared.Kept.{Kept}
use Rattle.answers.specs.MomentReports.{IsMomentsReport}
use Rattle.answers.specs.Reports.{IsReport}
use Rattle.answers.proofs.moments.report_of_moments.Goals as goal

pub orbits-requires : goal.orbits-requires
orbits-requires c = record { primitive = c.requires.cell.primitive; same_cell = sym c.requires.cell.cell; n = c.requires.n; group = c.requires.group }

-- one orbit an atom
pub moments_report-requires : goal.moments_report-requires
moments_report-requires c = record {
  primitive = c.requires.cell.primitive;
  same_cell = sym c.requires.cell.cell;
  orbits = record { operations = c.args.found.now.group.operations; all = c.requires.group; of_each_atom = c.in_ok-orbit_list.ensures.count; are_orbits = c.in_ok-orbit_list.ensures.exact };
}

-- in the basis that is kept
pub returns : goal.returns
returns c =
    let s = c.args.cell.now in
    let p = c.args.found.now.made in
    let made = c.requires.cell in
    let list = c.in_ok-orbit_list.orbit_list in
    let here : AreOrbits s p.back p.cell list = record { operations = c.args.found.now.group.operations; all = c.requires.group; of_each_atom = c.in_ok-orbit_list.ensures.count; are_orbits = c.in_ok-orbit_list.ensures.exact } in
    let report : IsMomentsReport s p.back c.in_ok-text.text = record {
      primitive = made.primitive;
      niggli = made.niggli;
      orbits = list;
      are_orbits = subst (λ (t : Structure). AreOrbits s p.back t list) made.cell here;
      lines = c.in_ok-text.ensures.value;
    } in
    subst (λ (k : Kept). IsReport Moments s k c.in_ok-text.text) (sym c.kept.ensures) report
