use Rattle.std.proofs.Common.{sym, ap, subst, ◌∙◌}
use Rattle.crystal_spec.specs.Crystals.{Structure}
use Rattle.crystal_spec.specs.Operations.{ListsAll}
use Rattle.site_orbits.specs.Entries.{HaveOrbits}
use Rattle.report_text.specs.DatasetText.{dataset_text}
use Rattle.command_words.specs.declared.command.Command.TheVariants.{Dataset}
use Rattle.report_basis.specs.declared.Kept.{Kept}
use Rattle.answers.specs.DatasetReports.{IsDatasetReport}
use Rattle.answers.specs.Reports.{IsReport}
use Rattle.answers.proofs.dataset.report_of_dataset.Goals as goal

pub order_of-requires : goal.order_of-requires
order_of-requires c = record { group = c.requires.found.group }

pub orbits-requires : goal.orbits-requires
orbits-requires c = record { primitive = c.requires.found.cell.primitive; same_cell = sym c.requires.found.cell.cell; n = c.requires.found.n; group = c.requires.found.group }

-- one orbit an atom
pub dataset_report-requires : goal.dataset_report-requires
dataset_report-requires c =
    let found = c.args.found.now in
    let list = c.in_ok-orbit_list.ensures in
    record {
      same_atoms = c.count.ensures.value ∙ sym list.count;
      firsts = list.firsts;
    }

-- of the primitive cell and of the cell; in the basis that is kept
pub returns : goal.returns
returns c =
    let s = c.args.cell.now in
    let p = c.args.found.now.made in
    let os = c.args.found.now.group.operations in
    let made = c.requires.found.cell in
    let order = c.in_ok-order.ensures s c.requires.found in
    let same_n = c.requires.found.n ∙ ap (λ (t : Structure). t.n) made.cell ∙ made.primitive.same.n in
    let report : IsDatasetReport s p.back c.in_ok-text.text = record {
      primitive = made.primitive;
      niggli = made.niggli;
      index = p.index;
      index_is = made.index;
      counted = made.counted;
      operations = os;
      all = subst (λ (t : Structure). ListsAll t os) made.cell c.requires.found.group;
      operations_of_cell = order.operations;
      all_of_cell = order.all;
      kind = c.classify-kind.result;
      is_type = c.classify-kind.ensures.kind;
      family = c.classify-kind.ensures.family;
      unprimed = c.classify-kind.ensures.unprimed;
      orbits = c.in_ok-orbit_list.orbit_list;
      of_each_atom = c.in_ok-orbit_list.ensures.count;
      are_orbits = subst (λ (t : Structure). HaveOrbits s p.back t os c.in_ok-orbit_list.orbit_list) made.cell c.in_ok-orbit_list.ensures.exact;
      lines = c.in_ok-text.ensures ∙ (λ i. dataset_text p.index p.back (made.cell i) (record { n = same_n i; operations = os }) (order.count i) c.classify-kind.result c.in_ok-orbit_list.orbit_list);
    } in
    subst (λ (k : Kept). IsReport Dataset s k c.in_ok-text.text) (sym c.kept.ensures) report
