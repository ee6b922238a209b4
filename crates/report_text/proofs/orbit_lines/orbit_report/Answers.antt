use Rattle.std.proofs.Common.{◌++◌, ◌∙◌, ap, List, ℕ}
use Rattle.report_text.specs.OrbitText.{atom_lines, orbit_lines, orbit_text}
use Rattle.report_text.proofs.orbit_lines.orbit_report.Goals as goal

pub returns : goal.returns
unfolding orbit_text
returns c =
    let cell = c.args.cell.now in
    let orbits = c.args.orbits.now in
    let atoms = c.in_ok-push_atoms.ensures ∙ ap (λ (text : List ℕ). text ++ atom_lines cell.names 0 cell.atoms orbits) c.new-out.ensures in
    c.in_ok-push_orbits.ensures ∙ ap (λ (text : List ℕ). text ++ orbit_lines 0 orbits) atoms
