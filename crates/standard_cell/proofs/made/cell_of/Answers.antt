use Rattle.std.proofs.Common.{sym, arith}
use Rattle.std.proofs.lemmas.List.{length-map}
use Rattle.crystal.specs.Views.{atom_of}
use Rattle.crystal.proofs.Positions.{slice_get-map}
use Rattle.standard_cell.proofs.made.cell_of.Goals as goal

pub name-requires : goal.name-requires
name-requires c = let h = c.invariant.ensures.cell.named c.invariant.ensures.cell.first c.invariant.ensures.cell.of_cell in omega (arith, h)

pub build-requires-clause-species : goal.build-requires-clause-species
build-requires-clause-species c =
    let l = length-map c.args.atoms.now atom_of in
    c.requires.first (atom_of c.index-atoms-0.result) (slice_get-map atom_of c.args.atoms.now 0 c.index-atoms-0.result (omega (arith, l, c.requires.some)) (sym c.index-atoms-0.is))
