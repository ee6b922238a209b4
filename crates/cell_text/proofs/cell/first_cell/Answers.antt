use Rattle.std.proofs.Common.{sym, subst}
use Rattle.crystal_spec.specs.Moments.{IsOfKind}
use Rattle.cell_text.proofs.Minors.{positive_is}
use Rattle.cell_text.proofs.cell.first_cell.Goals as goal

pub build-requires-clause-positive : goal.build-requires-clause-positive
build-requires-clause-positive c = positive_is _ c.requires.positive

pub build-requires-clause-of_kind : goal.build-requires-clause-of_kind
build-requires-clause-of_kind c = subst (IsOfKind c.args.kind) (sym c.moment_of.ensures.value) c.requires.of_kind
