-- The exit statuses.
use Rattle.std.proofs.Common.{◌≡◌, ◌∷◌, [], map, refl}
use Rattle.cell_text.specs.declared.fault.CellFault.TheVariants.{NotMagcell}
use Rattle.command_words.specs.declared.command.UsageFault.TheVariants.{NoCommand}
use Rattle.hall_text.specs.declared.fault.RowFault.TheVariants.{TooManyMatrices, BadRow}
use Rattle.crystal_spec.specs.Matrices.{identity}
use Rattle.report_basis.specs.declared.Kept.TheVariants.{NoBase, Two}
use Rattle.run_status.specs.declared.status.Status.TheVariants.{Done, NoMatch, Different, NotAllowed, Usage, CellTooLong, CellRefused, NoSuchAtom, OtherTooLong, OtherRefused, SymbolRefused, TableRefused, TableTooLong, ReadFault, WriteFault, Memory, TooWide}
use Rattle.run_status.specs.ExitStatuses.{number_of}

numbers : map number_of (Done NoBase ∷ Done (Two identity identity) ∷ NoMatch identity ∷ Different identity identity ∷ NotAllowed identity ∷ Usage NoCommand ∷ CellTooLong ∷ CellRefused 1 NotMagcell ∷ NoSuchAtom ∷ OtherTooLong ∷ OtherRefused 1 NotMagcell ∷ SymbolRefused TooManyMatrices ∷ TableRefused 1 BadRow ∷ TableTooLong ∷ ReadFault ∷ WriteFault 0 NoBase ∷ Memory ∷ TooWide identity ∷ []) ≡ 0 ∷ 0 ∷ 1 ∷ 1 ∷ 1 ∷ 2 ∷ 3 ∷ 3 ∷ 3 ∷ 3 ∷ 3 ∷ 4 ∷ 4 ∷ 4 ∷ 5 ∷ 6 ∷ 7 ∷ 8 ∷ []
numbers = refl
