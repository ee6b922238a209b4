-- What `symmetry` tells of a crystal.
--   SymmetryReport c time skip most bytes   the lines of a page of the symmetry operations of the crystal c
-- Our own.
use Rattle.std.specs.Prelude.{◌≡◌, ℕ, Bool, List}
use Rattle.std.specs.declared.option.Option.{Option}
use Rattle.crystal_spec.specs.Crystals.{Structure}
use Rattle.crystal_spec.specs.Operations.{Operation}
use Rattle.operation_text.specs.Pages.{page_text}
use Rattle.mag_ops.specs.Groups.{ListsGroup}

-- The bytes are the lines of the list of all symmetry operations, or of those that do not reverse time: of the part behind
-- its first `skip` operations, and of that at most `most` where it is given.
pub record SymmetryReport (c : Structure) (time : Bool) (skip : ℕ) (most : Option ℕ) (bytes : List ℕ) : Type 0 where
  pub operations : List Operation
  pub all : ListsGroup c time operations
  pub lines : bytes ≡ page_text (record { n = c.n; operations = operations }) skip most
