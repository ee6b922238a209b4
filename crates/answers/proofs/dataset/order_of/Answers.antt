use Rattle.std.proofs.Common.{sym, inl}
use Rattle.answers.proofs.dataset.order_of.Goals as goal

pub in_cell-requires : goal.in_cell-requires
in_cell-requires c = record { group = inl c.requires.group }

-- the list of the cell is one of all its operations
pub returns : goal.returns
returns c s found =
    let made = found.cell in
    record {
      operations = c.in_ok-listed.listed.operations;
      all = c.in_ok-listed.ensures.all s made.of_cell made.primitive (sym made.cell) found.group;
      count = c.count.ensures.value;
    }
