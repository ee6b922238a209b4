mod KnownValues
mod RowLemmas
