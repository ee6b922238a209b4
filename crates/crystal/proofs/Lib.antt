mod NameLemmas
pub mod Ranges
pub mod Equality
pub mod Positions
mod Covering
pub mod CellLemmas
mod ImageLemmas
mod KnownValues
