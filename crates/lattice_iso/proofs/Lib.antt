-- The order of matrices at a few values.
mod KnownValues
pub mod Candidates
mod Ranges
pub mod MatrixPlaces
pub mod ByColumns
