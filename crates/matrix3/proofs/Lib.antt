pub mod MatrixLaws
pub mod FitsBySize
mod KnownValues
pub mod InverseLemmas
