pub mod CarriedPositions
pub mod Equivalence
mod Counting
mod Stabilizer
mod Fixing
pub mod Small
mod Making
mod KnownValues
