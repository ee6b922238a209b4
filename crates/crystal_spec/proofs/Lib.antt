pub mod Entrywise
pub mod Identities
pub mod MatrixLaws
pub mod Isometries
pub mod Moments
pub mod Keeping
pub mod Images
pub mod Ordered
mod KnownValues
pub mod Species
