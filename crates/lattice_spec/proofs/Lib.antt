-- Lemmas on reduced metric tensors, on definite ones, and on basis changes.
mod KnownValues
pub mod AtNumerals
mod Order
pub mod Limits
pub mod Height
pub mod Cauchy
mod Gap
mod Norms
pub mod Isometry
mod Minima
pub mod Bounds
pub mod Steps
pub mod Definite
pub mod Ranges
