pub mod Matrices
pub mod Moments
pub mod Crystals
pub mod Operations
pub mod Cells
pub mod Species
