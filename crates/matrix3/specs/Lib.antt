pub mod Matrices
pub mod Fits
pub mod Laws
pub mod Inverse
pub mod Bounds
