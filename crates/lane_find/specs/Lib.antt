pub mod Agreement
pub mod Residues
pub mod Stretches
