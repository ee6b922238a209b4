pub mod Residues
mod Rows
