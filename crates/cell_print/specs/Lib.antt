pub mod CellFileText
pub mod Printable
