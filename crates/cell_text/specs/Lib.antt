pub mod Lines
pub mod Entries
pub mod Rules
pub mod CellFile
pub mod Filling
pub mod Views
pub mod Readers
