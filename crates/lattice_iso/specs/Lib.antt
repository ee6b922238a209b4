pub mod Isometries
pub mod Columns
