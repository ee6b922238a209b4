pub mod Increasing
pub mod Any
