pub mod Outcomes
pub mod Writings
