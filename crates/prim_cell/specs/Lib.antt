pub mod Candidates
pub mod Rebasing
pub mod Primitives
