pub mod Groups
pub mod Candidates
pub mod Carried
