pub mod Sources
pub mod Matching
pub mod Candidates
pub mod Rows
pub mod Origins
pub mod Tasks
pub mod Kinds
