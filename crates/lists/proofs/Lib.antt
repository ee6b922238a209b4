pub mod Members
pub mod Walks
pub mod Distinct
pub mod Increasing
pub mod Searching
pub mod Sorting
pub mod Counting
pub mod Matching
pub mod Pairs
pub mod Any
pub mod Orders
mod KnownValues
