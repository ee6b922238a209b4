mod Laws
mod Groups
pub mod Wholes
mod Units
mod Absorb
mod Members
pub mod Moves
pub mod Origins
mod Candidates
mod Homs
mod Firsts
mod Balances
mod Reps
pub mod Conjugate
pub mod Invariants
pub mod Counts
pub mod Bridge
mod Decide
pub mod ListedGroups
pub mod Search
pub mod Transport
pub mod Fewness
pub mod KnownOrigins
mod KnownValues
