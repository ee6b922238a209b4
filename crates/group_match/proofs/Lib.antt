mod Congruences
mod Numbered
pub mod Sized
pub mod Outcomes
mod Same
mod InnerLemmas
mod Adding
mod Loops
mod Unprimed
mod Rests
mod Sums
mod Wholes
mod Fractions
mod Blocks
mod KindLemmas
pub mod TaskLemmas
mod KnownValues
