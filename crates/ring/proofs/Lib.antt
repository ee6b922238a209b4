pub mod RingSound
pub mod Solving
pub mod IntRing
pub mod IntOrder
pub mod Sizes
mod Examples
