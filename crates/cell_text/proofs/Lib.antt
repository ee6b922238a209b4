mod KnownValues
mod Minors
pub mod WordFaults
mod Atoms
mod Placing
pub mod Judging
mod Stepping
pub mod MetricLines
mod FirstUse
mod Apart
pub mod NameLemmas
mod Fillings
pub mod PassedLines
mod SpelledSizes
