pub mod Moving
mod FoundTranslations
mod Folding
mod Making
mod Ranges
mod FewTranslations
pub mod ReducedBases
mod Numbering
mod KnownValues
