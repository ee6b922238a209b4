mod KnownValues
pub mod Cutting
pub mod DigitLemmas
pub mod Signs
pub mod Multiples
mod PrintedPieces
pub mod Decimals
mod Reading
pub mod NumberWords
