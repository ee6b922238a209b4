mod KnownValues
mod LineLemmas
mod PageLemmas
pub mod PlainTexts
