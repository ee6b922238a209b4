mod KnownValues
mod TellingLemmas
