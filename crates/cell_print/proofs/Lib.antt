mod TextLemmas
pub mod TextCuts
pub mod CommonDenominators
mod LeastUnits
mod SpelledPrintable
mod NamesRead
mod FirstLines
mod PrintedLines
mod ReadLines
mod PlacesApart
mod JudgedText
mod SpelledCell
mod KnownValues
