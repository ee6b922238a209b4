mod KnownValues
mod Loops
mod TextPieces
mod Eighths
mod AtomLines
mod JudgedText
mod SpelledText
mod Draws
