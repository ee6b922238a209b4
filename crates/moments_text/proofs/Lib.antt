mod AllowedCounts
mod AtomLines
mod KnownValues
