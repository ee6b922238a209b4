mod KnownValues
mod Lines
