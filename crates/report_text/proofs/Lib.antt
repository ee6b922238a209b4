mod DatasetLemmas
mod KnownValues
mod OrbitLemmas
mod PlainTexts
mod PrimitiveLemmas
