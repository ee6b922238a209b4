mod FillingLemmas
mod KnownValues
mod OptionLemmas
mod OptionOrder
mod SmallMoments
