mod KeptMaps
mod Counts
mod NothingMissed
mod CarriedBack
mod KnownValues
mod FullGroups
