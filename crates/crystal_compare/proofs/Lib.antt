mod Names
mod WholeBetween
mod Reaching
mod Shifts
mod Carried
mod AnyCarried
mod Sizes
mod Order
mod Imaging
mod Finding
mod Listing
mod Folded
mod Inverses
mod Sending
mod SendingMaps
mod GroupsAlike
-- The definitions at a few values.
mod KnownValues
