pub mod Numbers
mod FamilyOrders
mod TypesFound
pub mod OneType
pub mod AllOperations
mod KnownValues
