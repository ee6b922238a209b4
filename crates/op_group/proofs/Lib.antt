pub mod OrderLemmas
pub mod OperationPlaces
mod Sorting
pub mod Composing
pub mod GroupLaws
mod TriangularMatrices
mod LeastSteps
mod TriangularBases
mod PureTranslations
mod StepMatrices
pub mod Searching
mod KnownValues
