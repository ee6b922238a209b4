pub mod MatrixLaws
pub mod Cancelling
pub mod Translations
pub mod OperationBases
pub mod FirstAtoms
pub mod PrimitiveCell
pub mod StepBases
pub mod StepIndex
pub mod StepMaking
pub mod StepLists
pub mod StepCount
mod StepSizes
pub mod StepEntries
pub mod PureTranslations
pub mod Candidates
pub mod Positive
pub mod PrimitiveAtoms
pub mod WholeMaps
pub mod OperationLists
pub mod CarriedOperations
pub mod TranslationLists
pub mod PrimitiveBases
pub mod AllOperations
mod KnownValues
