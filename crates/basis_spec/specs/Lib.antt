pub mod Metrics
pub mod Translations
pub mod Bases
pub mod StepBases
pub mod Maps
pub mod Carrying
