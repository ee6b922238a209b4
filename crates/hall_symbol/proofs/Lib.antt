mod CutLemmas
mod TokenLemmas
pub mod Compositions
pub mod RotationMatrices
mod Shifting
mod KnownValues
