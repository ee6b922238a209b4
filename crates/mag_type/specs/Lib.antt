pub mod Families
pub mod MagneticTypes
pub mod Counting
