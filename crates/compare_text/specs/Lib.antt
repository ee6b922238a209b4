pub mod ComparisonText
pub mod Comparisons
