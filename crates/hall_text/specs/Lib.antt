pub mod Products
pub mod Tables
pub mod RowTexts
pub mod Splits
pub mod PureTables
pub mod Listings
pub mod RowSteps
