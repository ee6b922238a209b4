pub mod Text
pub mod Digits
pub mod FirstFaults
pub mod NumberWords
pub mod NumberText
pub mod Views
