pub mod Views
pub mod Lists
pub mod Composition
pub mod Groups
pub mod Steps
