pub mod Maps
pub mod AnyMaps
pub mod Lists
pub mod Groups
pub mod Search
pub mod Steps
