pub mod Orbits
pub mod Entries
pub mod Images
