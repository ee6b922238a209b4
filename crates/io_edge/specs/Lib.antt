pub mod Adapters
pub mod Causes
pub mod InMemory
pub mod Reading
pub mod Shelves
pub mod States
pub mod Writing
