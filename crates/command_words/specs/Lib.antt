pub mod Commands
pub mod Fillings
pub mod OptionOrder
