pub mod Ring
pub mod Size
