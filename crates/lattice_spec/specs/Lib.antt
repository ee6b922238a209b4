pub mod Tensor
pub mod Niggli
