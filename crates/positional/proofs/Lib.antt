pub mod Digits
pub mod Counted
pub mod Strides
pub mod Parts
pub mod Equal
pub mod Corner
