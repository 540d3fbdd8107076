pub mod Digits
pub mod Pairs
pub mod Writing
pub mod Minus
