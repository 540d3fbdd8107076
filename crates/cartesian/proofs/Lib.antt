pub mod Fits
pub mod Products
pub mod Tuples
pub mod Writing
pub mod Rules
pub mod Promises
pub mod Examples
