pub mod Products
pub mod Writing
pub mod Corners
pub mod Rules
pub mod Promises
pub mod Examples
