pub mod Passes
pub mod Promises
