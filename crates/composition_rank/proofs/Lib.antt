pub mod Passing
pub mod Promises
