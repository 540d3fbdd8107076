pub mod Exponents
pub mod Checks
pub mod Spelling
pub mod Tallying
pub mod Promises
pub mod Examples
