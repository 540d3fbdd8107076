pub mod Numbering
pub mod Weighing
pub mod Making
pub mod Searching
pub mod Promises
