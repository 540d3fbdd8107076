pub mod Inserting
pub mod Selecting
pub mod Promises
