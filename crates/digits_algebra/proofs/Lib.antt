pub mod Counting
pub mod Buffer
pub mod Joining
pub mod Promises
pub mod Examples
