pub mod Terms
pub mod Counting
pub mod Checking
pub mod Following
pub mod Width
