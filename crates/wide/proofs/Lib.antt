pub mod Terms
pub mod Counting
pub mod Unranking
