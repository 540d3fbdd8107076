pub mod Protocol
pub mod Parts
pub mod Patterns
