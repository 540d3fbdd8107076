pub mod Powers
pub mod Positions
pub mod Rules
pub mod Promises
pub mod Examples
