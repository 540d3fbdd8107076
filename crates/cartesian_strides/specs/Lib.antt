pub mod Partial
pub mod Rules
