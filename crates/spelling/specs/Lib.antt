pub mod Hex
pub mod Signed
