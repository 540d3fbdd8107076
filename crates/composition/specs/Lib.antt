pub mod Exponents
pub mod Rules
