pub mod TwoSymbols
pub mod Finite
pub mod Rows
pub mod Zero
pub mod Examples
