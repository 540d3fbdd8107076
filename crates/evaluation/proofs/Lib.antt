pub mod Scaling
pub mod Turns
pub mod Monomials
