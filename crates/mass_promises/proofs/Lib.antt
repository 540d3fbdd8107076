pub mod Outcomes
pub mod Masses
pub mod Terms
pub mod Order
