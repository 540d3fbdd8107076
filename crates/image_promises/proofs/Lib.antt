pub mod Tables
pub mod Written
pub mod Lookups
pub mod Through
pub mod Damage
pub mod Pieces
pub mod Outcomes
pub mod Readings
