pub mod Exactly
pub mod Terms
pub mod Alphabets
pub mod Same
pub mod Seam
