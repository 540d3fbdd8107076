pub mod Descent
pub mod Seam
