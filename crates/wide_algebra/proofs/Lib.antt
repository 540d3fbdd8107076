pub mod Loop
pub mod Merging
