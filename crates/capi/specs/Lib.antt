pub mod DigitWords
pub mod Images
pub mod Permutations
pub mod Version
