pub mod Permutation
pub mod Rank
pub mod Step
