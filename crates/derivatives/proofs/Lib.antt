pub mod Inserted
pub mod Whole
pub mod Occurrences
pub mod Mixed
pub mod Linear
pub mod Deletions
pub mod Walking
