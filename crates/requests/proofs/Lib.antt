pub mod Texts
pub mod Opening
pub mod Passing
pub mod Fitting
pub mod Entries
pub mod Promises
