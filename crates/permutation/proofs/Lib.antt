pub mod Seen
pub mod Past
pub mod Taken
pub mod Filled
pub mod Arranging
pub mod Promises
pub mod Apart
