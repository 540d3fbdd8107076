pub mod Mirror
pub mod Rank
pub mod Next
pub mod Following
pub mod Entries
pub mod Bodies
pub mod Widened
