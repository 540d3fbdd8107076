pub mod Closing
pub mod Deleting
