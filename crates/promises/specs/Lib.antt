pub mod Listing
pub mod Checked
pub mod Orders
