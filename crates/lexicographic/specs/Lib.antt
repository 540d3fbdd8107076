pub mod Order
pub mod Later
pub mod Entries
pub mod Bodies
