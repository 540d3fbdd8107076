pub mod Record
pub mod Rules
