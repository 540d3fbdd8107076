pub mod Answers
pub mod Rules
