pub mod Bracketings
