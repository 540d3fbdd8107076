pub mod Positional
