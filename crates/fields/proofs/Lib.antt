pub mod Letters
pub mod Places
pub mod Lists
