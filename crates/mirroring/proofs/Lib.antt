pub mod Mirroring
pub mod Places
