pub mod Cancel
pub mod Places
pub mod Pairing
