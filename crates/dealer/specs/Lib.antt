pub mod Running
pub mod Ranges
pub mod Dealers
