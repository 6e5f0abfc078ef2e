pub mod Bits
pub mod Layout
pub mod Theorems
pub mod Places
pub mod Ranges
pub mod Sheets
