pub mod Examined
pub mod Order
