pub mod Once
pub mod Groups
pub mod Lookup
pub mod Halves
pub mod Theorems
pub mod Instances
