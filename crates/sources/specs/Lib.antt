pub mod Halves
pub mod Calls
pub mod Quotas
pub mod Ranges
