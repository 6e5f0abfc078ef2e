pub mod Kinds
pub mod PerKinds
pub mod Refusals
pub mod Seats
