pub mod Seats
pub mod Course
pub mod Run
pub mod Theorems
pub mod Session
pub mod Certificate
