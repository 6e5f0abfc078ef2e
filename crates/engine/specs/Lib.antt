pub mod Commands
pub mod State
pub mod Judge
pub mod Performing
pub mod Ideal
pub mod Promise
pub mod Examples
