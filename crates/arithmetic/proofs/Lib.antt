pub mod Comparison
pub mod Sign
pub mod Integers
pub mod Division
pub mod Tests
