pub mod Bits
pub mod Comparison
pub mod Sign
pub mod Division
pub mod Tests
pub mod Theorems
