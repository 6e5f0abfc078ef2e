pub mod Reading
pub mod Undoing
pub mod Sizes
pub mod Moving
pub mod Opening
