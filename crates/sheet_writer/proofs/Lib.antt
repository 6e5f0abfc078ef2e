pub mod Strokes
pub mod Writing
