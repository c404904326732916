pub mod Digits
pub mod Writing
pub mod Pieces
pub mod Whole
pub mod Sizes
