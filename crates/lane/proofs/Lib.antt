mod Rows
pub mod Underway
pub mod Sizes
pub mod Owned
