pub mod Places
pub mod Numerals
pub mod Listing
pub mod Bounds
