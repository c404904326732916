pub mod Settings
pub mod Ranges
pub mod Refusals
pub mod Words
pub mod Text
pub mod Layouts
pub mod SameItem
