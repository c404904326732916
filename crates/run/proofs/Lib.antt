pub mod Spelling
pub mod Noting
pub mod Turning
pub mod Moving
pub mod Sofar
pub mod Telling
pub mod Keeping
