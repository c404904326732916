pub mod Refusals
pub mod Orders
pub mod Logs
pub mod Runs
pub mod Spelling
pub mod Promised
pub mod Running
