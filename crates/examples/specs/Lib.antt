pub mod LooseHandOver
pub mod Examples
