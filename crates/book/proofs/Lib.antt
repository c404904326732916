pub mod Pairs
pub mod Passing
pub mod Copying
pub mod Beginning
pub mod Fitting
pub mod Finishing
