pub mod Doing
pub mod Fitting
pub mod Stepping
