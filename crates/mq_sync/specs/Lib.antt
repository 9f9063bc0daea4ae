pub mod Units
pub mod Numbers
pub mod Turns
pub mod Settlement
