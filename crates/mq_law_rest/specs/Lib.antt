pub mod Until
pub mod Within
pub mod Rests
pub mod Values
