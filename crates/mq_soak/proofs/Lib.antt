pub mod Lengths
pub mod Soaks
