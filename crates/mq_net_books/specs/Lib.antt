pub mod Openings
pub mod Gone
pub mod Handles
