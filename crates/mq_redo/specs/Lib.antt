pub mod Redone
pub mod from_core
