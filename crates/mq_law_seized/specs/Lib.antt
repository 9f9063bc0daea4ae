pub mod Each
pub mod Seized
pub mod from_law_manager
