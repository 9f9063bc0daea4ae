pub mod SoFar
pub mod Tells
pub mod Bounds
pub mod Laid
pub mod Values
pub mod from_law_log
pub mod from_law_manager
