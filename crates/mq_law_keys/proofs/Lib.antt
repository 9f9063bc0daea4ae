pub mod Telling
pub mod Keeping
pub mod Starting
pub mod Taking
pub mod from_law_node
