pub mod Run
pub mod Ordered
pub mod from_law_events
pub mod from_law_one
