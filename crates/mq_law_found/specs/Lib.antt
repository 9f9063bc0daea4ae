pub mod Finds
pub mod from_law_events
pub mod from_law_log
