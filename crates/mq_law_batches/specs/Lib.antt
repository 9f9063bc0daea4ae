pub mod Releases
pub mod from_law_events
