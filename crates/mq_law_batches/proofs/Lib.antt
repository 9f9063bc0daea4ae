pub mod Holding
pub mod Releasing
pub mod Settling
pub mod Stopping
pub mod Wording
pub mod from_law_events
