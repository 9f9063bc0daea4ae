pub mod Looks
pub mod Turns
pub mod from_events
