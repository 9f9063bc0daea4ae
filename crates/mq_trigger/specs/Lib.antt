pub mod Seen
pub mod from_handles
