pub mod Told
pub mod Needs
pub mod from_law_rows
pub mod from_law_seen
