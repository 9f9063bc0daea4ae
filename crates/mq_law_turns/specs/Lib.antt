pub mod Turns
pub mod Agreed
pub mod from_law_batches
pub mod from_law_events
pub mod from_law_receipts
pub mod from_law_rows
pub mod from_law_seen
pub mod from_law_story
