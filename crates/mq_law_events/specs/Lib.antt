pub mod Local
pub mod Rests
pub mod Tied
pub mod Posting
pub mod from_law_rows
pub mod from_law_seen
pub mod from_spec_network
