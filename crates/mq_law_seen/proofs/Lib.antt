pub mod Bridges
pub mod Events
pub mod Receipts
pub mod Openings
pub mod Images
pub mod from_law_rows
