pub mod Weaving
pub mod Agreeing
pub mod Promising
pub mod Tying
pub mod Beginning
pub mod from_law_rows
pub mod from_law_seen
