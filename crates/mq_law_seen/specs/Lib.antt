pub mod Seen
pub mod Opening
pub mod Given
pub mod from_history
pub mod from_law_rows
pub mod from_sc_parse
pub mod from_spec_network
