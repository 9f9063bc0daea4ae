pub mod Recovering
pub mod Found
pub mod Kept
pub mod from_spec_log
