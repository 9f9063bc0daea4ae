pub mod Told
pub mod Forced
pub mod from_calls
pub mod from_message
pub mod from_record
pub mod from_spec_manager
