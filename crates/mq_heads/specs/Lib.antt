pub mod Headers
pub mod Stamps
pub mod from_base
pub mod from_message
