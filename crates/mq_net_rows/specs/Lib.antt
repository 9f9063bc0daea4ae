pub mod Homes
pub mod Stored
pub mod Rolls
pub mod from_spec_network
