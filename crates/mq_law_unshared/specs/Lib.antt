pub mod Ordinary
pub mod Unshared
pub mod Senders
pub mod from_law_keys
pub mod from_law_node
