pub mod Deeds
pub mod Numbers
pub mod from_law_keys
pub mod from_law_unshared
