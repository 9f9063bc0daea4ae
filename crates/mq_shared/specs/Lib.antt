pub mod Held
pub mod Events
pub mod Phasing
pub mod Sharing
pub mod Taking
pub mod from_acts
pub mod from_split
pub mod from_turn_parts
