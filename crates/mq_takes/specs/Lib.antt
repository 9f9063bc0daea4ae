pub mod Takes
pub mod Taken
pub mod Placing
pub mod Turning
pub mod OverWire
pub mod Words
pub mod from_turn_parts
