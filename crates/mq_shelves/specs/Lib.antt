pub mod Racks
pub mod Slots
pub mod Spots
pub mod Found
pub mod Holds
