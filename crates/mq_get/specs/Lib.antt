pub mod Leaving
pub mod Gets
pub mod Rooms
pub mod Does
pub mod from_scan
pub mod from_unit
