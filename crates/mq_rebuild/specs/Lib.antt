pub mod Rebuilt
pub mod from_place
pub mod from_sides
pub mod from_unit
