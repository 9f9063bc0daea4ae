pub mod Rested
pub mod from_begin
pub mod from_opening
