pub mod Quiet
pub mod Rests
pub mod Turns
pub mod Altered
pub mod Due
pub mod from_place
