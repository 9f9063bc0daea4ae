pub mod Keeping
pub mod Differing
pub mod Beginning
pub mod Unprepared
