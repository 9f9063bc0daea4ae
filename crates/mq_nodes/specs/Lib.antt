pub mod Course
pub mod Told
pub mod Pumps
pub mod Runs
pub mod Texts
pub mod Carried
