pub mod Idle
pub mod Ends
pub mod Sights
