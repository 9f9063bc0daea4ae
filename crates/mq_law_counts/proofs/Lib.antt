pub mod Climbing
pub mod Ending
pub mod Calling
pub mod Deeds
pub mod Opening
pub mod Counted
