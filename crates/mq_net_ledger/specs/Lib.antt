pub mod Answers
pub mod Posts
pub mod Arrivals
pub mod Opened
pub mod Spots
pub mod Reasons
pub mod from_story
