pub mod Alone
pub mod from_law_story
