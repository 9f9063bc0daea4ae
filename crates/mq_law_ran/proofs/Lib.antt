pub mod Lawfuls
pub mod Keeping
pub mod from_law_one
pub mod from_law_run
pub mod from_law_story
