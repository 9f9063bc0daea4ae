pub mod Commanding
pub mod from_law_scenario
