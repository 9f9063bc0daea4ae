pub mod Choice
pub mod Patterns
