pub mod Wanted
pub mod Headline
pub mod Work
pub mod Words
