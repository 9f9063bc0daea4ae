pub mod Drawn
pub mod Soak
pub mod Texts
pub mod Line
pub mod Words
