pub mod Faults
pub mod FaultWords
pub mod Sections
pub mod Scripts
pub mod Reading
