pub mod Low
pub mod Rules
pub mod Drains
