pub mod Commands
pub mod Bodies
pub mod Options
pub mod Verbs
pub mod Lines
