pub mod Words
pub mod Faults
pub mod Operands
pub mod Options
pub mod Bodies
pub mod LineOptions
pub mod Commands
pub mod ScriptLines
