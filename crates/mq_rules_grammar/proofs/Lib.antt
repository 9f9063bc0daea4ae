pub mod MarkLines
pub mod Words
pub mod Values
pub mod Said
pub mod Rules
pub mod Controls
pub mod Entries
pub mod Tables
