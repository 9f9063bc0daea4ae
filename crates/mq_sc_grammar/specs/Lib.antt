pub mod Written
pub mod Texts
pub mod Spelling
pub mod Commands
pub mod Faults
pub mod TextFaults
