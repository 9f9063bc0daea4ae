pub mod Faults
pub mod Keywords
pub mod Pairs
pub mod Values
pub mod Entries
pub mod Tables
