pub mod Lines
pub mod Quoting
pub mod Pieces
pub mod Numbers
