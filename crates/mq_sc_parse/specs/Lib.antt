pub mod Splitting
pub mod Checks
pub mod Asking
pub mod Parsing
pub mod from_sc_lex
