pub mod Joining
pub mod Tokens
pub mod Commands
