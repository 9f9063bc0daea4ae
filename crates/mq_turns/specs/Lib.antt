pub mod Sends
pub mod Begins
pub mod Turning
pub mod Prepares
