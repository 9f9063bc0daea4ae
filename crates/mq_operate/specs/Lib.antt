pub mod Works
pub mod Places
pub mod Senders
pub mod Receivers
pub mod from_core
