mod Counted
mod Forced
mod Framed
pub mod Imaged
pub mod Logs
mod Opened
mod Scanned
mod Standing
