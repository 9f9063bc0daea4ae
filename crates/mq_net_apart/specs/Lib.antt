pub mod Opened
pub mod Twice
pub mod from_net_rows
