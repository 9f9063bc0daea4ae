pub mod Comings
pub mod Backs
pub mod from_restart
