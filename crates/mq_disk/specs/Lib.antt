pub mod Disk
pub mod Files
pub mod Fuse
pub mod Memory
pub mod Shelves
pub mod Stops
pub mod from_base
