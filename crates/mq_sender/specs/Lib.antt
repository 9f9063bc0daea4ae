pub mod States
pub mod Table
pub mod After
pub mod Frames
pub mod from_sync
