pub mod Frames
pub mod Decoding
pub mod Sight
pub mod Reading
pub mod from_message
