pub mod Records
pub mod Reading
pub mod Room
pub mod from_calls
pub mod from_frame
pub mod from_message
pub mod from_queue
