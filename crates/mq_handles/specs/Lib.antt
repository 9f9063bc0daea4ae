pub mod Rising
pub mod Seats
pub mod Users
pub mod Desks
pub mod from_calls
pub mod from_objects
pub mod from_queue
pub mod from_spec_manager
