pub mod States
pub mod Slots
pub mod Homes
pub mod Held
pub mod Due
pub mod Deadlines
pub mod Rooms
pub mod from_queue
