pub mod Facing
pub mod Took
pub mod Ends
pub mod Opening
pub mod Parting
pub mod Joining
