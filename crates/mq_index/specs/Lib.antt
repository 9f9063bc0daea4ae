pub mod Keys
pub mod Lanes
pub mod Chains
pub mod Walks
pub mod Slots
pub mod Stores
pub mod Moves
