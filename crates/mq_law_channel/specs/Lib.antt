pub mod Facts
pub mod Channel
pub mod Turns
pub mod Following
pub mod Opening
pub mod Counting
pub mod Example
