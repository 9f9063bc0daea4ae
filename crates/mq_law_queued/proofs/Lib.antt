pub mod Calms
pub mod CalmDeeds
pub mod Ends
pub mod Events
